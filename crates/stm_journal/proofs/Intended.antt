-- The newest segment keeps the page of its intent, whatever an entry makes of it.
use Rattle.std.proofs.Common.{◌≡◌, Bool, true, false, ◌||◌, ◌==◌, List, [], ◌∷◌, Option, Some, refl, sym, ◌∙◌, ap, subst}
use Rattle.std.proofs.lemmas.List.Folds.{list_any-append}
use Rattle.std.proofs.lemmas.Option.{none-some, same_Some}
use Rattle.stm_wire.specs.declared.intent.Intent.{Intent}
use Rattle.stm_journal.proofs.Names.{AllEnded, ended_segment, intending, intent_at, intent_page, IntentIsKept, JournalHeader, keeping, keeps, Kept, newest_has, on_newest, SegmentData, Stage}
use Rattle.stm_journal.proofs.Names.{stage_with}
use Rattle.stm_journal.specs.declared.stage.Stage.TheVariants.{Open, Ended, Returning}

intent-with : (i : Intent) (stage : Stage) → intent_at (stage_with i stage) ≡ Some i
intent-with i (Open old) = refl
intent-with i Ended = refl
intent-with i (Returning old) = refl

pub intended-intend : (header : Option JournalHeader) (stack : List SegmentData) (i : Intent) → newest_has (λ segment. keeps segment (intent_page i)) stack ≡ true
    → IntentIsKept (record { header = header; stack = on_newest (intending i) stack })
intended-intend header [] i kept j is = absurd (none-some j is)
intended-intend header (segment ∷ below) i kept j is =
    let K : Intent → Type 0 = λ x. keeps segment (intent_page x) ≡ true in
    subst K (same_Some i j (sym (intent-with i segment.stage) ∙ is)) kept

pub intended-keep : (header : Option JournalHeader) (segment : SegmentData) (below : List SegmentData) (k : Kept) → IntentIsKept (record { header = header; stack = segment ∷ below })
    → IntentIsKept (record { header = header; stack = keeping k segment ∷ below })
intended-keep header segment below k intended i is =
    list_any-append (λ x. x.page == intent_page i) segment.pages (k ∷ []) ∙ ap (λ (b : Bool). b || ((k.page == intent_page i) || false)) (intended i is)

pub intended-end : (header : Option JournalHeader) (stack : List SegmentData) → IntentIsKept (record { header = header; stack = on_newest ended_segment stack })
intended-end header [] i is = absurd (none-some i is)
intended-end header (segment ∷ below) i is = absurd (none-some i is)

-- an ended segment has no intent
pub intended-ended : (header : Option JournalHeader) (stack : List SegmentData) → AllEnded stack → IntentIsKept (record { header = header; stack = stack })
intended-ended header [] ended i is = absurd (none-some i is)
intended-ended header (segment ∷ below) ended i is = absurd (none-some i (sym (ap (λ (s : Stage). intent_at s) ended.0) ∙ is))
