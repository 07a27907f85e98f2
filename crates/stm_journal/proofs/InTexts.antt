-- What an append made of the state that the text comes to.
use Rattle.std.proofs.Common.{◌≡◌, ◌≤◌, ℕ, false, Option, Some, None, List, [], ◌∷◌, ◌++◌, refl, sym, ◌∙◌, ap, subst, arith, IsTrue}
use Rattle.std.specs.Prelude.{option_map, option_and_then}
use Rattle.stm_wire.proofs.Names.{IsUniqueId}
use Rattle.stm_journal.proofs.Names.{added_bytes, allows, empty_state, Entry, first_entries, forget_entry, forget_state, good, HasAdded, HasBegun, HasOpenedSegment, header_board, InText}
use Rattle.stm_journal.proofs.Names.{is_other_board, IsLoaded, IsPrintable, journal_of, JournalHeader, Loaded, SegmentData, StateData, version_for}
use Rattle.stm_journal.specs.lemmas.CallEntries.{header-for, own-board}
use Rattle.stm_journal.specs.lemmas.ForgetLaws.{allows-forgets}
use Rattle.stm_journal.proofs.Sound.{journal-is-sound}
use Rattle.stm_journal.proofs.AfterCalls.{HasAdded-entry, HasBegun-opened}
use Rattle.stm_journal.proofs.Stopping.{added-entries}

same-good : (s t : StateData) → good s ≡ good t → s ≡ t
same-good s t e = cc

-- the state in memory is the text's
pub tied-to : (l : Loaded) (journal : List ℕ) (s : StateData) → IsLoaded l journal → journal_of journal ≡ good s → l.state ≡ forget_state s
tied-to l journal s is means = is.state ∙ ap (λ (t : StateData). forget_state t) (same-good is.text s (sym is.means ∙ means))

pub InText-added : (l : Loaded) (e : Entry) (old new : List ℕ) → IsLoaded l old → IsTrue (allows l.state (forget_entry e)) → IsPrintable e
    → new ≡ old ++ added_bytes l.is_torn (e ∷ []) → InText (HasAdded e) old new
InText-added l e old new is may printable more s s2 means means2 =
    let A : StateData → Type 0 = λ t. IsTrue (allows t (forget_entry e)) in
    let may2 : IsTrue (allows s e) = sym (allows-forgets s e) ∙ subst A (tied-to l old s is means) may in
    let added = added-entries l old s (e ∷ []) is means (may2, λ line ends. tt) (printable, tt) in
    let same : s2 ≡ added.0 = same-good s2 added.0 (sym means2 ∙ ap (λ (xs : List ℕ). journal_of xs) more ∙ added.1) in
    let H : StateData → Type 0 = λ t. HasAdded e s t in
    subst H (sym (same ∙ added.2.2)) (HasAdded-entry added.2.0 added.2.1 s e (journal-is-sound old s means) may2)

none-kept : (s : StateData) → forget_state s ≡ empty_state → s ≡ empty_state
none-kept s e = at s.header s.stack (ap (λ (t : StateData). t.header) e) (ap (λ (t : StateData). t.stack) e)
  where
    empty : (segment : SegmentData) (below : List SegmentData) → segment ∷ below ≡ [] → ⊥
    empty segment below h = cc

    at : (header : Option JournalHeader) (stack : List SegmentData) → header ≡ None → (forget_state (record { header = header; stack = stack })).stack ≡ []
        → (let t : StateData = record { header = header; stack = stack } in t) ≡ empty_state
    at header [] h e = ap (λ (x : Option JournalHeader). let t : StateData = record { header = x; stack = [] } in t) h
    at header (segment ∷ below) h e = absurd (empty _ _ e)

pub InText-first : (l : Loaded) (id : ℕ) (unique : List ℕ) (old new : List ℕ) → IsLoaded l old → l.state ≡ empty_state → id ≤ 65535 → IsUniqueId unique
    → new ≡ old ++ added_bytes l.is_torn (first_entries id unique) → InText (HasBegun id unique) old new
InText-first l id unique old new is fresh within told more s s2 means means2 =
    let none : s ≡ empty_state = none-kept s (sym (tied-to l old s is means) ∙ fresh) in
    let means0 : journal_of old ≡ good empty_state = means ∙ ap (λ (t : StateData). good t) none in
    let added = added-entries l old empty_state (first_entries id unique) is means0 (refl, λ line ends. (refl, λ line2 ends2. tt)) ((header-for unique told, within), ((omega arith), tt)) in
    let same : s2 ≡ added.0 = same-good s2 added.0 (sym means2 ∙ ap (λ (xs : List ℕ). journal_of xs) more ∙ added.1) in
    let H : StateData → Type 0 = λ t. HasBegun id unique s t in
    let header : JournalHeader = record { version = version_for unique; id = id; unique = unique; line = added.2.0 } in
    subst H (sym (same ∙ added.2.2.2)) (HasBegun-opened id 1 unique (Some header) [] s refl (own-board unique header refl) (ap (λ (t : StateData). t.stack) none))

named-so : (id : ℕ) (header : Option JournalHeader) (h : JournalHeader) → header ≡ Some h → h.id ≡ id → option_map (λ x. x.id) header ≡ Some id
named-so id header h is same = ap (λ (o : Option JournalHeader). option_map (λ x. x.id) o) is ∙ ap (λ (n : ℕ). Some n) same

-- a segment begun under the header that stands
pub InText-opened : (l : Loaded) (id : ℕ) (unique : List ℕ) (h : JournalHeader) (old new : List ℕ) → IsLoaded l old → l.state.header ≡ Some h → h.id ≡ id
    → is_other_board unique (header_board h) ≡ false → InText HasOpenedSegment old new → InText (HasBegun id unique) old new
InText-opened l id unique h old new is named same mine opened s s2 means means2 =
    let tied : l.state ≡ forget_state s = tied-to l old s is means in
    let text : s.header ≡ Some h = sym (ap (λ (t : StateData). t.header) tied) ∙ named in
    (opened s s2 means means2).1 id unique (named-so id s.header h text same)
    (ap (λ (o : Option JournalHeader). is_other_board unique (option_and_then header_board o)) text ∙ mine)
