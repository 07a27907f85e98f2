-- Lines that are added one after another, and a beginning of them.
use Rattle.std.proofs.Common.{◌≡◌, ℕ, ◌+◌, ◌<◌, ◌≤◌, ⊎_elim, Bool, List, [], ◌∷◌, ◌++◌, length, take, refl, sym, ◌∙◌, ap, ap₂, append_assoc, append-nil, arith}
use Rattle.std.proofs.Math.Seq.{take-append_seam, take-append-add, take-length}
use Rattle.std.proofs.lemmas.List.{take_all, take-append-le}
use Rattle.std.proofs.lemmas.Bool.{cases_lt}
use Rattle.std.proofs.lemmas.Grind.{flat_map-append}
use Rattle.stm_journal.specs.declared.entry.Entry.{Entry}
use Rattle.stm_journal.specs.declared.entry.Entry.TheVariants.{Keeps, Erases, Programs}
use Rattle.stm_journal.proofs.Names.{HasAdded, KeepsSame, line_text, mark, StateData}
use Rattle.stm_journal.specs.lemmas.NewestLaws.{KeepsSame-refl, KeepsSame-trans}
use Rattle.stm_session.proofs.Names.{AddsLines, AreIntents, is_torn_at, state_at, text_added, torn_after}

pub torn_after-append : (torn : Bool) (xs ys : List Entry) → torn_after (torn_after torn xs) ys ≡ torn_after torn (xs ++ ys)
torn_after-append torn [] ys = refl
torn_after-append torn (x ∷ xs) [] = refl
torn_after-append torn (x ∷ xs) (y ∷ ys) = refl

pub text_added-append : (torn : Bool) (xs ys : List Entry) → text_added torn (xs ++ ys) ≡ text_added torn xs ++ text_added (torn_after torn xs) ys
text_added-append torn [] ys = refl
text_added-append torn (x ∷ xs) [] = ap (λ es. text_added torn (x ∷ es)) (append-nil xs) ∙ sym (append-nil (text_added torn (x ∷ xs)))
text_added-append torn (x ∷ xs) (y ∷ ys) =
    ap (λ bytes. mark torn ++ bytes) (flat_map-append line_text (x ∷ xs) (y ∷ ys)) ∙ sym (append_assoc (mark torn) _ _)

-- a beginning of a front is one of the whole
pub front_part : (n : ℕ) (xs ys : List ℕ) → (m : ℕ) × (take n xs ≡ take m (xs ++ ys))
front_part n xs ys = ⊎_elim less more (cases_lt n (length xs))
  where
    less : n < length xs → (m : ℕ) × (take n xs ≡ take m (xs ++ ys))
    less lt = (n, sym (take-append-le n xs ys (omega (arith, lt))))

    more : length xs ≤ n → (m : ℕ) × (take n xs ≡ take m (xs ++ ys))
    more le = (length xs, take_all n xs le ∙ sym (take-append_seam xs ys))

-- a beginning of what comes behind the front
pub behind_part : (n : ℕ) (front xs ys : List ℕ) → (front ++ xs) ++ take n ys ≡ front ++ take (length xs + n) (xs ++ ys)
behind_part n front xs ys = append_assoc front xs (take n ys) ∙ ap (λ bytes. front ++ bytes) (sym (take-append-add xs ys n))

-- all of it
pub whole_part : (xs : List ℕ) → xs ≡ take (length xs) xs
whole_part xs = sym (take-length xs)

pub adds_none : (journal : List ℕ) → AddsLines [] journal journal
adds_none journal = record { added = sym (append-nil journal); torn = refl; same = λ intents. KeepsSame-refl (state_at journal) }

-- a beginning of later lines, seen from the start
pub lines_later : (xs ys : List Entry) (a b journal : List ℕ) (written : ℕ) → AddsLines xs a b → journal ≡ b ++ take written (text_added (is_torn_at b) ys)
    → journal ≡ a ++ take (length (text_added (is_torn_at a) xs) + written) (text_added (is_torn_at a) (xs ++ ys))
lines_later xs ys a b journal written adds later =
    let torn = is_torn_at a in
    later ∙ ap (λ (j : List ℕ). j ++ take written (text_added (is_torn_at b) ys)) adds.added
    ∙ ap (λ (t : Bool). (a ++ text_added torn xs) ++ take written (text_added t ys)) adds.torn
    ∙ behind_part written a (text_added torn xs) (text_added (torn_after torn xs) ys)
    ∙ ap (λ bytes. a ++ take (length (text_added torn xs) + written) bytes) (sym (text_added-append torn xs ys))

-- lines that are intents, one after another
pub intents_then : (xs ys : List Entry) → AreIntents xs → AreIntents ys → AreIntents (xs ++ ys)
intents_then [] ys first next = next
intents_then (Erases n ∷ xs) ys first next = intents_then xs ys first next
intents_then (Programs n ∷ xs) ys first next = intents_then xs ys first next
intents_then xs ys first next = first

intents_apart : (xs ys : List Entry) → AreIntents (xs ++ ys) → AreIntents xs × AreIntents ys
intents_apart [] ys all = (tt, all)
intents_apart (Erases n ∷ xs) ys all = intents_apart xs ys all
intents_apart (Programs n ∷ xs) ys all = intents_apart xs ys all
intents_apart xs ys all = absurd all

-- what one line made of the segments
pub same_after : (e : Entry) (s s2 : StateData) → HasAdded e s s2 → AreIntents (e ∷ []) → KeepsSame s s2
same_after (Erases n) s s2 has intents = has.same
same_after (Programs n) s s2 has intents = has.same
same_after e s s2 has intents = absurd intents

pub adds_then : (xs ys : List Entry) (a b c : List ℕ) → AddsLines xs a b → AddsLines ys b c → AddsLines (xs ++ ys) a c
adds_then xs ys a b c first second =
    let torn : is_torn_at b ≡ torn_after (is_torn_at a) xs = first.torn in
    record {
      added = second.added ∙ ap₂ (λ (j : List ℕ) (t : Bool). j ++ text_added t ys) first.added torn
          ∙ append_assoc a (text_added (is_torn_at a) xs) (text_added (torn_after (is_torn_at a) xs) ys)
          ∙ ap (λ bytes. a ++ bytes) (sym (text_added-append (is_torn_at a) xs ys));
      torn = second.torn ∙ ap (λ (t : Bool). torn_after t ys) torn ∙ torn_after-append (is_torn_at a) xs ys;
      same = λ intents.
          let apart = intents_apart xs ys intents in
          KeepsSame-trans (state_at a) (state_at b) (state_at c) (first.same apart.0) (second.same apart.1);
    }
