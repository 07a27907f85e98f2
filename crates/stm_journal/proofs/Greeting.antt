-- A greeting that is added, and where its append was stopped.
use Rattle.std.proofs.Common.{◌≡◌, ◌≤◌, ◌<◌, ℕ, zero, suc, ◌+◌, ◌-◌, ◌^◌, Bool, true, false, not, ◌&&◌, ◌==◌, nat_lt, nat_le, List, [], ◌∷◌, ◌++◌, length, take, refl, sym, ◌∙◌, ap, ap₂, arith, length-append, append_assoc, append-nil, subst, ⊎_elim}
use Rattle.std.specs.Prelude.{bytes_eq}
use Rattle.std.proofs.lemmas.Bool.{cases_lt, not-true}
use Rattle.std.proofs.lemmas.Bool.Decides.{nat_tests}
use Rattle.std.proofs.lemmas.List.{take_all, take-append-le, length-take-le}
use Rattle.stm_journal.proofs.Names.{after_line, capped, EntriesEndGreetings, good, greeting, greeting_line, GreetingsCountAsNothing, HasNoLF, is_greeted, IsLoaded, journal_of, line_of, line_text}
use Rattle.stm_journal.proofs.Names.{Loaded, loaded_greeted, mark, may_greet, StateData, Text, text_of}
use Rattle.stm_journal.proofs.Texts.{text-more-lines, text-more-tail}
use Rattle.stm_journal.proofs.Readings.{journal-line, journal-tail, lines-within}
use Rattle.stm_journal.proofs.Lines.{HasNoLF-line}
use Rattle.stm_journal.proofs.Greeted.{greeted-line, greeted-tail, entry-greets-none}
use Rattle.stm_journal.proofs.Ties.{no-tail, none-longer, void-after}
use Rattle.stm_journal.proofs.Stopping.{HasNoLF-take}

greeting-noLF : HasNoLF greeting
greeting-noLF = (refl, (refl, (refl, (refl, (refl, (refl, (refl, (refl, tt))))))))

-- behind whole lines a greeting leaves what they come to
means-greeted : (bytes : List ℕ) (s : StateData) → journal_of bytes ≡ good s → (text_of bytes).tail ≡ [] → journal_of (bytes ++ greeting_line) ≡ good s
means-greeted bytes s means empty =
    let number : ℕ = length (text_of bytes).lines + 1 in
    let ends : ℕ = length bytes + length greeting in
    journal-line bytes greeting s greeting-noLF means
    ∙ ap (λ (t : List ℕ). after_line number ends (good s) (t ++ greeting)) empty
    ∙ void-after number ends s greeting refl

now-greeted : (bytes : List ℕ) → (text_of bytes).tail ≡ [] → is_greeted (bytes ++ greeting_line) ≡ true
now-greeted bytes empty = greeted-line bytes greeting greeting-noLF ∙ ap (λ (t : List ℕ). bytes_eq (t ++ greeting) greeting) empty

pub pass-greeting : (l : Loaded) (bytes : List ℕ) → IsLoaded l bytes → l.is_torn ≡ false → length (bytes ++ greeting_line) ≤ 2 ^ 63 - 1 → IsLoaded (loaded_greeted l) (bytes ++ greeting_line)
pass-greeting l bytes is whole short =
    let size : length (bytes ++ greeting_line) ≡ length bytes + 9 = length-append bytes greeting_line in
    let few : length (text_of bytes).lines ≤ length bytes = lines-within bytes in
    let count : length (text_of bytes).lines + 1 ≡ capped (l.lines + 1) = omega (arith, is.lines) in
    let empty : (text_of bytes).tail ≡ [] = no-tail l bytes is whole in
    let more : text_of (bytes ++ greeting_line) ≡ record { lines = (text_of bytes).lines ++ ((text_of bytes).tail ++ greeting) ∷ []; tail = [] } = text-more-lines bytes greeting [] greeting-noLF in
    record {
      text = is.text;
      means = means-greeted bytes is.text is.means empty;
      state = is.state;
      lines = sym count ∙ sym (ap (λ (t : Text). length t.lines) more ∙ length-append (text_of bytes).lines (((text_of bytes).tail ++ greeting) ∷ []));
      size = omega (arith, is.size, size);
      is_torn = whole ∙ sym (ap (λ (t : Text). nat_lt 0 (length t.tail)) more);
      greeted = sym (now-greeted bytes empty);
    }

-- what the fields of a journal in memory are then
pub greeted-as : (l : Loaded) (state : StateData) (lines size more longer : ℕ) (torn greeted : Bool)
    → (let before : Loaded = record { state = state; lines = lines; size = size; is_torn = torn; is_greeted = greeted } in before) ≡ l
    → more ≡ capped (lines + 1) → longer ≡ capped (size + 9)
    → (let after : Loaded = record { state = state; lines = more; size = longer; is_torn = torn; is_greeted = true } in after) ≡ loaded_greeted l
greeted-as l state lines size more longer torn greeted is more-is longer-is =
    ap₂ (λ (n k : ℕ). let after : Loaded = record { state = state; lines = n; size = k; is_torn = torn; is_greeted = true } in after) more-is longer-is
    ∙ ap (λ (x : Loaded). loaded_greeted x) is

same-good : (s t : StateData) → good s ≡ good t → s ≡ t
same-good s t e = cc

-- and the state that the text comes to
pub same-state : (l : Loaded) (old new : List ℕ) (s s2 : StateData) → IsLoaded l old → l.is_torn ≡ false → new ≡ old ++ greeting_line
    → journal_of old ≡ good s → journal_of new ≡ good s2 → s2 ≡ s
same-state l old new s s2 is whole more means means2 =
    same-good s2 s (sym means2 ∙ ap (λ (xs : List ℕ). journal_of xs) more ∙ means-greeted old s means (no-tail l old is whole))

and-both : (a b : Bool) → (a && b) ≡ true → (a ≡ true) × (b ≡ true)
and-both true b h = (refl, h)
and-both false b h = absurd (no h)
  where
    no : false ≡ true → ⊥
    no h = cc

pub whole-of : (a b : Bool) → (not a && not b) ≡ true → a ≡ false
whole-of a b h = not-true a (and-both (not a) (not b) h).0

at-none : (n : ℕ) → (not (nat_lt 0 n) && not false) ≡ (n == 0)
at-none zero = refl
at-none (suc n) = grind (arith, nat_tests)

pub greetings-count-as-nothing : GreetingsCountAsNothing
greetings-count-as-nothing journal s n means may = ⊎_elim whole part (cases_lt 8 n)
  where
    both : (not (nat_lt 0 (length (text_of journal).tail)) ≡ true) × (not (is_greeted journal) ≡ true)
    both = and-both (not (nat_lt 0 (length (text_of journal).tail))) (not (is_greeted journal)) may

    empty : (text_of journal).tail ≡ []
    empty = none-longer (text_of journal).tail (not-true (nat_lt 0 (length (text_of journal).tail)) both.0)

    before : is_greeted journal ≡ false
    before = not-true (is_greeted journal) both.1

    Leaves : List ℕ → Type 0
    Leaves xs = (journal_of (journal ++ xs) ≡ good s) × ((is_greeted (journal ++ xs) ≡ nat_le 9 n) × (may_greet (journal ++ xs) ≡ (n == 0)))

    whole : 8 < n → Leaves (take n greeting_line)
    whole many =
        let all : take n greeting_line ≡ greeting_line = take_all n greeting_line (omega (arith, many)) in
        let is : is_greeted (journal ++ greeting_line) ≡ true = now-greeted journal empty in
        let counted : true ≡ nat_le 9 n = grind (arith, nat_tests, many) in
        let some : false ≡ (n == 0) = grind (arith, nat_tests, many) in
        subst Leaves (sym all) (means-greeted journal s means empty, (is ∙ counted, never (nat_lt 0 (length (text_of (journal ++ greeting_line)).tail)) (is_greeted (journal ++ greeting_line)) is ∙ some))
      where
        never : (a b : Bool) → b ≡ true → (not a && not b) ≡ false
        never true b h = refl
        never false true h = refl
        never false false h = sym h

    part : n ≤ 8 → Leaves (take n greeting_line)
    part few =
        let t : List ℕ = take n greeting in
        let cut : take n greeting_line ≡ t = take-append-le n greeting (10 ∷ []) few in
        let noLF : HasNoLF t = HasNoLF-take n greeting greeting-noLF in
        let tail : (text_of (journal ++ t)).tail ≡ t = ap (λ (x : Text). x.tail) (text-more-tail journal t noLF) ∙ ap (λ (xs : List ℕ). xs ++ t) empty in
        let count : length (text_of (journal ++ t)).tail ≡ n = ap (λ (xs : List ℕ). length xs) tail ∙ length-take-le n greeting few in
        let is : is_greeted (journal ++ t) ≡ false = greeted-tail journal t noLF ∙ before in
        let counted : false ≡ nat_le 9 n = grind (arith, nat_tests, few) in
        subst Leaves (sym cut) (journal-tail journal t noLF ∙ means, (is ∙ counted, ap₂ (λ (k : ℕ) (b : Bool). not (nat_lt 0 k) && not b) count is ∙ at-none n))

pub entries-end-greetings : EntriesEndGreetings
entries-end-greetings journal e torn printable is = at torn is
  where
    line : List ℕ
    line = line_of e

    same : line_text e ++ [] ≡ line ++ 10 ∷ []
    same = append-nil (line_text e)

    ended : (bytes : List ℕ) → (text_of bytes).tail ≡ [] → is_greeted (bytes ++ (line_text e ++ [])) ≡ false
    ended bytes empty =
        ap (λ (xs : List ℕ). is_greeted (bytes ++ xs)) same
        ∙ greeted-line bytes line (HasNoLF-line e printable)
        ∙ ap (λ (t : List ℕ). bytes_eq (t ++ line) greeting) empty
        ∙ entry-greets-none e printable

    at : (torn : Bool) → torn ≡ nat_lt 0 (length (text_of journal).tail) → is_greeted (journal ++ (mark torn ++ (line_text e ++ []))) ≡ false
    at false is = ended journal (none-longer (text_of journal).tail (sym is))
    at true is =
        let bang : List ℕ = 33 ∷ [] in
        ap (λ (xs : List ℕ). is_greeted xs) (sym (append_assoc journal (bang ++ 10 ∷ []) (line_text e ++ [])))
        ∙ ended (journal ++ (bang ++ 10 ∷ [])) (ap (λ (t : Text). t.tail) (text-more-lines journal bang [] (refl, tt)))
