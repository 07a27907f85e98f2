-- Entries that the line rules allow.
use Rattle.std.proofs.Common.{◌≡◌, ◌≤◌, ◌<◌, ℕ, ◌+◌, not, ◌&&◌, ◌==◌, List, [], ◌∷◌, length, Option, Some, None, refl, sym, ◌∙◌, ap, subst, arith, IsTrue, if◌then◌else◌}
use Rattle.std.specs.Prelude.{is_none, IsSome}
use Rattle.std.proofs.lemmas.Bool.{false≢true}
use Rattle.stm_wire.proofs.Names.{IsUniqueId}
use Rattle.stm_journal.proofs.Names.{allows, begin_entries, empty_state, first_entries, is_unfinished, IsSound, JournalHeader, Loaded, past_mark, SegmentData, StateData, version_for}
use Rattle.stm_journal.specs.declared.entry.Entry.TheVariants.{Names, Opens}
use Rattle.stm_journal.specs.lemmas.CallEntries.{header-for}
use Rattle.stm_journal.proofs.Ties.{AllAllowed, mark-state}

-- the header and the first segment's line
pub AllAllowed-first : (id : ℕ) (unique : List ℕ) (l : Loaded) → id ≤ 65535 → IsUniqueId unique → l.state ≡ empty_state → AllAllowed (first_entries id unique) (past_mark l)
AllAllowed-first id unique l within told fresh =
    let state : (past_mark l).state ≡ empty_state = mark-state l ∙ fresh in
    let S : StateData → Type 0 = λ s. IsTrue (allows s (Names (version_for unique) id unique)) in
    let N : StateData → Type 0 = λ s. IsTrue (not (is_unfinished s) && (1 == length s.stack + 1)) in
    ((header-for unique told, within), (subst S (sym state) refl, ((omega arith), (subst N (sym state) refl, tt))))

empty-below : (s : StateData) → IsSound s → s.header ≡ None → length s.stack ≡ 0
empty-below s sound none = at s.stack refl
  where
    at : (stack : List SegmentData) → s.stack ≡ stack → length s.stack ≡ 0
    at [] e = ap (λ (xs : List SegmentData). length xs) e
    at (x ∷ xs) e =
        let H : Option JournalHeader → Type 0 = λ h. IsSome h in
        let filled : 0 < length s.stack = omega (arith, ap (λ (ys : List SegmentData). length ys) e) in
        absurd (false≢true (subst H none (sound.named filled)))

-- a segment begun under the header that stands
pub begin-opens-of : (id : ℕ) (unique : List ℕ) (s t : StateData) (header : JournalHeader) (k : ℕ) → s ≡ t → s.header ≡ Some header → k ≡ length s.stack + 1
    → begin_entries id unique t ≡ Opens k ∷ []
begin-opens-of id unique s t header k same named count =
    let B : StateData → Type 0 = λ x. begin_entries id unique x ≡ Opens k ∷ [] in
    subst B same
    (ap (λ (h : Option JournalHeader). if is_none h then Names (version_for unique) id unique ∷ Opens (length s.stack + 1) ∷ [] else Opens (length s.stack + 1) ∷ []) named
    ∙ ap (λ (n : ℕ). Opens n ∷ []) (sym count))

-- a journal without a header begins with it and its first segment
pub begin-first : (id : ℕ) (unique : List ℕ) (s : StateData) → IsSound s → s.header ≡ None → begin_entries id unique s ≡ first_entries id unique
begin-first id unique s sound none =
    let first : length s.stack + 1 ≡ 1 = omega (arith, empty-below s sound none) in
    ap (λ (h : Option JournalHeader). if is_none h then Names (version_for unique) id unique ∷ Opens (length s.stack + 1) ∷ [] else Opens (length s.stack + 1) ∷ []) none
    ∙ ap (λ (k : ℕ). Names (version_for unique) id unique ∷ Opens k ∷ []) first

pub begin-first-of : (id : ℕ) (unique : List ℕ) (s t : StateData) → s ≡ t → IsSound s → s.header ≡ None → begin_entries id unique t ≡ first_entries id unique
begin-first-of id unique s t same sound none =
    let B : StateData → Type 0 = λ x. begin_entries id unique x ≡ first_entries id unique in
    subst B same (begin-first id unique s sound none)
