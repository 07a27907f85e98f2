-- What a journal comes to where an append of entries was stopped.
use Rattle.std.proofs.Common.{◌≡◌, ◌⊎◌, ℕ, zero, suc, ◌+◌, ◌-◌, Bool, true, false, not, ◌==◌, Option, Some, None, IsTrue, append-nil, List, [], ◌∷◌, ◌++◌, length, take, flat_map, refl, sym, ◌∙◌, ap, subst, inl, inr, ⊎_elim, arith, length-append, append_assoc}
use Rattle.std.proofs.lemmas.Bool.{cases_lt}
use Rattle.std.proofs.lemmas.List.{take-append-le}
use Rattle.stm_journal.proofs.Names.{added_bytes, after_entry, after_line, AllAllowed, allows, AllPrintable, begin_entries, BeginningsAreGood, BeginningsLeaveEither, EntriesLead, EntriesLeaveEither}
use Rattle.stm_journal.proofs.Names.{Entry, good, HasAdded, HasBegun, HasNoLF, IsLoaded, IsSound, journal_of, JournalHeader, line_of, line_text, Loaded, mark, names_other, names_other_board}
use Rattle.stm_journal.proofs.Names.{NamesThis, SegmentData, StateData, Text, text_of, version_for}
use Rattle.std.proofs.lemmas.Bool.Decides.{nat_tests}
use Rattle.stm_journal.specs.lemmas.CallEntries.{allowed-begin, printable-begin, own-board}
use Rattle.stm_journal.proofs.Sound.{journal-is-sound}
use Rattle.stm_journal.proofs.AfterCalls.{HasAdded-entry, HasBegun-opened}
use Rattle.stm_journal.proofs.Texts.{text-more-lines}
use Rattle.stm_journal.proofs.Readings.{journal-line, journal-tail}
use Rattle.stm_journal.proofs.Lines.{HasNoLF-line, is_void-marked}
use Rattle.stm_journal.proofs.Ties.{no-tail, void-after, said-after}

-- these bytes come to what a beginning of the entries makes of the state
abbrev Begun : List Entry → StateData → List ℕ → Type 0
Begun entries s bytes = (s2 : StateData) × (journal_of bytes ≡ good s2) × EntriesLead entries s s2

leads-nowhere : (entries : List Entry) (s : StateData) → EntriesLead entries s s
leads-nowhere [] s = refl
leads-nowhere (e ∷ entries) s = inl refl

pub HasNoLF-take : (n : ℕ) (xs : List ℕ) → HasNoLF xs → HasNoLF (take n xs)
HasNoLF-take zero xs h = tt
HasNoLF-take (suc n) [] h = tt
HasNoLF-take (suc n) (x ∷ xs) h = (h.0, HasNoLF-take n xs h.1)

-- no whole line is added
begun-none : (entries : List Entry) (s : StateData) (journal bytes : List ℕ) → journal_of journal ≡ good s → HasNoLF bytes → Begun entries s (journal ++ bytes)
begun-none entries s journal bytes is h = (s, journal-tail journal bytes h ∙ is, leads-nowhere entries s)

take-past : (xs ys : List ℕ) (m : ℕ) → take (length xs + m) (xs ++ ys) ≡ xs ++ take m ys
take-past [] ys m = let e : 0 + m ≡ m = omega arith in ap (λ (k : ℕ). take k ys) e
take-past (x ∷ xs) ys m =
    let e : suc (length xs) + m ≡ suc (length xs + m) = omega arith in
    ap (λ (k : ℕ). take k (x ∷ (xs ++ ys))) e ∙ ap (λ (zs : List ℕ). x ∷ zs) (take-past xs ys m)

-- a stop in the lines of the entries, behind whole lines
begun-entries : (entries : List Entry) (s : StateData) (journal : List ℕ) (n : ℕ) → AllAllowed entries s → AllPrintable entries → journal_of journal ≡ good s → (text_of journal).tail ≡ []
    → Begun entries s (journal ++ take n (flat_map line_text entries))
begun-entries [] s journal n may printable is whole = begun-none [] s journal (take n []) is (HasNoLF-take n [] tt)
begun-entries (e ∷ entries) s journal n may printable is whole =
    let line : List ℕ = line_of e in
    let text : List ℕ = line_text e in
    let rest : List ℕ = flat_map line_text entries in
    let noLF : HasNoLF line = HasNoLF-line e printable.0 in
    let B : List ℕ → Type 0 = λ xs. Begun (e ∷ entries) s (journal ++ xs) in
    ⊎_elim
    (λ past.
    let number : ℕ = length (text_of journal).lines + 1 in
    let ends : ℕ = length journal + length line in
    let next : StateData = after_entry number ends s e in
    let m : ℕ = n - length text in
    let size : length text + m ≡ n = omega (arith, past, length-append line (10 ∷ [])) in
    let cut : text ++ take m rest ≡ take n (text ++ rest) = sym (take-past text rest m) ∙ ap (λ (k : ℕ). take k (text ++ rest)) size in
    let state : journal_of (journal ++ text) ≡ good next =
    journal-line journal line s noLF is ∙ ap (λ (t : List ℕ). after_line number ends (good s) (t ++ line)) whole ∙ said-after number ends s e printable.0 may.0
    in
    let more = begun-entries entries next (journal ++ text) m (may.1 number ends) printable.1 state (ap (λ (t : Text). t.tail) (text-more-lines journal line [] noLF)) in
    subst B cut (more.0, ap (λ (xs : List ℕ). journal_of xs) (sym (append_assoc journal text (take m rest))) ∙ more.1, inr (number, ends, more.2)))
    (λ within.
    let cut : take n line ≡ take n (text ++ rest) = sym (ap (λ (xs : List ℕ). take n xs) (append_assoc line (10 ∷ []) rest) ∙ take-append-le n line (10 ∷ rest) within) in
    subst B cut (begun-none (e ∷ entries) s journal (take n line) is (HasNoLF-take n line noLF)))
    (cases_lt (length line) n)

-- a mark changes nothing
marked-state : (l : Loaded) (journal : List ℕ) (s : StateData) → journal_of journal ≡ good s → journal_of (journal ++ ((33 ∷ []) ++ 10 ∷ [])) ≡ good s
marked-state l journal s means =
    journal-line journal (33 ∷ []) s (refl, tt) means
    ∙ void-after (length (text_of journal).lines + 1) (length journal + 1) s ((text_of journal).tail ++ 33 ∷ []) (is_void-marked (text_of journal).tail)

own : (id : ℕ) → not (id == id) ≡ false
own id = grind (arith, nat_tests)

-- each of these entries leads on from one state to the other, whatever numbers and places their lines have
abbrev pub LeadsAll : List Entry → StateData → StateData → Type 0
LeadsAll [] s s2 = s2 ≡ s
LeadsAll (e ∷ entries) s s2 = (line : ℕ) × (ends : ℕ) × LeadsAll entries (after_entry line ends s e) s2

-- a stop in the mark or behind it
begun-mark : (torn : Bool) (l : Loaded) (journal : List ℕ) (s : StateData) (entries : List Entry) (n : ℕ) → l.is_torn ≡ torn → IsLoaded l journal → journal_of journal ≡ good s
    → AllAllowed entries s → AllPrintable entries → Begun entries s (journal ++ take n (mark torn ++ flat_map line_text entries))
begun-mark false l journal s entries n torn is means may printable = begun-entries entries s journal n may printable means (no-tail l journal is torn)
begun-mark true l journal s entries zero torn is means may printable = begun-none entries s journal [] means tt
begun-mark true l journal s entries (suc zero) torn is means may printable = begun-none entries s journal (33 ∷ []) means (refl, tt)
begun-mark true l journal s entries (suc (suc m)) torn is means may printable =
    let bang : List ℕ = 33 ∷ [] in
    let marked : List ℕ = journal ++ (bang ++ 10 ∷ []) in
    let state : journal_of marked ≡ good s = marked-state l journal s means in
    let B : List ℕ → Type 0 = λ xs. Begun entries s xs in
    subst B (append_assoc journal (bang ++ 10 ∷ []) (take m (flat_map line_text entries)))
    (begun-entries entries s marked m may printable state (ap (λ (t : Text). t.tail) (text-more-lines journal bang [] (refl, tt))))

pub beginnings-are-good : BeginningsAreGood
beginnings-are-good l journal s entries n is means may printable = begun-mark l.is_torn l journal s entries n refl is means may printable

-- one entry: the old state or the new one
pub entries-leave-either : EntriesLeaveEither
entries-leave-either l journal s e n is means may printable =
    let begun = beginnings-are-good l journal s (e ∷ []) n is means (may, λ line ends. tt) (printable, tt) in
    (begun.0, begun.1, ⊎_elim (λ none. inl none) (λ more. inr (added-state e s begun.0 more.0 more.1 (journal-is-sound journal s means) may more.2)) begun.2)
  where
    added-state : (e : Entry) (s s2 : StateData) (line ends : ℕ) → IsSound s → IsTrue (allows s e) → s2 ≡ after_entry line ends s e → HasAdded e s s2
    added-state e s s2 line ends sound may same =
        let H : StateData → Type 0 = λ x. HasAdded e s x in
        subst H (sym same) (HasAdded-entry line ends s e sound may)

-- what begins a segment
begun-at : (id : ℕ) (unique : List ℕ) (header : Option JournalHeader) (stack : List SegmentData) (s2 : StateData) → NamesThis id unique (record { header = header; stack = stack })
    → EntriesLead (begin_entries id unique (record { header = header; stack = stack })) (record { header = header; stack = stack }) s2
    → ((s2.stack ≡ stack) × NamesThis id unique s2) ⊎ HasBegun id unique (record { header = header; stack = stack }) s2
begun-at id unique None stack s2 mine leads =
    let header : ℕ → JournalHeader = λ line. record { version = version_for unique; id = id; unique = unique; line = line } in
    ⊎_elim
    (λ none. inl (ap (λ (s : StateData). s.stack) none, (ap (λ (s : StateData). names_other id s) none, ap (λ (s : StateData). names_other_board unique s) none)))
    (λ named. ⊎_elim
    (λ none.
    inl (
      ap (λ (s : StateData). s.stack) none,
      (ap (λ (s : StateData). names_other id s) none ∙ own id, ap (λ (s : StateData). names_other_board unique s) none ∙ own-board unique (header named.0) refl),
    ))
    (λ opened.
    let H : StateData → Type 0 = λ x. HasBegun id unique (record { header = None; stack = stack }) x in
    inr
    (subst H (sym opened.2)
    (HasBegun-opened id (length stack + 1) unique (Some (header named.0)) stack (record { header = None; stack = stack }) refl (own-board unique (header named.0) refl) refl)))
    named.2)
    leads
begun-at id unique (Some h) stack s2 mine leads =
    ⊎_elim
    (λ none.
    inl (ap (λ (s : StateData). s.stack) none, (ap (λ (s : StateData). names_other id s) none ∙ mine.0, ap (λ (s : StateData). names_other_board unique s) none ∙ mine.1)))
    (λ opened.
    let H : StateData → Type 0 = λ x. HasBegun id unique (record { header = Some h; stack = stack }) x in
    inr
    (subst H (sym opened.2)
    (HasBegun-opened id (length stack + 1) unique (Some h) stack (record { header = Some h; stack = stack }) (ap (λ (k : ℕ). Some k) (same-id h.id id mine.0)) mine.1 refl)))
    leads
  where
    same-id : (a b : ℕ) → not (a == b) ≡ false → a ≡ b
    same-id a b h = grind (arith, nat_tests)

pub beginnings-leave-either : BeginningsLeaveEither
beginnings-leave-either l journal s id unique n is means finished mine within told room =
    let begun = beginnings-are-good l journal s (begin_entries id unique s) n is means (allowed-begin id unique s finished) (printable-begin id unique s within told room) in
    (begun.0, begun.1, begun-at id unique s.header s.stack begun.0 mine begun.2)

-- the whole of an append of entries: each is added, whatever numbers and places their lines have
pub added-entries : (l : Loaded) (journal : List ℕ) (s : StateData) (entries : List Entry) → IsLoaded l journal → journal_of journal ≡ good s → AllAllowed entries s → AllPrintable entries
    → (s2 : StateData) × (journal_of (journal ++ added_bytes l.is_torn entries) ≡ good s2) × LeadsAll entries s s2
added-entries l journal s entries is means may printable = marked l.is_torn refl
  where
    each : (entries : List Entry) (s : StateData) (journal : List ℕ) → AllAllowed entries s → AllPrintable entries → journal_of journal ≡ good s → (text_of journal).tail ≡ []
        → (s2 : StateData) × (journal_of (journal ++ flat_map line_text entries) ≡ good s2) × LeadsAll entries s s2
    each [] s journal may printable means whole = (s, ap (λ (xs : List ℕ). journal_of xs) (append-nil journal) ∙ means, refl)
    each (e ∷ entries) s journal may printable means whole =
        let line : List ℕ = line_of e in
        let text : List ℕ = line_text e in
        let rest : List ℕ = flat_map line_text entries in
        let number : ℕ = length (text_of journal).lines + 1 in
        let ends : ℕ = length journal + length line in
        let noLF : HasNoLF line = HasNoLF-line e printable.0 in
        let state : journal_of (journal ++ text) ≡ good (after_entry number ends s e) =
        journal-line journal line s noLF means ∙ ap (λ (t : List ℕ). after_line number ends (good s) (t ++ line)) whole ∙ said-after number ends s e printable.0 may.0
        in
        let more = each entries (after_entry number ends s e) (journal ++ text) (may.1 number ends) printable.1 state (ap (λ (t : Text). t.tail) (text-more-lines journal line [] noLF)) in
        (more.0, ap (λ (xs : List ℕ). journal_of xs) (sym (append_assoc journal text rest)) ∙ more.1, (number, ends, more.2))

    marked : (torn : Bool) → l.is_torn ≡ torn → (s2 : StateData) × (journal_of (journal ++ (mark torn ++ flat_map line_text entries)) ≡ good s2) × LeadsAll entries s s2
    marked false torn = each entries s journal may printable means (no-tail l journal is torn)
    marked true torn =
        let bang : List ℕ = 33 ∷ [] in
        let more = each entries s (journal ++ (bang ++ 10 ∷ [])) may printable (marked-state l journal s means) (ap (λ (t : Text). t.tail) (text-more-lines journal bang [] (refl, tt))) in
        (more.0, ap (λ (xs : List ℕ). journal_of xs) (sym (append_assoc journal (bang ++ 10 ∷ []) (flat_map line_text entries))) ∙ more.1, more.2)
