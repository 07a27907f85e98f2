-- What a journal's bytes come to, when a line is added to them.
use Rattle.std.proofs.Common.{◌≡◌, ◌≤◌, ℕ, suc, ◌+◌, ◌==◌, List, [], ◌∷◌, ◌++◌, length, fold, refl, sym, ◌∙◌, ap, inl, inr, arith, length-append}
use Rattle.std.proofs.lemmas.Bool.{cases_Bool}
use Rattle.std.proofs.lemmas.List.Sums.{fold-append, fold_push}
use Rattle.stm_journal.proofs.Names.{after_line, bad, good, HasNoLF, in_front, journal_of, JournalData, read_line, Reading, reading_of, start, StateData, Text, text_of}
use Rattle.stm_journal.proofs.Texts.{text-more-lines, text-more-tail}

-- the bytes of lines with their LFs
abbrev pub total : List (List ℕ) → ℕ
total [] = 0
total (l ∷ ls) = length l + 1 + total ls

fold-lines : (r : Reading) (ls : List (List ℕ)) → (fold read_line r ls).lines ≡ r.lines + length ls
fold-lines r [] = omega arith
fold-lines r (l ∷ ls) = omega (arith, fold-lines (read_line r l) ls)

fold-size : (r : Reading) (ls : List (List ℕ)) → (fold read_line r ls).size ≡ r.size + total ls
fold-size r [] = omega arith
fold-size r (l ∷ ls) = omega (arith, fold-size (read_line r l) ls)

in_front-total : (b : ℕ) (lines : List (List ℕ)) (tail : List ℕ)
    → total (in_front b (record { lines = lines; tail = tail })).lines + length (in_front b (record { lines = lines; tail = tail })).tail ≡ suc (total lines + length tail)
in_front-total b [] tail = omega arith
in_front-total b (l ∷ lines) tail = omega arith

text-total : (xs : List ℕ) → total (text_of xs).lines + length (text_of xs).tail ≡ length xs
text-total [] = refl
text-total (b ∷ xs) = elim (cases_Bool (b == 10)) [
  | inl here ↦ rw here (omega (arith, text-total xs))
  | inr other ↦ rw other (omega (arith, text-total xs, in_front-total b (text_of xs).lines (text_of xs).tail))
]

total-count : (ls : List (List ℕ)) → length ls ≤ total ls
total-count [] = omega arith
total-count (l ∷ ls) = omega (arith, total-count ls)

pub lines-within : (xs : List ℕ) → length (text_of xs).lines ≤ length xs
lines-within xs = omega (arith, total-count (text_of xs).lines, text-total xs)

pub reading-lines : (xs : List ℕ) → (reading_of (text_of xs).lines).lines ≡ length (text_of xs).lines
reading-lines xs = omega (arith, fold-lines start (text_of xs).lines)

pub reading-size : (xs : List ℕ) → (reading_of (text_of xs).lines).size + length (text_of xs).tail ≡ length xs
reading-size xs = omega (arith, fold-size start (text_of xs).lines, text-total xs)

-- a line that is ended
pub journal-line : (xs t : List ℕ) (s : StateData) → HasNoLF t → journal_of xs ≡ good s
    → journal_of (xs ++ (t ++ 10 ∷ [])) ≡ after_line (length (text_of xs).lines + 1) (length xs + length t) (good s) ((text_of xs).tail ++ t)
journal-line xs t s h is =
    let tail : List ℕ = (text_of xs).tail in
    let r : Reading = reading_of (text_of xs).lines in
    let place : r.size + length (tail ++ t) ≡ length xs + length t = omega (arith, reading-size xs, length-append tail t) in
    ap (λ (x : Text). (reading_of x.lines).journal) (text-more-lines xs t [] h)
    ∙ ap (λ (x : Reading). x.journal) (fold_push read_line start (text_of xs).lines (tail ++ t))
    ∙ ap (λ (n : ℕ). after_line (n + 1) (r.size + length (tail ++ t)) r.journal (tail ++ t)) (reading-lines xs)
    ∙ ap (λ (n : ℕ). after_line (length (text_of xs).lines + 1) n r.journal (tail ++ t)) place
    ∙ ap (λ (j : JournalData). after_line (length (text_of xs).lines + 1) (length xs + length t) j (tail ++ t)) is

-- bytes without LF change no line
pub journal-tail : (xs t : List ℕ) → HasNoLF t → journal_of (xs ++ t) ≡ journal_of xs
journal-tail xs t h = ap (λ (x : Text). (reading_of x.lines).journal) (text-more-tail xs t h)

fold-bad : (r : Reading) (k : ℕ) (ls : List (List ℕ)) → r.journal ≡ bad k → (fold read_line r ls).journal ≡ bad k
fold-bad r k [] is = is
fold-bad r k (l ∷ ls) is = fold-bad (read_line r l) k ls (ap (λ (j : JournalData). after_line (r.lines + 1) (r.size + length l) j l) is)

-- a bad line stays the first
pub journal-bad : (xs t ys : List ℕ) (k : ℕ) → HasNoLF t → journal_of (xs ++ (t ++ 10 ∷ [])) ≡ bad k → journal_of (xs ++ (t ++ 10 ∷ ys)) ≡ bad k
journal-bad xs t ys k h is =
    let front : List (List ℕ) = (text_of xs).lines in
    let line : List ℕ = (text_of xs).tail ++ t in
    let before : (reading_of (front ++ line ∷ [])).journal ≡ bad k = sym (ap (λ (x : Text). (reading_of x.lines).journal) (text-more-lines xs t [] h)) ∙ is in
    ap (λ (x : Text). (reading_of x.lines).journal) (text-more-lines xs t ys h)
    ∙ ap (λ (x : Reading). x.journal) (fold-append read_line start front (line ∷ (text_of ys).lines))
    ∙ fold-bad (read_line (fold read_line start front) line) k (text_of ys).lines (sym (ap (λ (x : Reading). x.journal) (fold_push read_line start front line)) ∙ before)
