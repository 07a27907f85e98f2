-- Whether a journal's last whole line is a greeting, when bytes are added to it.
use Rattle.std.proofs.Common.{◌≡◌, ◌<◌, ℕ, Bool, true, false, List, [], ◌∷◌, ◌++◌, length, take, refl, sym, ◌∙◌, ap, arith, ⊎_elim}
use Rattle.std.specs.Prelude.{bytes_eq}
use Rattle.std.proofs.lemmas.Bool.{true≢false, cases_lt}
use Rattle.std.proofs.lemmas.List.{take_all, length-take-le}
use Rattle.std.proofs.lemmas.List.Sums.{fold_push}
use Rattle.std.proofs.lemmas.Slice.Eq.{bytes_eq-Decides}
use Rattle.stm_journal.proofs.Names.{ends_greeted, Entry, greeting, greets_by, HasNoLF, is_greeted, is_void, IsPrintable, line_of, summary_of, Text, text_of}
use Rattle.stm_journal.proofs.Texts.{text-more-lines, text-more-tail}
use Rattle.stm_journal.proofs.Lines.{is_void-printed}

-- the line that is ended decides
pub greeted-line : (xs t : List ℕ) → HasNoLF t → is_greeted (xs ++ (t ++ 10 ∷ [])) ≡ bytes_eq ((text_of xs).tail ++ t) greeting
greeted-line xs t h =
    ap (λ (x : Text). ends_greeted x.lines) (text-more-lines xs t [] h)
    ∙ fold_push (λ (last : Bool) (line : List ℕ). bytes_eq line greeting) false (text_of xs).lines ((text_of xs).tail ++ t)

-- bytes without LF end none
pub greeted-tail : (xs t : List ℕ) → HasNoLF t → is_greeted (xs ++ t) ≡ is_greeted xs
greeted-tail xs t h = ap (λ (x : Text). ends_greeted x.lines) (text-more-tail xs t h)

-- no entry's line is a greeting, since a greeting is void
pub entry-greets-none : (e : Entry) → IsPrintable e → bytes_eq (line_of e) greeting ≡ false
entry-greets-none e printable = at (bytes_eq (line_of e) greeting) refl
  where
    at : (b : Bool) → bytes_eq (line_of e) greeting ≡ b → bytes_eq (line_of e) greeting ≡ false
    at false h = h
    at true h =
        let same : is_void (line_of e) ≡ true = ap (λ (xs : List ℕ). is_void xs) ((bytes_eq-Decides (line_of e) greeting).0 h) in
        absurd (true≢false (sym same ∙ is_void-printed e printable))

longer : (xs : List ℕ) → 8 < length xs → bytes_eq xs greeting ≡ false
longer xs many = at (bytes_eq xs greeting) refl
  where
    at : (b : Bool) → bytes_eq xs greeting ≡ b → bytes_eq xs greeting ≡ false
    at false h = h
    at true h = absurd (omega (arith, many, ap (λ (ys : List ℕ). length ys) ((bytes_eq-Decides xs greeting).0 h)))

-- a summary decides whether its line is one
pub greets_by-line : (line : List ℕ) → bytes_eq line greeting ≡ greets_by (summary_of line)
greets_by-line line = ⊎_elim
    (λ many. longer line (omega (arith, many)) ∙ sym (longer (take 82 line) (omega (arith, many, length-take-le 82 line (omega (arith, many))))))
    (λ few. sym (ap (λ (xs : List ℕ). bytes_eq xs greeting) (take_all 82 line few)))
    (cases_lt 82 (length line))
