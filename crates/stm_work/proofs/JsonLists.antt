-- The lines of a text, as a list that is told line by line.
use Rattle.std.proofs.Common.{◌≡◌, ◌+◌, ◌-◌, ◌≤◌, ◌<◌, ◌==◌, ℕ, List, [], ◌∷◌, ◌++◌, length}
use Rattle.std.proofs.Common.{take, drop, get_or, Bool, true, false, refl, sym, ◌∙◌, ap}
use Rattle.std.proofs.Common.{arith, append-nil, length-drop}
use Rattle.std.specs.Prelude.{if◌then◌else◌}
use Rattle.std.specs.List.{slice_range}
use Rattle.std.proofs.lemmas.Bool.{eqb-true}
use Rattle.std.proofs.lemmas.List.{drop_more, get_or-drop, take_more, drop_all}
use Rattle.stm_work.specs.JsonLine.{lines_from, unless_empty}

untrue : (b : Bool) → (b ≡ true → ⊥) → b ≡ false
untrue true never = absurd (never refl)
untrue false never = refl

-- a byte that ends no line is one of it
goes_on : (line rest : List ℕ) (byte : ℕ) → (byte ≡ 10 → ⊥)
    → lines_from line (byte ∷ rest) ≡ lines_from (line ++ byte ∷ []) rest
goes_on line rest byte other =
    ap (λ (b : Bool). if b then unless_empty line ++ lines_from [] rest
    else lines_from (line ++ byte ∷ []) rest)
    (untrue (byte == 10) (λ is. other (eqb-true byte 10 is)))

longer : (text : List ℕ) (start i : ℕ) → start ≤ i → i < length text
    → slice_range text start (i + 1) ≡ slice_range text start i ++ get_or text i 0 ∷ []
longer text start i from within =
    let rest = drop start text in
    ap (λ (n : ℕ). take n rest) (omega (arith, from))
    ∙ take_more rest (i - start) 0 (omega (arith, from, within, length-drop start text))
    ∙ ap (λ (b : ℕ). take (i - start) rest ++ b ∷ [])
    (get_or-drop start text (i - start) 0
    ∙ ap (λ (n : ℕ). get_or text n 0) (omega (arith, from)))

pub other_byte : (text : List ℕ) (start i : ℕ) → start ≤ i → i < length text
    → (get_or text i 0 ≡ 10 → ⊥)
    → lines_from (slice_range text start (i + 1)) (drop (i + 1) text)
    ≡ lines_from (slice_range text start i) (drop i text)
other_byte text start i from within other =
    let byte = get_or text i 0 in
    let line = slice_range text start i in
    ap (λ (bs : List ℕ). lines_from bs (drop (i + 1) text)) (longer text start i from within)
    ∙ sym (goes_on line (drop (i + 1) text) byte other)
    ∙ ap (λ (bs : List ℕ). lines_from line bs) (sym (drop_more text i 0 within))

-- an LF ends a line
pub line_byte : (text line : List ℕ) (i : ℕ) → i < length text → get_or text i 0 ≡ 10
    → lines_from line (drop i text)
    ≡ unless_empty line ++ lines_from (slice_range text (i + 1) (i + 1)) (drop (i + 1) text)
line_byte text line i within is =
    let rest = drop (i + 1) text in
    let none : 0 ≡ i + 1 - (i + 1) = omega arith in
    ap (λ (bs : List ℕ). lines_from line bs)
    (drop_more text i 0 within ∙ ap (λ (b : ℕ). b ∷ rest) is)
    ∙ ap (λ (n : ℕ). unless_empty line ++ lines_from (take n rest) rest) none

-- what is left of the text is its last line
pub last_line : (text : List ℕ) (start i : ℕ) → i ≡ length text
    → lines_from (slice_range text start i) (drop i text)
    ≡ unless_empty (slice_range text start (length text)) ++ []
last_line text start i is =
    ap (λ (bs : List ℕ). lines_from (slice_range text start i) bs)
    (drop_all i text (omega (arith, is)))
    ∙ ap (λ (n : ℕ). unless_empty (slice_range text start n)) is
    ∙ sym (append-nil (unless_empty (slice_range text start (length text))))
