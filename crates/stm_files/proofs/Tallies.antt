-- What a byte more makes of a text's lines.
use Rattle.std.proofs.Common.{◌≡◌, ℕ, ◌+◌, ◌-◌, ◌<◌, ◌≤◌, ◌^◌, ◌==◌, min, List, [], ◌∷◌, ◌++◌, Bool, true, false, ◌&&◌, if◌then◌else◌, length, drop, count_by, refl, sym, ◌∙◌, ap, arith, length-append}
use Rattle.std.proofs.lemmas.Bool.Decides.{nat_tests}
use Rattle.std.proofs.lemmas.List.Sums.{sum_by_push}
use Rattle.std.proofs.Math.Seq.{drop-append_seam}
use Rattle.stm_journal.proofs.Names.{in_front, is_void, Text, text_of}
use Rattle.stm_files.specs.declared.tally.Tally.{Tally}
use Rattle.stm_files.specs.Tally.{IsTallyOf}

-- a text with an LF more, or with another byte more
ended : Text → Text
ended t = record { lines = t.lines ++ t.tail ∷ []; tail = [] }

longer : ℕ → Text → Text
longer b t = record { lines = t.lines; tail = t.tail ++ b ∷ [] }

front-ended : (b : ℕ) (lines : List (List ℕ)) (tail : List ℕ) → in_front b (ended (record { lines = lines; tail = tail })) ≡ ended (in_front b (record { lines = lines; tail = tail }))
unfolding ended
front-ended b [] tail = refl
front-ended b (l ∷ lines) tail = refl

front-longer : (b c : ℕ) (lines : List (List ℕ)) (tail : List ℕ) → in_front b (longer c (record { lines = lines; tail = tail })) ≡ longer c (in_front b (record { lines = lines; tail = tail }))
unfolding longer
front-longer b c [] tail = refl
front-longer b c (l ∷ lines) tail = refl

-- a step of text_of, by whether the byte is an LF
abbrev begun : ℕ → Text → Bool → Text
begun b t x = if x then record { lines = [] ∷ t.lines; tail = t.tail } else in_front b t

begun-ended : (b : ℕ) (t : Text) (x : Bool) → begun b (ended t) x ≡ ended (begun b t x)
unfolding ended
begun-ended b t true = refl
begun-ended b t false = front-ended b t.lines t.tail

begun-longer : (b c : ℕ) (t : Text) (x : Bool) → begun b (longer c t) x ≡ longer c (begun b t x)
unfolding longer
begun-longer b c t true = refl
begun-longer b c t false = front-longer b c t.lines t.tail

text-ended : (bytes : List ℕ) → text_of (bytes ++ 10 ∷ []) ≡ ended (text_of bytes)
unfolding ended
text-ended [] = refl
text-ended (b ∷ bytes) = ap (λ (t : Text). begun b t (b == 10)) (text-ended bytes) ∙ begun-ended b (text_of bytes) (b == 10)

text-longer : (bytes : List ℕ) (c : ℕ) → (c == 10) ≡ false → text_of (bytes ++ c ∷ []) ≡ longer c (text_of bytes)
unfolding longer
text-longer [] c other = rw other
text-longer (b ∷ bytes) c other = ap (λ (t : Text). begun b t (b == 10)) (text-longer bytes c other) ∙ begun-longer b c (text_of bytes) (b == 10)

-- a line is void by its last byte
pub flipped : (b : ℕ) → ((33 == b) && true) ≡ (b == 33)
flipped b = grind (arith, nat_tests)

is_void-last : (line : List ℕ) (b : ℕ) → is_void (line ++ b ∷ []) ≡ (b == 33)
is_void-last line b =
    let len : length (line ++ b ∷ []) - 1 ≡ length line = omega (arith, length-append line (b ∷ [])) in
    let last : drop (length (line ++ b ∷ []) - 1) (line ++ b ∷ []) ≡ b ∷ [] = rw len (drop-append_seam line (b ∷ [])) in
    rw last (flipped b)

-- one line more of them is void where it is
voids-more : (lines : List (List ℕ)) (line : List ℕ) (x : Bool) → is_void line ≡ x → count_by is_void (lines ++ line ∷ []) ≡ (if x then count_by is_void lines + 1 else count_by is_void lines)
voids-more lines line true e = sum_by_push (λ (l : List ℕ). if is_void l then 1 else 0) lines line ∙ ap (λ (v : Bool). count_by is_void lines + (if v then 1 else 0)) e
voids-more lines line false e =
    let none : count_by is_void lines + 0 ≡ count_by is_void lines = omega arith in
    sum_by_push (λ (l : List ℕ). if is_void l then 1 else 0) lines line ∙ ap (λ (v : Bool). count_by is_void lines + (if v then 1 else 0)) e ∙ none

-- a number that is too small to stay at its top
exact : (n : ℕ) → n < 2 ^ 63 → min (n + 1) (2 ^ 64 - 1) ≡ n + 1
exact n lt = omega arith

chosen : (x : Bool) (n : ℕ) → n < 2 ^ 63 → (if x then min (n + 1) (2 ^ 64 - 1) else n) ≡ (if x then n + 1 else n)
chosen true n lt = exact n lt
chosen false n lt = refl

at-most-one : (x : Bool) (n : ℕ) → (if x then n + 1 else n) ≤ n + 1
at-most-one true n = omega arith
at-most-one false n = omega arith

pub one-line-more : (bytes : List ℕ) (t u : Tally) → IsTallyOf bytes t → length bytes < 2 ^ 63
    → u.lines ≡ min (t.lines + 1) (2 ^ 64 - 1) → u.voids ≡ (if t.is_marked then min (t.voids + 1) (2 ^ 64 - 1) else t.voids)
    → u.tail ≡ 0 → u.is_marked ≡ false → IsTallyOf (bytes ++ 10 ∷ []) u
unfolding ended
one-line-more bytes t u is few lines voids tail marked =
    let text : Text = text_of bytes in
    let more = text-ended bytes in
    let small : t.lines < 2 ^ 63 = omega (arith, is.within, few) in
    let counted : u.voids ≡ (if t.is_marked then t.voids + 1 else t.voids) = voids ∙ chosen t.is_marked t.voids (omega (arith, is.few, small)) in
    let number : u.lines ≡ t.lines + 1 = lines ∙ exact t.lines small in
    record {
      lines = number ∙ ap (λ (n : ℕ). n + 1) is.lines ∙ sym (length-append text.lines (text.tail ∷ [])) ∙ sym (ap (λ (x : Text). length x.lines) more);
      voids =
          counted ∙ ap (λ (n : ℕ). if t.is_marked then n + 1 else n) is.voids
          ∙ sym (voids-more text.lines text.tail t.is_marked (sym is.is_marked)) ∙ sym (ap (λ (x : Text). count_by is_void x.lines) more);
      tail = tail ∙ sym (ap (λ (x : Text). length x.tail) more);
      is_marked = marked ∙ sym (ap (λ (x : Text). is_void x.tail) more);
      within = omega (arith, number, tail, is.within, length-append bytes (10 ∷ []));
      few = omega (arith, number, counted, is.few, at-most-one t.is_marked t.voids);
    }

pub one-byte-more : (bytes : List ℕ) (b : ℕ) (t u : Tally) → IsTallyOf bytes t → length bytes < 2 ^ 63 → (b == 10) ≡ false
    → u.lines ≡ t.lines → u.voids ≡ t.voids → u.tail ≡ min (t.tail + 1) (2 ^ 64 - 1) → u.is_marked ≡ (b == 33) → IsTallyOf (bytes ++ b ∷ []) u
unfolding longer
one-byte-more bytes b t u is few other lines voids tail marked =
    let text : Text = text_of bytes in
    let more = text-longer bytes b other in
    let number : u.tail ≡ t.tail + 1 = tail ∙ exact t.tail (omega (arith, is.within, few)) in
    record {
      lines = lines ∙ is.lines ∙ sym (ap (λ (x : Text). length x.lines) more);
      voids = voids ∙ is.voids ∙ sym (ap (λ (x : Text). count_by is_void x.lines) more);
      tail = number ∙ ap (λ (n : ℕ). n + 1) is.tail ∙ sym (length-append text.tail (b ∷ [])) ∙ sym (ap (λ (x : Text). length x.tail) more);
      is_marked = marked ∙ sym (is_void-last text.tail b) ∙ sym (ap (λ (x : Text). is_void x.tail) more);
      within = omega (arith, lines, number, is.within, length-append bytes (b ∷ []));
      few = omega (arith, lines, voids, is.few);
    }
