-- A journal's text, when bytes are added to it.
use Rattle.std.proofs.Common.{◌≡◌, ℕ, Bool, true, false, ◌==◌, if◌then◌else◌, List, [], ◌∷◌, ◌++◌, refl, sym, ◌∙◌, ap, inl, inr, append_assoc, append-nil}
use Rattle.std.proofs.lemmas.Bool.{cases_Bool}
use Rattle.stm_journal.proofs.Names.{HasNoLF, in_front, Text, text_of}

pub HasNoLF-append : (xs ys : List ℕ) → HasNoLF xs → HasNoLF ys → HasNoLF (xs ++ ys)
HasNoLF-append [] ys x y = y
HasNoLF-append (b ∷ xs) ys x y = (x.0, HasNoLF-append xs ys x.1 y)

-- a text that goes on
abbrev on_text : Text → List ℕ → Text
on_text t ys = record { lines = t.lines ++ (text_of (t.tail ++ ys)).lines; tail = (text_of (t.tail ++ ys)).tail }

if_true : (b : Bool) (x y : Text) → b ≡ true → (if b then x else y) ≡ x
if_true b x y e = ap (λ (v : Bool). if v then x else y) e

if_false : (b : Bool) (x y : Text) → b ≡ false → (if b then x else y) ≡ y
if_false b x y e = ap (λ (v : Bool). if v then x else y) e

in_front_on : (b : ℕ) (lines : List (List ℕ)) (tail ys : List ℕ) → (b == 10) ≡ false → in_front b (on_text (record { lines = lines; tail = tail }) ys) ≡ on_text (in_front b (record { lines = lines; tail = tail })) ys
in_front_on b [] tail ys other = sym (ap (λ (t : Text). let r : Text = record { lines = t.lines; tail = t.tail } in r) (if_false (b == 10) (record { lines = [] ∷ (text_of (tail ++ ys)).lines; tail = (text_of (tail ++ ys)).tail }) (in_front b (text_of (tail ++ ys))) other))
in_front_on b (l ∷ lines) tail ys other = refl

text-append : (xs ys : List ℕ) → text_of (xs ++ ys) ≡ on_text (text_of xs) ys
text-append [] ys = refl
text-append (b ∷ xs) ys = elim (cases_Bool (b == 10)) [
  | inl here ↦
      if_true (b == 10) (record { lines = [] ∷ (text_of (xs ++ ys)).lines; tail = (text_of (xs ++ ys)).tail }) (in_front b (text_of (xs ++ ys))) here
      ∙ ap (λ (t : Text). let r : Text = record { lines = [] ∷ t.lines; tail = t.tail } in r) (text-append xs ys)
      ∙ sym (ap (λ (t : Text). on_text t ys) (if_true (b == 10) (record { lines = [] ∷ (text_of xs).lines; tail = (text_of xs).tail }) (in_front b (text_of xs)) here))
  | inr other ↦
      if_false (b == 10) (record { lines = [] ∷ (text_of (xs ++ ys)).lines; tail = (text_of (xs ++ ys)).tail }) (in_front b (text_of (xs ++ ys))) other
      ∙ ap (in_front b) (text-append xs ys)
      ∙ in_front_on b (text_of xs).lines (text_of xs).tail ys other
      ∙ sym (ap (λ (t : Text). on_text t ys) (if_false (b == 10) (record { lines = [] ∷ (text_of xs).lines; tail = (text_of xs).tail }) (in_front b (text_of xs)) other))
]

pub text-tail : (t : List ℕ) → HasNoLF t → text_of t ≡ record { lines = []; tail = t }
text-tail [] h = refl
text-tail (b ∷ t) h =
    if_false (b == 10) (record { lines = [] ∷ (text_of t).lines; tail = (text_of t).tail }) (in_front b (text_of t)) h.0 ∙ ap (in_front b) (text-tail t h.1)

pub text-line : (t ys : List ℕ) → HasNoLF t → text_of (t ++ 10 ∷ ys) ≡ record { lines = t ∷ (text_of ys).lines; tail = (text_of ys).tail }
text-line [] ys h = refl
text-line (b ∷ t) ys h =
    if_false (b == 10) (record { lines = [] ∷ (text_of (t ++ 10 ∷ ys)).lines; tail = (text_of (t ++ 10 ∷ ys)).tail }) (in_front b (text_of (t ++ 10 ∷ ys))) h.0
    ∙ ap (in_front b) (text-line t ys h.1)

in_front-tail : (b : ℕ) (lines : List (List ℕ)) (tail : List ℕ) → (b == 10) ≡ false → HasNoLF tail → HasNoLF (in_front b (record { lines = lines; tail = tail })).tail
in_front-tail b [] tail other h = (other, h)
in_front-tail b (l ∷ lines) tail other h = h

pub HasNoLF-tail : (xs : List ℕ) → HasNoLF (text_of xs).tail
HasNoLF-tail [] = tt
HasNoLF-tail (b ∷ xs) = elim (cases_Bool (b == 10)) [
  | inl here ↦ rw here (HasNoLF-tail xs)
  | inr other ↦ rw other (in_front-tail b (text_of xs).lines (text_of xs).tail other (HasNoLF-tail xs))
]

-- a line is ended, in front of more
pub text-more-lines : (xs t ys : List ℕ) → HasNoLF t
    → text_of (xs ++ (t ++ 10 ∷ ys)) ≡ record { lines = (text_of xs).lines ++ ((text_of xs).tail ++ t) ∷ (text_of ys).lines; tail = (text_of ys).tail }
text-more-lines xs t ys h =
    let tail : List ℕ = (text_of xs).tail in
    let front : List (List ℕ) = (text_of xs).lines in
    text-append xs (t ++ 10 ∷ ys)
    ∙ ap (λ (zs : List ℕ). let r : Text = record { lines = front ++ (text_of zs).lines; tail = (text_of zs).tail } in r) (sym (append_assoc tail t (10 ∷ ys)))
    ∙ ap (λ (x : Text). let r : Text = record { lines = front ++ x.lines; tail = x.tail } in r) (text-line (tail ++ t) ys (HasNoLF-append tail t (HasNoLF-tail xs) h))

pub text-more-tail : (xs t : List ℕ) → HasNoLF t → text_of (xs ++ t) ≡ record { lines = (text_of xs).lines; tail = (text_of xs).tail ++ t }
text-more-tail xs t h =
    let tail : List ℕ = (text_of xs).tail in
    let front : List (List ℕ) = (text_of xs).lines in
    text-append xs t
    ∙ ap (λ (x : Text). let r : Text = record { lines = front ++ x.lines; tail = x.tail } in r) (text-tail (tail ++ t) (HasNoLF-append tail t (HasNoLF-tail xs) h))
    ∙ ap (λ (ls : List (List ℕ)). let r : Text = record { lines = ls; tail = tail ++ t } in r) (append-nil front)
