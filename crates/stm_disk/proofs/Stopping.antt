-- A torn tail counts as nothing, so a crash is a stop.
use Rattle.std.proofs.Common.{◌≡◌, ℕ, Bool, true, false, ◌==◌, if◌then◌else◌, List, [], ◌∷◌, ◌++◌, take}
use Rattle.std.proofs.Common.{refl, sym, ap, ◌∙◌, append_assoc}
use Rattle.stm_journal.proofs.Names.{BeginningsAreGood, HasNoLF, in_front, reading_of, Text, text_of}
use Rattle.stm_disk.specs.Stops.{CrashesAreStops, CrashesAreGood}

-- the whole lines, with one byte more in front
abbrev pub lines_in_front : ℕ → List (List ℕ) → List (List ℕ)
lines_in_front b [] = []
lines_in_front b (l ∷ ls) = (b ∷ l) ∷ ls

abbrev pub more_in_front : ℕ → List (List ℕ) → List (List ℕ)
more_in_front b ls = if b == 10 then [] ∷ ls else lines_in_front b ls

in_front-lines : (b : ℕ) (lines : List (List ℕ)) (tail : List ℕ)
    → (in_front b (record { lines = lines; tail = tail })).lines ≡ lines_in_front b lines
in_front-lines b [] tail = refl
in_front-lines b (l ∷ ls) tail = refl

if-lines : (v : Bool) (x y : Text)
    → (if v then x else y).lines ≡ (if v then x.lines else y.lines)
if-lines true x y = refl
if-lines false x y = refl

pub lines-cons : (b : ℕ) (xs : List ℕ)
    → (text_of (b ∷ xs)).lines ≡ more_in_front b (text_of xs).lines
lines-cons b xs =
    let t : Text = text_of xs in
    if-lines (b == 10) (record { lines = [] ∷ t.lines; tail = t.tail }) (in_front b t)
    ∙ ap (λ (ls : List (List ℕ)). if b == 10 then [] ∷ t.lines else ls)
    (in_front-lines b t.lines t.tail)

no_lines : (tail : List ℕ) → HasNoLF tail → (text_of tail).lines ≡ []
no_lines [] none = refl
no_lines (b ∷ tail) none =
    lines-cons b tail
    ∙ ap (λ (ls : List (List ℕ)). more_in_front b ls) (no_lines tail none.1)
    ∙ ap (λ (v : Bool). let r : List (List ℕ) = if v then [] ∷ [] else [] in r) none.0

lines_stay : (xs tail : List ℕ) → HasNoLF tail
    → (text_of (xs ++ tail)).lines ≡ (text_of xs).lines
lines_stay [] tail none = no_lines tail none
lines_stay (b ∷ xs) tail none =
    lines-cons b (xs ++ tail)
    ∙ ap (λ (ls : List (List ℕ)). more_in_front b ls) (lines_stay xs tail none)
    ∙ sym (lines-cons b xs)

same_lines : (old front tail left : List ℕ) → left ≡ old ++ (front ++ tail) → HasNoLF tail
    → (text_of left).lines ≡ (text_of (old ++ front)).lines
same_lines old front tail left is none =
    ap (λ (xs : List ℕ). (text_of xs).lines) (is ∙ sym (append_assoc old front tail))
    ∙ lines_stay (old ++ front) tail none

pub crashes_are_stops : CrashesAreStops
crashes_are_stops old bytes left by =
    let same = same_lines old (take by.0 bytes) by.1 left by.2 by.3 in
    (by.0, same, ap (λ (ls : List (List ℕ)). (reading_of ls).journal) same)

pub crashes_are_good : CrashesAreStops → BeginningsAreGood → CrashesAreGood
crashes_are_good stops begin l journal left s entries loaded means allowed printable by =
    let stop = stops journal _ left by in
    let good_s = begin l journal s entries stop.0 loaded means allowed printable in
    (good_s.0, stop.2 ∙ good_s.1, good_s.2)
