-- A set laid over bytes, place by place.
use Rattle.std.proofs.Common.{◌≡◌, ◌≢◌, inl, inr, ℕ, zero, suc, ◌+◌, ◌-◌, ◌<◌, ◌≤◌, List, [], ◌∷◌, ◌++◌, length, take, drop, slice_index, Bool, if◌then◌else◌, Option, Some, None, refl, sym, ap, ap₂, ◌∙◌, ◌^◌, arith}
use Rattle.std.specs.Prelude.{Contains, All}
use Rattle.std.proofs.lemmas.Bool.{cases_eq, cases_lt, ne_eqb}
use Rattle.std.proofs.lemmas.List.{get_or-drop, length-drop}
use Rattle.std.proofs.lemmas.List.Elements.{All-head, All-tail, Contains-append_left, Contains-append_right}
use Rattle.stm_image.specs.Pairs.{Pairs, InRange, IsImage, byte_at, IsNext, HasNone, AddressesRise, raw_pairs}
use Rattle.stm_image.specs.Lay.{lay, laid_byte, DiffersAt, AgreesWith, AreAlike, IsFirstDifference, IsFirstOther}
use Rattle.stm_image.specs.Runs.{IsRunFrom}
use Rattle.stm_image.proofs.Lying.{raw_holds}
use Rattle.stm_image.proofs.Overlaps.{byte_held, held_at}
use Rattle.stm_image.proofs.Running.{next_of_run}
use Rattle.stm_image.proofs.Sets.{byte_at_none}

-- BY PARTS
pub length-lay : (set : Pairs) (a : ℕ) (xs : List ℕ) → length (lay set a xs) ≡ length xs
unfolding lay
length-lay set a [] = refl
length-lay set a (x ∷ xs) = ap (λ n. suc n) (length-lay set (a + 1) xs)

pub take-lay : (set : Pairs) (a k : ℕ) (xs : List ℕ) → take k (lay set a xs) ≡ lay set a (take k xs)
unfolding lay
take-lay set a zero [] = refl
take-lay set a zero (x ∷ xs) = refl
take-lay set a (suc k) [] = refl
take-lay set a (suc k) (x ∷ xs) = ap (λ (ys : List ℕ). laid_byte (byte_at set a) x ∷ ys) (take-lay set (a + 1) k xs)

pub drop-lay : (set : Pairs) (a k : ℕ) (xs : List ℕ) → drop k (lay set a xs) ≡ lay set (a + k) (drop k xs)
unfolding lay
drop-lay set a zero xs = ap (λ (b : ℕ). lay set b xs) (let e : a ≡ a + 0 = omega arith in e)
drop-lay set a (suc k) [] = refl
drop-lay set a (suc k) (x ∷ xs) = drop-lay set (a + 1) k xs ∙ ap (λ (b : ℕ). lay set b (drop k xs)) (let e : a + 1 + k ≡ a + suc k = omega arith in e)

pub lay-append : (set : Pairs) (a : ℕ) (xs ys : List ℕ) → lay set a (xs ++ ys) ≡ lay set a xs ++ lay set (a + length xs) ys
unfolding lay
lay-append set a [] ys = ap (λ (b : ℕ). lay set b ys) (let e : a ≡ a + 0 = omega arith in e)
lay-append set a (x ∷ xs) ys =
    ap (λ (zs : List ℕ). laid_byte (byte_at set a) x ∷ zs) (lay-append set (a + 1) xs ys ∙ ap (λ (b : ℕ). lay set (a + 1) xs ++ lay set b ys) (let e : a + 1 + length xs ≡ a + suc (length xs) = omega arith in e))

-- EACH PLACE
pub lay_at : (set : Pairs) (a : ℕ) (xs : List ℕ) (i : ℕ) → i < length xs → slice_index (lay set a xs) i ≡ laid_byte (byte_at set (a + i)) (slice_index xs i)
unfolding lay
lay_at set a [] i h = absurd (omega arith)
lay_at set a (x ∷ xs) zero h = ap (λ (b : ℕ). laid_byte (byte_at set b) x) (let e : a ≡ a + 0 = omega arith in e)
lay_at set a (x ∷ xs) (suc i) h = lay_at set (a + 1) xs i (omega arith) ∙ ap (λ (b : ℕ). laid_byte (byte_at set b) (slice_index xs i)) (let e : a + 1 + i ≡ a + suc i = omega arith in e)

-- a set that has nothing there
pub lay_none : (set : Pairs) (a : ℕ) (xs : List ℕ) → ((i : ℕ) → i < length xs → byte_at set (a + i) ≡ None) → lay set a xs ≡ xs
unfolding lay
lay_none set a [] none = refl
lay_none set a (x ∷ xs) none =
    let here : byte_at set a ≡ None = ap (byte_at set) (let e : a ≡ a + 0 = omega arith in e) ∙ none 0 (omega arith) in
    let more = λ (i : ℕ) (lt : i < length xs). let e : a + 1 + i ≡ a + suc i = omega arith in ap (byte_at set) e ∙ none (suc i) (omega arith) in
    ap₂ (λ (o : Option ℕ) (ys : List ℕ). laid_byte o x ∷ ys) here (lay_none set (a + 1) xs more)

pub lay_past : (set : Pairs) (a : ℕ) (xs : List ℕ) → HasNone set a → lay set a xs ≡ xs
lay_past set a xs none = lay_none set a xs (λ i lt. sym (byte_at_none set (a + i) (λ q held. let below = none q held in omega arith)))

byte_none : (set : Pairs) (a : ℕ) → ((q : ℕ × ℕ) → Contains set q → q.0 ≢ a) → byte_at set a ≡ None
byte_none [] a none = refl
byte_none ((b, v) ∷ rest) a none =
    ap (λ (t : Bool). if t then Some v else byte_at rest a) (ne_eqb b a (none (b, v) (0, omega arith, refl)))
    ∙ byte_none rest a (λ q c. none q (suc c.0, omega (arith, c.1), c.2))

pub lay_before : (set : Pairs) (a : ℕ) (xs : List ℕ) (p : ℕ × ℕ) → IsNext set a p → a + length xs ≤ p.0 → lay set a xs ≡ xs
lay_before set a xs p next far =
    lay_none set a xs (λ i lt. byte_none set (a + i) (λ q held e. let up = next.least q held (omega arith) in omega arith))

-- WHERE THE TWO AGREE
same_at : (o : Option ℕ) (old byte : ℕ) → o ≡ Some byte → laid_byte o old ≡ old → old ≡ byte
same_at (Some b) old byte e same = let f : b ≡ byte = cc in sym same ∙ f
same_at None old byte e same = cc

pub agrees_from : (set : Pairs) (a : ℕ) (xs : List ℕ) → lay set a xs ≡ xs → AgreesWith set a xs
agrees_from set a xs same place differs =
    let i = place - a in
    let from = differs.from in
    let within = differs.within in
    let at : a + i ≡ place = omega arith in
    let kept = sym (lay_at set a xs i (omega arith)) ∙ ap (λ (ys : List ℕ). slice_index ys i) same in
    differs.differs (same_at (byte_at set (a + i)) (slice_index xs i) differs.byte (ap (byte_at set) at ∙ differs.held) kept)

-- a place past the last has no byte
pub in_range_at : (set : Pairs) (a byte : ℕ) → All InRange set → byte_at set a ≡ Some byte → a < 2 ^ 32
in_range_at [] a byte all held = cc
in_range_at ((b, v) ∷ rest) a byte all held = elim (cases_eq b a) [
  | inl e ↦ let fits = (All-head InRange (b, v) rest all).0 in omega arith
  | inr ne ↦ in_range_at rest a byte (All-tail InRange (b, v) rest all) (ap (λ (t : Bool). if t then Some v else byte_at rest a) (sym (ne_eqb b a ne)) ∙ held)
]

one_place : (o : Option ℕ) (old : ℕ) → ((byte : ℕ) → o ≡ Some byte → old ≡ byte) → laid_byte o old ≡ old
one_place None old same = refl
one_place (Some b) old same = sym (same b refl)

pub lay_from : (set : Pairs) (a : ℕ) (xs : List ℕ) → AgreesWith set a xs → lay set a xs ≡ xs
unfolding lay
lay_from set a [] agrees = refl
lay_from set a (x ∷ xs) agrees =
    ap₂ (λ (b : ℕ) (ys : List ℕ). b ∷ ys) (one_place (byte_at set a) x (λ byte held. elim (cases_eq x byte) [ inl e ↦ e | inr ne ↦ absurd (agrees a (first byte held ne)) ]))
    (lay_from set (a + 1) xs (λ place d. agrees place (later place d)))
  where
    first : (byte : ℕ) → byte_at set a ≡ Some byte → x ≢ byte → DiffersAt set a (x ∷ xs) a
    first byte held ne =
        let at : a - a ≡ 0 = omega arith in
        record { byte = byte; held = held; from = omega arith; within = omega arith; differs = λ e. ne (sym (ap (slice_index (x ∷ xs)) at) ∙ e) }

    later : (place : ℕ) → DiffersAt set (a + 1) xs place → DiffersAt set a (x ∷ xs) place
    later place d =
        let from = d.from in
        let within = d.within in
        let at : place - a ≡ suc (place - (a + 1)) = omega arith in
        record { byte = d.byte; held = d.held; from = omega arith; within = omega arith; differs = λ e. d.differs (sym (ap (slice_index (x ∷ xs)) at) ∙ e) }

-- BY RUNS: a place before one that comes next in the set does not differ
no_difference_before : (set : Pairs) (a : ℕ) (xs : List ℕ) (from start place : ℕ) (bytes : List ℕ) → AddressesRise set → IsRunFrom set from start bytes → from ≤ place → place < start → ¬ DiffersAt set a xs place
no_difference_before set a xs from start place bytes rises run low high differs =
    let next = next_of_run set from start bytes rises run in
    let up = next.least (place, differs.byte) (held_at set place differs.byte differs.held) low in
    omega arith

-- the bytes of a run
pub byte_in_run : (set : Pairs) (from start i : ℕ) (bytes : List ℕ) → AddressesRise set → IsRunFrom set from start bytes → i < length bytes → byte_at set (start + i) ≡ Some (slice_index bytes i)
byte_in_run set from start i bytes rises run lt =
    byte_held set (start + i) (slice_index bytes i) rises
    (rw run.whole (Contains-append_right run.front (raw_pairs start bytes ++ run.back) (start + i, slice_index bytes i) (Contains-append_left (raw_pairs start bytes) run.back (start + i, slice_index bytes i) (raw_holds start bytes i lt))))

-- what a place in a run tells
run_byte : (set : Pairs) (a from start place : ℕ) (xs bytes : List ℕ) → AddressesRise set → IsRunFrom set from start bytes → start ≤ place → place < start + length bytes → (d : DiffersAt set a xs place) → d.byte ≡ slice_index bytes (place - start)
run_byte set a from start place xs bytes rises run low high d =
    let at : start + (place - start) ≡ place = omega arith in
    let there = byte_in_run set from start (place - start) bytes rises run (omega arith) in
    let both : Some d.byte ≡ Some (slice_index bytes (place - start)) = sym d.held ∙ ap (byte_at set) (sym at) ∙ there in
    cc

-- the bytes from a place on
at_dropped : (a start place : ℕ) (xs : List ℕ) → a ≤ start → start ≤ place → slice_index (drop (start - a) xs) (place - start) ≡ slice_index xs (place - a)
at_dropped a start place xs low high =
    let at : (start - a) + (place - start) ≡ place - a = omega arith in
    get_or-drop (start - a) xs (place - start) 0 ∙ ap (slice_index xs) at

-- up to the end of a run that is alike, no place differs
pub alike_more : (set : Pairs) (a from start : ℕ) (xs bytes : List ℕ) → AddressesRise set → IsRunFrom set from start bytes → a ≤ from → AreAlike bytes (drop (start - a) xs)
    → ((p : ℕ) → p < from → ¬ DiffersAt set a xs p) → (p : ℕ) → p < start + length bytes → ¬ DiffersAt set a xs p
alike_more set a from start xs bytes rises run low alike same p lt d = elim (cases_lt p from) [
  | inl before ↦ same p before d
  | inr after ↦ elim (cases_lt p start) [
    | inl gap ↦ no_difference_before set a xs from start p bytes rises run after gap d
    | inr here ↦
        let from_low = run.from in
        let within = d.within in
        let dropped = length-drop (start - a) xs in
        let byte = run_byte set a from start p xs bytes rises run here lt d in
        let own = alike (p - start) (omega arith) (omega arith) in
        d.differs (sym (at_dropped a start p xs (omega arith) here) ∙ sym own ∙ sym byte)
  ]
]

-- past the last place of the set none differs
pub none_differs : (set : Pairs) (a from : ℕ) (xs : List ℕ) → HasNone set from → ((p : ℕ) → p < from → ¬ DiffersAt set a xs p) → AgreesWith set a xs
none_differs set a from xs none same p d = elim (cases_lt p from) [
  | inl before ↦ same p before d
  | inr after ↦ let below = none (p, d.byte) (held_at set p d.byte d.held) in omega arith
]

-- nor where the next place lies past the bytes
pub far_next : (set : Pairs) (a from start : ℕ) (xs bytes : List ℕ) → AddressesRise set → IsRunFrom set from start bytes → a + length xs ≤ start → ((p : ℕ) → p < from → ¬ DiffersAt set a xs p) → AgreesWith set a xs
far_next set a from start xs bytes rises run far same p d = elim (cases_lt p from) [
  | inl before ↦ same p before d
  | inr after ↦ let within = d.within in no_difference_before set a xs from start p bytes rises run after (omega arith) d
]

-- the first place of a run that is another
pub first_in_run : (set : Pairs) (a from start k : ℕ) (xs bytes : List ℕ) → AddressesRise set → IsRunFrom set from start bytes → a ≤ from → IsFirstOther bytes (drop (start - a) xs) k
    → ((p : ℕ) → p < from → ¬ DiffersAt set a xs p) → IsFirstDifference set a xs (start + k)
first_in_run set a from start k xs bytes rises run low other same =
    let from_low = run.from in
    let in_run = other.in_first in
    let in_rest = other.in_second in
    let dropped = length-drop (start - a) xs in
    let at : (start + k) - start ≡ k = omega arith in
    let place : slice_index (drop (start - a) xs) k ≡ slice_index xs ((start + k) - a) =
    ap (slice_index (drop (start - a) xs)) (sym at) ∙ at_dropped a start (start + k) xs (omega arith) (omega arith) in
    record {
      here = record {
        byte = slice_index bytes k;
        held = byte_in_run set from start k bytes rises run in_run;
        from = omega arith;
        within = omega arith;
        differs = λ e. other.differs (sym e ∙ sym place);
      };
      first = λ p d. elim (cases_lt p (start + k)) [
        | inl before ↦ absurd (earlier p before d)
        | inr after ↦ after
      ];
    }
  where
    earlier : (p : ℕ) → p < start + k → DiffersAt set a xs p → ⊥
    earlier p before d = elim (cases_lt p from) [
      | inl low_p ↦ same p low_p d
      | inr after ↦ elim (cases_lt p start) [
        | inl gap ↦ no_difference_before set a xs from start p bytes rises run after gap d
        | inr here ↦
            let from_low = run.from in
            let in_run = other.in_first in
            let byte = run_byte set a from start p xs bytes rises run here (omega arith) d in
            let own = other.before (p - start) (omega arith) in
            d.differs (sym (at_dropped a start p xs (omega arith) here) ∙ sym own ∙ sym byte)
      ]
    ]

-- past the last address of all none differs
pub past_all : (set : Pairs) (a from : ℕ) (xs : List ℕ) → All InRange set → 2 ^ 32 ≤ from → ((p : ℕ) → p < from → ¬ DiffersAt set a xs p) → AgreesWith set a xs
past_all set a from xs all past same p d = let fits = in_range_at set p d.byte all d.held in same p (omega arith) d

-- each place of a run has 32 bits
pub run_fits : (set : Pairs) (from start k : ℕ) (bytes : List ℕ) → IsImage set → IsRunFrom set from start bytes → k < length bytes → start + k < 2 ^ 32
run_fits set from start k bytes image run lt = in_range_at set (start + k) (slice_index bytes k) image.in_range (byte_in_run set from start k bytes image.rises run lt)
