-- The first difference is the least.
use Rattle.std.proofs.Common.{◌≡◌, ◌<◌, ◌+◌, ◌-◌, ◌==◌, ℕ, zero, suc, Bool, true, false, List, [], ◌∷◌, length, Option, Some, None, refl, sym, ◌∙◌, ap, subst, arith, slice_index, ⊎_elim, if◌then◌else◌}
use Rattle.std.proofs.lemmas.Bool.{cases_lt, true≢false}
use Rattle.std.proofs.lemmas.Bool.Decides.{nat_tests}
use Rattle.stm_image.specs.Lay.{DiffersAt}
use Rattle.stm_image.specs.Pairs.{Pairs, byte_at}
use Rattle.stm_session.proofs.Names.{first_difference, FirstDifferenceIsFirst, has_byte, NoDifferenceAgrees}

-- place i of the flash has the image's byte, where the image names it
abbrev agrees_at : Pairs → ℕ → List ℕ → ℕ → Bool
agrees_at image base flash i = has_byte (byte_at image (base + i)) (slice_index flash i)

-- the place told lies in the flash and doesn't agree, and each before it does
record IsLeast (image : Pairs) (base : ℕ) (flash : List ℕ) (address : ℕ) : Type 0 where
  i : ℕ
  inside : i < length flash
  at : address ≡ base + i
  differs : agrees_at image base flash i ≡ false
  least : (j : ℕ) → j < i → agrees_at image base flash j ≡ true

-- the same place, from the next address on
further : (image : Pairs) (base i : ℕ) (byte : ℕ) (flash : List ℕ) → agrees_at image base (byte ∷ flash) (suc i) ≡ agrees_at image (base + 1) flash i
further image base i byte flash = ap (λ a. has_byte (byte_at image a) (slice_index flash i)) (omega arith)

here : (image : Pairs) (base : ℕ) (byte : ℕ) (flash : List ℕ) → agrees_at image base (byte ∷ flash) 0 ≡ has_byte (byte_at image base) byte
here image base byte flash = ap (λ a. has_byte (byte_at image a) byte) (omega arith)

least-from : (image : Pairs) (flash : List ℕ) (base address : ℕ) → first_difference image base flash ≡ Some address → IsLeast image base flash address
least-from image [] base address e = cc
least-from image (byte ∷ flash) base address e = by_test (has_byte (byte_at image base) byte) refl (λ next. least-from image flash (base + 1) address next) e
  where
    by_test : (b : Bool) → has_byte (byte_at image base) byte ≡ b → (first_difference image (base + 1) flash ≡ Some address → IsLeast image (base + 1) flash address)
        → (if b then first_difference image (base + 1) flash else Some base) ≡ Some address → IsLeast image base (byte ∷ flash) address
    by_test true same later next =
        let r = later next in
        record {
          i = suc r.i;
          inside = omega (arith, r.inside);
          at = omega (arith, r.at);
          differs = further image base r.i byte flash ∙ r.differs;
          least = below r;
        }
      where
        below : (r : IsLeast image (base + 1) flash address) (j : ℕ) → j < suc r.i → agrees_at image base (byte ∷ flash) j ≡ true
        below r zero lt = here image base byte flash ∙ same
        below r (suc j) lt = further image base j byte flash ∙ r.least j (omega (arith, lt))
    by_test false other later next =
        record {
          i = 0;
          inside = omega arith;
          at = let same : base ≡ address = cc in omega (arith, same);
          differs = here image base byte flash ∙ other;
          least = λ j lt. absurd (none j lt);
        }
      where
        none : (j : ℕ) → j < 0 → ⊥
        none j lt = omega (arith, lt)

none-from : (image : Pairs) (flash : List ℕ) (base : ℕ) → first_difference image base flash ≡ None → (i : ℕ) → i < length flash → agrees_at image base flash i ≡ true
none-from image [] base e i inside = absurd (none i inside)
  where
    none : (j : ℕ) → j < 0 → ⊥
    none j lt = omega (arith, lt)
none-from image (byte ∷ flash) base e i inside = by_test (has_byte (byte_at image base) byte) refl (λ next j lt. none-from image flash (base + 1) next j lt) e i inside
  where
    by_test : (b : Bool) → has_byte (byte_at image base) byte ≡ b → (first_difference image (base + 1) flash ≡ None → (j : ℕ) → j < length flash → agrees_at image (base + 1) flash j ≡ true)
        → (if b then first_difference image (base + 1) flash else Some base) ≡ None → (i : ℕ) → i < suc (length flash) → agrees_at image base (byte ∷ flash) i ≡ true
    by_test true same later next zero lt = here image base byte flash ∙ same
    by_test true same later next (suc j) lt = further image base j byte flash ∙ later next j (omega (arith, lt))
    by_test false other later next j lt = cc

unequal : (a b : ℕ) → (a == b) ≡ false → a ≡ b → ⊥
unequal a b other same = let is : (a == b) ≡ true = grind (arith, nat_tests) in absurd (true≢false (sym is ∙ other))

-- a place that doesn't agree has a byte of the image that the flash hasn't
differing : (image : Pairs) (base : ℕ) (flash : List ℕ) (i : ℕ) → i < length flash → agrees_at image base flash i ≡ false → DiffersAt image base flash (base + i)
differing image base flash i inside differs = by_byte (byte_at image (base + i)) refl differs
  where
    by_byte : (o : Option ℕ) → byte_at image (base + i) ≡ o → has_byte o (slice_index flash i) ≡ false → DiffersAt image base flash (base + i)
    by_byte None is other = absurd (true≢false other)
    by_byte (Some byte) is other =
        let place : (base + i) - base ≡ i = omega arith in
        record {
          byte = byte;
          held = is;
          from = omega arith;
          within = omega (arith, inside);
          differs = λ same. absurd (unequal byte (slice_index flash i) other (sym (sym (ap (λ j. slice_index flash j) place) ∙ same)));
        }

equal : (a b : ℕ) → (a == b) ≡ true → a ≡ b
equal a b is = grind (arith, nat_tests)

-- where all agree there is no such place
agreeing : (image : Pairs) (base : ℕ) (flash : List ℕ) (place : ℕ) → ((i : ℕ) → i < length flash → base + i ≡ place → agrees_at image base flash i ≡ true) → DiffersAt image base flash place → ⊥
agreeing image base flash place agrees d =
    let i : ℕ = place - base in
    let at : base + i ≡ place = omega (arith, d.from) in
    let inside : i < length flash = omega (arith, d.from, d.within) in
    absurd (d.differs (sym (equal d.byte (slice_index flash i) (sym (ap (λ o. has_byte o (slice_index flash i)) (ap (λ a. byte_at image a) at ∙ d.held)) ∙ agrees i inside at))))

pub first-difference-is-first : FirstDifferenceIsFirst
first-difference-is-first image base flash address e =
    let least = least-from image flash base address e in
    let D : ℕ → Type 0 = λ a. DiffersAt image base flash a in
    record {
      here = subst D (sym least.at) (differing image base flash least.i least.inside least.differs);
      first = λ other d. ⊎_elim
          (λ before. absurd (agreeing image base flash other (λ i inside at. least.least i (omega (arith, at, before, least.at))) d))
          (λ after. after)
          (cases_lt other address);
    }

pub no-difference-agrees : NoDifferenceAgrees
no-difference-agrees image base flash e = λ place d. agreeing image base flash place (λ i inside at. none-from image flash base e i inside) d
