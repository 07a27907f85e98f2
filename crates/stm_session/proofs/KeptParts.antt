-- The part of an image that lies in the pages which the newest segment keeps, page by page.
use Rattle.std.proofs.Common.{◌≡◌, ◌≢◌, inl, inr, ℕ, zero, suc, ◌+◌, ◌<◌, ◌&&◌, Bool, true, false, IsTrue, [], ◌∷◌, length, sum, Option, Some, None, refl, sym, ap₂, ◌∙◌, subst, arith}
use Rattle.std.specs.Prelude.{Contains, is_some}
use Rattle.std.proofs.lemmas.Bool.{and_parts, cases_lt, false≢true}
use Rattle.std.proofs.lemmas.List.Sums.{sum_by_more}
use Rattle.stm_image.specs.Layout.{IsAmong}
use Rattle.stm_image.specs.Pairs.{Pairs}
use Rattle.stm_image.specs.Part.{IsWithPart, StandsIn}
use Rattle.stm_wire.proofs.Names.{ChipData, is_inside, page_count, page_offset, page_size}
use Rattle.stm_journal.specs.declared.kept.PagePlace.{PagePlace}
use Rattle.stm_journal.proofs.Names.{newest_keeps, page_place, StateData}
use Rattle.stm_session.specs.declared.command.Command.TheVariants as command
use Rattle.stm_session.proofs.Names.{image_fits, IsKindOf, Outcome, outcome_data, page_address, was_verified}
use Rattle.stm_session.specs.declared.outcome.Outcome.TheVariants as outcome
use Rattle.stm_session.proofs.Work.{no_place_keeps}

-- the pages below one were gone through
pub record IsPartSoFar (chip : ChipData) (s : StateData) (image : Pairs) (n : ℕ) (part : Pairs) : Type 0 where
  pub among : IsAmong part image
  pub behind : (p : ℕ × ℕ) → Contains part p → p.0 < page_address chip n
  pub has : (m : ℕ) → m < n → IsTrue (newest_keeps m s) → (p : ℕ × ℕ) → StandsIn image (page_address chip m) (page_size chip m) p → Contains part p

module _ (chip : ChipData) (s : StateData) (image : Pairs) (n : ℕ) (here : n < page_count chip) (part : Pairs) (so_far : IsPartSoFar chip s image n part) where
  next : page_address chip (n + 1) ≡ page_address chip n + page_size chip n
  next = let offset : page_offset chip (n + 1) ≡ page_offset chip n + page_size chip n = sum_by_more (λ x. x) chip.sizes n 0 here in omega (arith, offset)

  -- a page that isn't kept
  pub part_left : newest_keeps n s ≡ false → IsPartSoFar chip s image (n + 1) part
  part_left none =
      record {
        among = so_far.among;
        behind = λ p held. let below = so_far.behind p held in omega (arith, next, below);
        has = λ m lt keeps p there. elim (cases_lt m n) [
          | inl less ↦ so_far.has m less keeps p there
          | inr more ↦
              let same : m ≡ n = omega (arith, lt, more) in
              let K : ℕ → Type 0 = λ k. IsTrue (newest_keeps k s) in
              absurd (false≢true (sym none ∙ subst K same keeps))
        ];
      }

  -- one that is
  pub part_kept : (more : Pairs) → IsWithPart part image (page_address chip n) (page_size chip n) more → IsPartSoFar chip s image (n + 1) more
  part_kept more with =
      record {
        among = λ p held. elim (with.among p held) [ inl was ↦ so_far.among p was | inr there ↦ there.held ];
        behind = λ p held. elim (with.among p held) [
          | inl was ↦ let below = so_far.behind p was in omega (arith, next, below)
          | inr there ↦ let within = there.within in omega (arith, next, within)
        ];
        has = λ m lt keeps p there. elim (cases_lt m n) [
          | inl less ↦ with.keeps p (so_far.has m less keeps p there)
          | inr other ↦
              let same : m ≡ n = omega (arith, lt, other) in
              let S : ℕ → Type 0 = λ k. StandsIn image (page_address chip k) (page_size chip k) p in
              with.adds p (subst S same there)
        ];
      }

-- a page that has no place isn't kept
pub unplaced : (s : StateData) (newest n : ℕ) (o : Option PagePlace) → newest ≡ length s.stack → o ≡ page_place s newest n → is_some o ≡ false → newest_keeps n s ≡ false
unplaced s newest n None is place none = no_place_keeps s newest n is place
unplaced s newest n (Some at) is place none = absurd (false≢true (sym none))

-- each place of an image that fits lies in the flash, and a part fits where its image does
pub place_inside : (chip : ChipData) (image : Pairs) (p : ℕ × ℕ) → Contains image p → image_fits chip image ≡ true → is_inside chip p.0 ≡ true
place_inside chip [] p held fits = absurd (omega (arith, held.1))
place_inside chip (x ∷ image) p (zero, lt, is) fits = let e : x ≡ p = is in subst (λ (q : ℕ × ℕ). is_inside chip q.0 ≡ true) e (and_parts (is_inside chip x.0) (image_fits chip image) fits).0
place_inside chip (x ∷ image) p (suc i, lt, is) fits = place_inside chip image p (i, omega (arith, lt), is) (and_parts (is_inside chip x.0) (image_fits chip image) fits).1

all_inside : (chip : ChipData) (part : Pairs) → ((p : ℕ × ℕ) → Contains part p → is_inside chip p.0 ≡ true) → image_fits chip part ≡ true
all_inside chip [] each = refl
all_inside chip (x ∷ part) each =
    ap₂ (λ (p q : Bool). p && q) (each x (zero, omega arith, refl)) (all_inside chip part (λ p held. each p (suc held.0, omega (arith, held.1), held.2)))

pub part_fits : (chip : ChipData) (image part : Pairs) → IsAmong part image → image_fits chip image ≡ true → image_fits chip part ≡ true
part_fits chip image part among fits = all_inside chip part (λ p held. place_inside chip image p (among p held) fits)

-- what a verify answers
pub verified_only : (part : Pairs) (said : Outcome) → IsKindOf (command.Verify part) said → outcome_data said ≡ was_verified
verified_only part outcome.Verified is = refl
verified_only part said is = absurd is
