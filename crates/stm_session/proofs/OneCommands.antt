-- What each of the four commands does.
use Rattle.std.proofs.Common.{◌≡◌, ℕ, ◌+◌, List, Option, Some, None, Result, Ok, Err, IsErrAnd, true, length, refl, sym, ◌∙◌, ap, ap₂}
use Rattle.stm_wire.proofs.Names.{ChipData, RigState}
use Rattle.stm_journal.proofs.Names.{Loaded}
use Rattle.stm_image.specs.Pairs.{Pairs}
use Rattle.stm_session.proofs.Names.{answer_on, Asks, Change, Changes, command_of, depth_at, DoesCommand, Fault, first_difference, flash_after, flash_left, is_change, is_named_at, IsMade, IsSteady}
use Rattle.stm_session.proofs.Names.{Outcome, outcome_data, OutcomeData, pages_that_differ, segment_entries, StepLaws, verified_or, verifies}
use Rattle.stm_session.specs.declared.fault.Fault.TheVariants as faults
use Rattle.stm_session.specs.declared.outcome.Outcome.TheVariants as outcome
use Rattle.stm_session.proofs.Doings.{asks_differs, asks_does, change_does, change_fails, change_of_chip}
use Rattle.stm_session.proofs.Keeping.{depth_text}

-- a change of the flash, as its function promises it
abbrev pub ChangesBy : {T : Type 0} → List (List ℕ) → Change → ChipData → Loaded → RigState → RigState → Result T Fault → (T → Type 0) → Type 0
ChangesBy flashes k chip l2 old new result Done =
    let after = flash_after chip old.device.flash (command_of k) in
    Changes flashes (segment_entries (is_named_at old.journal) chip (depth_at old.journal + 1) old.device.flash after) after l2 old new result Done

module _ (flashes : List (List ℕ)) (k : Change) (chip : ChipData) (l l2 : Loaded) (old new : RigState) (change : is_change (command_of k) ≡ true) (chip_is : old.device.chip ≡ chip) where
  pub change_made : (segment pages : ℕ) (y : Outcome) (said : ℕ → ℕ → OutcomeData) → IsSteady flashes l old → segment ≡ length l.state.stack + 1
      → ChangesBy {T = ℕ × ℕ} flashes k chip l2 old new (Ok (segment, pages)) (λ answer. IsMade chip k old.device.flash new.device.flash answer.1)
      → answer_on old (command_of k) ≡ Ok (said (depth_at old.journal + 1) (pages_that_differ old.device.chip old.device.flash (flash_left old (command_of k))))
      → outcome_data y ≡ said segment pages → DoesCommand flashes (command_of k) l2 old new (Ok y) outcome_data
  change_made segment pages y said steady number changes told is =
      let c = command_of k in
      let made = changes.done in
      let of_chip : (p : ChipData) → ℕ = λ p. pages_that_differ p old.device.flash (flash_after p old.device.flash c) in
      let depth : segment ≡ depth_at old.journal + 1 = number ∙ ap (λ (n : ℕ). n + 1) (depth_text l old.journal steady.loaded) in
      change_does flashes c l2 old new change outcome_data (segment, pages) y (change_of_chip flashes c chip l2 old new (Ok (segment, pages)) change chip_is changes)
      (made.flash ∙ ap (λ (p : ChipData). flash_after p old.device.flash c) (sym chip_is))
      (told ∙ ap₂ (λ (s p : ℕ). Ok (said s p)) (sym depth) (ap of_chip chip_is ∙ sym made.counts) ∙ ap (λ (o : OutcomeData). Ok o) (sym is))

  pub change_broken : {U : Type 0} {Done : ℕ × ℕ → Type 0} (outcome_in : U → OutcomeData) (e : Fault) (result : Result U Fault) → ChangesBy {T = ℕ × ℕ} flashes k chip l2 old new (Err e) Done → IsErrAnd result (λ z. z ≡ e)
      → DoesCommand flashes (command_of k) l2 old new result outcome_in
  change_broken outcome_in e result changes is = change_fails flashes (command_of k) l2 old new change outcome_in l2 e result (change_of_chip flashes (command_of k) chip l2 old new (Err e) change chip_is changes) is

-- a verify
module _ (laws : StepLaws) (flashes : List (List ℕ)) (image : Pairs) (chip : ChipData) (l : Loaded) (old new : RigState) (steady : IsSteady flashes l old) (chip_is : old.device.chip ≡ chip) where
  told_on : (found : Option ℕ) → found ≡ first_difference image chip.base old.device.flash → answer_on old (verifies image) ≡ verified_or found
  told_on found told = ap (λ (p : ChipData). verified_or (first_difference image p.base old.device.flash)) chip_is ∙ ap verified_or (sym told)

  pub verify_agrees : Asks old new (Ok None) (λ found. found ≡ first_difference image chip.base old.device.flash) → DoesCommand flashes (verifies image) l old new (Ok outcome.Verified) outcome_data
  verify_agrees asks = asks_does laws flashes (verifies image) l old new refl steady outcome_data None outcome.Verified asks (told_on None asks.done)

  pub verify_differs : {U : Type 0} (outcome_in : U → OutcomeData) (address : ℕ) → Asks old new (Ok (Some address)) (λ found. found ≡ first_difference image chip.base old.device.flash)
      → DoesCommand flashes (verifies image) l old new (Err (faults.Differs address)) outcome_in
  verify_differs outcome_in address asks = asks_differs laws flashes (verifies image) l old new refl steady outcome_in l (Some address) address asks (told_on (Some address) asks.done)
