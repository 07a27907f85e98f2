-- A chip stands at the end, or one with its id was there.
use Rattle.std.proofs.Common.{◌≡◌, ◌∙◌, ◌∷◌, [], ℕ, ap, not, List, Option, Some, None, MatchOption, Contains, true, is_some}
use Rattle.std.specs.Borrow.{Bor}
use Rattle.std.specs.Option.{option_or}
use Rattle.stm_wire.proofs.Names.{ChipData}
use Rattle.stm_chip.specs.Document.{IsNewId}
use Rattle.stm_chip.specs.Over.{chip_by_id}
use Rattle.stm_chip.proofs.Joining.{is_last, is_there}
use Rattle.stm_chip.proofs.over.add_new.Goals as goal

pub returns-in_ok-push-clause-added : goal.returns-in_ok-push-clause-added
returns-in_ok-push-clause-added c = rw c.in_ok-push.ensures.items (is_last c.args.chips.now.items c.args.chip)

held : (chips : List ChipData) (chip : ChipData) (found : Option (Bor ChipData)) → MatchOption found (IsNewId chips chip.id) (λ other. (other.now.id ≡ chip.id) × Contains chips other.now)
    → is_some found ≡ true → (id : ℕ) → chip_by_id chips id ≡ option_or (chip_by_id chips id) (chip_by_id (chip ∷ []) id)
held chips chip None h e = cc
held chips chip (Some other) h e = is_there chips chip other.now h.1 h.0

pub returns-else-is_none-clause-added : goal.returns-else-is_none-clause-added
returns-else-is_none-clause-added c =
    held c.args.chips.now.items c.args.chip c.first_with.result (rw (← c.deref.ensures.value, ← c.id.ensures) c.first_with.ensures) (c.is_none.ensures ∙ ap not c.if-is_none.false)
