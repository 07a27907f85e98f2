-- Whether a device is the journal's, by what it answers.
use Rattle.std.proofs.Common.{◌≡◌, Bool, true, false, ◌==◌, List, [], ◌∷◌, ℕ, Option, None, refl, sym, ◌∙◌, ap, IsTrue}
use Rattle.std.proofs.lemmas.Bool.{eq-eqb, true≢false}
use Rattle.stm_wire.specs.declared.chip.EraseKind.{EraseKind}
use Rattle.stm_wire.specs.declared.chip.EraseKind.TheVariants.{Page, Extended}
use Rattle.stm_wire.proofs.Names.{ChipData, Device, is_listed, IsDevice, ListsKind}
use Rattle.stm_session.proofs.Names.{can_erase, erase_code, Fault, first_refusal, refused_unless, undo_misfit}
use Rattle.stm_session.specs.declared.fault.Fault.TheVariants as fault

misfit_by : Bool → Bool → Option Fault
misfit_by can same = first_refusal (refused_unless can fault.NoErase ∷ refused_unless same fault.OtherDevice ∷ [])

pub misfit_none : (chip : ChipData) (id : ℕ) (d : Device) → can_erase chip d ≡ true → d.chip.id ≡ id → undo_misfit chip id d ≡ None
unfolding misfit_by
misfit_none chip id d can same = ap (λ (b : Bool). misfit_by b (d.chip.id == id)) can ∙ ap (λ (b : Bool). misfit_by true b) (eq-eqb d.chip.id id same)

-- a device lists the command by which its own pages are erased
true-is : (b : Bool) → IsTrue b → b ≡ true
true-is true h = refl
true-is false h = absurd (true≢false (sym h))

own_erase : (kind : EraseKind) (codes : List ℕ) → ListsKind kind codes → is_listed codes (erase_code kind) ≡ true
own_erase Page codes lists = true-is _ lists.0
own_erase Extended codes lists = true-is _ lists.0

pub own_misfit : (chip : ChipData) (d : Device) → IsDevice d → d.chip ≡ chip → undo_misfit chip chip.id d ≡ None
own_misfit chip d is same =
    let can : can_erase chip d ≡ true = ap (λ (c : ChipData). is_listed d.codes (erase_code c.kind)) (sym same) ∙ own_erase d.chip.kind d.codes is.erase in
    misfit_none chip chip.id d can (ap (λ (c : ChipData). c.id) same)
