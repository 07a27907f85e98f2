-- Frames of which no byte completes a read.
use Rattle.std.proofs.Common.{◌≡◌, ℕ, ◌+◌, ◌-◌, List, [], ◌∷◌, ◌++◌, length, refl, sym, subst}
use Rattle.std.proofs.Common.{arith, length-append}
use Rattle.stm_wire.specs.declared.chip.EraseKind.{EraseKind}
use Rattle.stm_wire.specs.declared.chip.EraseKind.TheVariants.{Page, Extended}
use Rattle.stm_wire.proofs.Names.{command, Device, erase_frame, IsDevice, write_frame, xor}
use Rattle.stm_weak.specs.WeakFrames.{ReadsNoFlash, asks, erases, names, tells, writes}
use Rattle.stm_weak.specs.WeakFrames.{FramesAreUnread}
use Rattle.stm_weak.proofs.Unread.{IsNoRead, IsSilentAlong, has_at_first, silent_along, unread_from}
use Rattle.stm_weak.proofs.Openness.{inside_if_fits, open_erase, open_write}
use Rattle.stm_weak.proofs.UniqueReads.{outside, silent_read}

silent_frame : (d : Device) (frame : List ℕ) → IsDevice d → ReadsNoFlash d.chip frame
    → IsSilentAlong d.chip d.codes [] frame
silent_frame d frame is (asks e) =
    let P : List ℕ → Type 0 = λ x. IsSilentAlong d.chip d.codes [] x in
    subst P (sym e) (silent_along d.chip d.codes [] (command 0x00) (refl, tt)
    (λ (e : 0 ≡ 0x11). omega (arith, e)))
silent_frame d frame is (names e) =
    let P : List ℕ → Type 0 = λ x. IsSilentAlong d.chip d.codes [] x in
    subst P (sym e) (silent_along d.chip d.codes [] (command 0x02) (refl, tt)
    (λ (e : 2 ≡ 0x11). omega (arith, e)))
silent_frame d frame is (tells place size told e) =
    let P : List ℕ → Type 0 = λ x. IsSilentAlong d.chip d.codes [] x in
    subst P (sym e) (silent_read d.chip d.codes place.address (size - 1) is.read
    (outside d.chip place is.chip told (size - 1 + 1)))
silent_frame d frame is (erases n e) =
    let P : List ℕ → Type 0 = λ x. IsSilentAlong d.chip d.codes [] x in
    subst P (sym e) (silent_along d.chip d.codes [] (erase_frame d.chip.kind n)
    (open_erase d.chip d.codes d.chip.kind n is.erase) (other d.chip.kind))
  where
    other : (kind : EraseKind) → IsNoRead (erase_frame kind n)
    other Page = λ (e : 0x43 ≡ 0x11). omega (arith, e)
    other Extended = λ (e : 0x44 ≡ 0x11). omega (arith, e)
silent_frame d frame is (writes address bytes some fits e) =
    let P : List ℕ → Type 0 = λ x. IsSilentAlong d.chip d.codes [] x in
    let n = length bytes - 1 in
    let rest = bytes ++ xor (n ∷ bytes) ∷ [] in
    let size : length rest ≡ length bytes + 1 = length-append bytes (xor (n ∷ bytes) ∷ []) in
    let inside = inside_if_fits d.chip address (length bytes) some fits in
    subst P (sym e) (silent_along d.chip d.codes [] (write_frame address bytes)
    (open_write d.chip d.codes address n is.write inside rest (omega (arith, size))
    (omega (arith, size, some))) (λ (e : 0x31 ≡ 0x11). omega (arith, e)))

pub frames_are_unread : FramesAreUnread
frames_are_unread happenings old new d frame is can waits nothing (rest, begins) no_reset led =
    unread_from d.chip d.codes happenings old new [] frame rest no_reset (sym begins)
    (has_at_first old d frame can waits) (silent_frame d frame is nothing) led
