-- What settling sends, by its way; and that 7F connects a fresh device.
use Rattle.std.proofs.Common.{◌≡◌, ◌≤◌, ◌+◌, ◌*◌, min, max, cond, eqb, ℕ, Bool, true, false, List, [], length, Option, Some, None, refl, sym, subst, arith, lit≤}
use Rattle.stm_wire.specs.declared.chip.EraseKind.{EraseKind}
use Rattle.stm_wire.specs.declared.chip.EraseKind.TheVariants.{Page, Extended}
use Rattle.stm_wire.specs.declared.intent.Intent.{Intent}
use Rattle.stm_wire.specs.declared.intent.Intent.TheVariants.{Erase, Program}
use Rattle.stm_wire.proofs.Names.{Call, Device, EndsUnder, GoesOn, Harmless, IsSettled, IsSettling, SettlesWithin, settling_byte, with_rest}
use Rattle.stm_session.proofs.Names.{byte_of, EndsWell, limit_of, settling_limit, settling_way}

-- what is sent, and how it ends, is said of the way
pub way_sends : (kind : EraseKind) (g : Bool) (o : Option Intent) (a b : Option (List Call)) → GoesOn (SettlesWithin (settling_byte o) (settling_limit kind g o)) a b
    → GoesOn (SettlesWithin (byte_of (settling_way kind g o)) (limit_of (settling_way kind g o))) a b
way_sends kind g None a b p = p
way_sends kind g (Some i) a b p = p

pub way_ends : (kind : EraseKind) (g : Bool) (o : Option Intent) (a b : Option (List Call)) → GoesOn (EndsUnder o (settling_limit kind g o)) a b → GoesOn (EndsWell (settling_way kind g o)) a b
way_ends kind g None a b p = p
way_ends kind g (Some i) a b p = p

-- the limit is never more than this
pub limit_most : (kind : EraseKind) (g : Bool) (o : Option Intent) → settling_limit kind g o ≤ 131072
limit_most kind g None = lit≤ tt
limit_most kind g (Some (Program n)) = lit≤ tt
limit_most Page g (Some (Erase n)) = lit≤ tt
limit_most Extended g (Some (Erase n)) = go (eqb (settling_byte (Some (Erase n))) 0x7F)
  where
    least : ℕ
    least = cond g (settling_byte (Some (Erase n)) * 2 + 65030) 512

    go : (t : Bool) → cond t 131072 (min (max (settling_byte (Some (Erase n)) * 514 + 8) least) 131072) ≤ 131072
    go true = lit≤ tt
    go false = omega arith

-- the start of a settling
pub settling_starts : (byte : ℕ) (pages : List ℕ) (d : Device) → Harmless d byte pages → length d.owed ≤ 4096 → IsSettling byte pages d d
settling_starts byte pages d harmless owed =
    record { same_chip = refl; same_version = refl; same_codes = refl; harmless = harmless; awaits = λ most three w. w; flash = record { same_length = refl; elsewhere = λ n lt out. refl }; owed = owed }

-- and its end
pub connected_is_settled : (old new : Device) → new ≡ with_rest [] old → IsSettled new
connected_is_settled old new is = subst IsSettled (sym is) (record { phase = refl; owed = refl })
