-- What a run of commands answers.
use Rattle.std.specs.Prelude.{◌≡◌, ℕ, ◌-◌, Bool, true, false, List, [], ◌∷◌, map, take, drop}
use Rattle.std.specs.Prelude.{vec_len, Result, IfErr, IfOk, OnOk}
use Rattle.stm_wire.specs.Chip.{ChipData}
use Rattle.stm_wire.specs.Device.{Device, IsSettled}
use Rattle.stm_wire.specs.Rig.{RigState}
use Rattle.stm_wire.specs.Moments.{LeavesOnly}
use Rattle.stm_session.specs.declared.command.Command.{Command}
use Rattle.stm_session.specs.declared.command.Command.TheVariants as command
use Rattle.stm_session.specs.declared.outcome.Outcome.{Outcome}
use Rattle.stm_session.specs.declared.outcome.Outcome.TheVariants as outcome
use Rattle.stm_session.specs.declared.fault.Fault.{Fault}
use Rattle.stm_session.specs.Fault.{IsOutsideFault}
use Rattle.stm_session.specs.Moments.{IsUnbegun}

-- the bytes of a flash from this address on, so many
abbrev pub bytes_at : ChipData → List ℕ → ℕ → ℕ → List ℕ
bytes_at chip flash start size = take size (drop (start - chip.base) flash)

-- the command reads
abbrev pub is_reading : Command → Bool
is_reading (command.Read start size) = true
is_reading _ = false

-- the bytes that a command reads of a flash
abbrev pub bytes_read : ChipData → List ℕ → Command → List ℕ
bytes_read chip flash (command.Read start size) = bytes_at chip flash start size
bytes_read chip flash _ = []

-- the bytes that an outcome holds
abbrev pub bytes_of : Outcome → List ℕ
bytes_of (outcome.Read bytes) = bytes.items
bytes_of _ = []

-- the outcome is one of the command, and a read has as many bytes as were asked
abbrev pub IsKindOf : Command → Outcome → Type 0
IsKindOf (command.Write image) (outcome.Written segment pages) = Unit {0}
IsKindOf (command.Erase pages) (outcome.Erased segment count) = Unit {0}
IsKindOf (command.Verify image) outcome.Verified = Unit {0}
IsKindOf (command.Read start size) (outcome.Read bytes) = vec_len bytes ≡ size
IsKindOf _ _ = ⊥

-- one outcome a command, in their order
abbrev pub AreKindsOf : List Command → List Outcome → Type 0
AreKindsOf [] [] = Unit {0}
AreKindsOf [] (said ∷ outcomes) = ⊥
AreKindsOf (c ∷ commands) [] = ⊥
AreKindsOf (c ∷ commands) (said ∷ outcomes) = IsKindOf c said × AreKindsOf commands outcomes

-- one outcome a command, in their order, each with the flash's own bytes
abbrev pub AreRead : Device → List Command → List Outcome → Type 0
AreRead d commands outcomes = map bytes_of outcomes ≡ map (bytes_read d.chip d.flash) commands

-- A run that is refused nothing: no segment is begun at any moment, and the
-- outcomes are those of the flash.
pub record RunsReads {T : Type 0} (commands : List Command) (old new : RigState)
    (result : Result T Fault) (outcomes_of : T → List Outcome) : Type 0 where
  pub moments : LeavesOnly (IsUnbegun old) old new
  pub honest : new.is_honest
  pub left : IsUnbegun old new.device new.journal
  pub fails : IfErr result IsOutsideFault
  pub outcomes : IfOk result (λ x. AreRead old.device commands (outcomes_of x))
  pub settled : OnOk result (IsSettled new.device)
