-- Write Unprotect while a session may be unfinished, of a device that was reset: what is sent, what
-- it leaves, and how AN3155 says that the device goes on, which the model doesn't.
use Rattle.std.specs.Prelude.{◌≡◌, ◌≢◌, ◌⊎◌, ℕ, List, [], ◌∷◌, ◌++◌, Option, Some, None, Result}
use Rattle.std.specs.Prelude.{IfErr, IsTrue}
use Rattle.stm_wire.specs.declared.protection.Protection.TheVariants.{WriteUnprotect}
use Rattle.stm_wire.specs.Call.{Call}
use Rattle.stm_wire.specs.Device.{Device, Fresh}
use Rattle.stm_wire.specs.Dialogue.{Turn, GoesOn, calls_of}
use Rattle.stm_wire.specs.Exchange.{is_listed}
use Rattle.stm_wire.specs.Frames.{command, protect_turns}
use Rattle.stm_wire.specs.Moments.{FedAndTaken, LeavesOnly}
use Rattle.stm_wire.specs.Parts.{AreFew}
use Rattle.stm_wire.specs.Protection.{protection_code}
use Rattle.stm_wire.specs.Rig.{RigState}
use Rattle.stm_wire.specs.Settling.{PutsPart}
use Rattle.stm_wire.specs.SettlingCalls.{IsConnected}
use Rattle.stm_journal.specs.Calls.{AreFetches, IsUntouched}
use Rattle.stm_journal.specs.Journals.{JournalData, bad, good, journal_of}
use Rattle.stm_session.specs.declared.fault.Fault.{Fault}
use Rattle.stm_session.specs.declared.fault.Fault.TheVariants as faults
use Rattle.stm_session.specs.Fault.{IsOutsideFault}
use Rattle.stm_session.specs.Fresh.{IsReset}
use Rattle.stm_session.specs.Leaving.{IsSettledSame, Leaves}
use Rattle.stm_session.specs.Refusal.{RefusesUnsent}
use Rattle.stm_session.specs.Sending.{IsBegun}

-- 73 8C (AN3155, section 3.10)
abbrev pub unprotect_frame : List ℕ
unprotect_frame = command (protection_code WriteUnprotect)

-- and its two acknowledgements
abbrev pub unprotect_turns : List Turn
unprotect_turns = protect_turns (protection_code WriteUnprotect)

-- On any line:

-- The journal was read; then 7F was put once at most; and only behind its acknowledgement came a
-- beginning of the command's dialogue.
pub record IsUnprotecting (calls : List Call) : Type 0 where
  pub fetches : List Call
  pub are_fetches : AreFetches fetches
  pub connecting : List Call
  pub connects : PutsPart (0x7F ∷ []) 4099 connecting
  pub said : List Call
  pub begun : IsBegun unprotect_turns said
  pub behind : (said ≡ []) ⊎ IsConnected connecting
  pub is : calls ≡ fetches ++ (connecting ++ said)
  pub few : AreFew 4103 calls

-- all of that
pub record IsUnprotected (calls : List Call) : Type 0 where
  pub fetches : List Call
  pub are_fetches : AreFetches fetches
  pub connecting : List Call
  pub connected : IsConnected connecting
  pub is : calls ≡ fetches ++ (connecting ++ calls_of unprotect_turns)

-- On a line that follows the model:

-- a bad journal alone is refused, also of a device that can't be undone without this
abbrev pub bad_refusal : JournalData → Option Fault
bad_refusal (bad line) = Some (faults.BadJournal line)
bad_refusal (good s) = None

-- a settled device with the old flash was sent the whole command
abbrev pub WasUnprotected : Device → Device → Type 0
WasUnprotected old d = (mid : Device) × IsSettledSame old mid × FedAndTaken unprotect_frame mid d

-- The journal is as it was; and so is the flash, but where the device was sent the whole command.
abbrev pub LeftByUnprotecting : RigState → Device → List ℕ → Type 0
LeftByUnprotecting old d journal =
    (journal ≡ old.journal) × ((d.flash ≡ old.device.flash) ⊎ WasUnprotected old.device d)

-- what `unprotect_fresh` promises on an honest Rig: what it refuses, and what it leaves of a
-- device that was reset
pub record UnprotectContract {T : Type 0} (old new : RigState)
    (result : Result T Fault) : Type 0 where
  -- what is refused before a byte is sent, of any device
  pub refused : old.is_honest → (refusal : Fault)
      → bad_refusal (journal_of old.journal) ≡ Some refusal
      → RefusesUnsent (IsUntouched old) refusal old new result
  pub refused_calls : old.is_honest → (refusal : Fault)
      → bad_refusal (journal_of old.journal) ≡ Some refusal
      → GoesOn AreFetches old.calls new.calls
  -- a device that was reset: it is as safe as it was, or settled with the old flash, and was fed a
  -- beginning of the command
  pub leaves : old.is_honest → IsReset old.device → Leaves unprotect_frame old new result
  pub moments : old.is_honest → IsReset old.device → LeavesOnly (LeftByUnprotecting old) old new
  pub left : old.is_honest → IsReset old.device → LeftByUnprotecting old new.device new.journal
  -- and one that lists the command
  pub unprotects : old.is_honest → IsReset old.device
      → bad_refusal (journal_of old.journal) ≡ None
      → IsTrue (is_listed old.device.codes (protection_code WriteUnprotect))
      → IfErr result IsOutsideFault
  pub spared : old.is_honest → old.journal ≡ [] → IfErr result (λ e. e ≢ faults.Memory)

-- How a device that was reset goes on behind such a call, which left it so: the same device is
-- fresh from reset again, with whatever flash. AN3155 says in section 3.10 that the command changes
-- no byte of the flash, and that the device resets itself then: so where the whole of it was sent,
-- the flash is the old one. Where it wasn't, whoever stopped the call resets the device before
-- anything else, since the rest of the command may complete it; a flash that was still the old one
-- stays so.
pub record FollowsUnprotect (old left new : Device) : Type 0 where
  pub is_reset : new ≡ record old { flash = new.flash; owed = []; phase = Fresh }
  pub unprotected : WasUnprotected old left → new.flash ≡ old.flash
  pub same : left.flash ≡ old.flash → new.flash ≡ old.flash
