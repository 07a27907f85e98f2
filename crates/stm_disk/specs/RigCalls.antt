-- What a call of any Rig says, in one.
use Rattle.std.specs.Prelude.{◌≡◌, ℕ, List, Option, Result}
use Rattle.stm_wire.specs.declared.fault.RigFault.{RigFault}
use Rattle.stm_wire.specs.declared.rig.Patience.{Patience}
use Rattle.stm_wire.specs.Call.{Put, Fetch}
use Rattle.stm_wire.specs.Rig.{RigState, HasCause, Records, RecordsAppend, Enters, EntersAppend}
use Rattle.stm_wire.specs.Rig.{entry_of_get, PutsAside, GetsAside, FetchesAside, FetchesWithin}
use Rattle.stm_wire.specs.Rig.{PutsHonestly, GetsHonestly, AppendsHonestly, FetchesHonestly}

pub record PutsAsRig (byte : ℕ) (result : Result (Unit {0}) RigFault) (old new : RigState)
    : Type 0 where
  pub cause : HasCause old.line_failures new.line_failures result
  pub journal_count : new.journal_failures ≡ old.journal_failures
  pub recorded : Records (Put byte) result old.calls new.calls
  pub entered : Enters (Put byte) old new
  pub aside : PutsAside old new
  pub honest : old.is_honest → PutsHonestly byte result old new

pub record GetsAsRig (patience : Patience) (result : Result (Option ℕ) RigFault)
    (old new : RigState) : Type 0 where
  pub cause : HasCause old.line_failures new.line_failures result
  pub journal_count : new.journal_failures ≡ old.journal_failures
  pub recorded : Records (entry_of_get result) result old.calls new.calls
  pub entered : Enters (entry_of_get result) old new
  pub aside : GetsAside patience old new
  pub honest : old.is_honest → GetsHonestly result old new

pub record AppendsAsRig (bytes : List ℕ) (result : Result (Unit {0}) RigFault)
    (old new : RigState) : Type 0 where
  pub cause : HasCause old.journal_failures new.journal_failures result
  pub line_count : new.line_failures ≡ old.line_failures
  pub recorded : RecordsAppend bytes result old.calls new.calls
  pub entered : EntersAppend bytes old new
  pub aside : PutsAside old new
  pub honest : old.is_honest → AppendsHonestly bytes result old new

pub record FetchesAsRig (at : ℕ) (before after : List ℕ) (result : Result ℕ RigFault)
    (old new : RigState) : Type 0 where
  pub within : FetchesWithin at before after result
  pub cause : HasCause old.journal_failures new.journal_failures result
  pub line_count : new.line_failures ≡ old.line_failures
  pub recorded : Records Fetch result old.calls new.calls
  pub entered : Enters Fetch old new
  pub aside : FetchesAside after result old new
  pub honest : old.is_honest → FetchesHonestly at before after result old new
