-- A watched Rig, as contracts see it.
use Rattle.std.specs.Prelude.{◌≡◌, ℕ, ◌+◌, true, false, List, [], ◌∷◌, Option, Some, None}
use Rattle.stm_wire.specs.Call.{Call, Get}
use Rattle.stm_wire.specs.Rig.{RigState}
use Rattle.stm_watch.specs.Known.{Known, is_due, heard, first_due, address_due}
use Rattle.stm_watch.specs.Seen.{IsSeen}

-- the last of these calls, a get, failed
abbrev pub quieted : List Call → List Call
quieted [] = []
quieted (call ∷ []) = Get None ∷ []
quieted (call ∷ next ∷ calls) = call ∷ quieted (next ∷ calls)

abbrev pub quieted_record : Option (List Call) → Option (List Call)
quieted_record None = None
quieted_record (Some calls) = Some (quieted calls)

-- Where nothing was refused it tells what the inner Rig tells, but for how many gets waited long,
-- which it doesn't keep. It follows the model where the inner one does, and the device may be one
-- of which this is known. Once a byte was refused, it follows no model: the get that brought it
-- failed, and no call is handed on.
abbrev pub watched : {A : Type 0} → Known → Option A → ℕ → ℕ → RigState → RigState
watched k None line journal rig =
    record rig {
      is_honest = rig.is_honest × IsSeen k rig.device;
      line_failures = rig.line_failures + line;
      journal_failures = rig.journal_failures + journal;
      long_gets = None;
    }
watched k (Some refusal) line journal rig =
    record rig {
      is_honest = ⊥;
      line_failures = rig.line_failures + line;
      journal_failures = rig.journal_failures + journal;
      calls = quieted_record rig.calls;
      has_room = ⊥;
      long_gets = None;
    }

-- what a get answered has come to what is known: a byte that may come
abbrev pub IsHeard : Option ℕ → Known → Known → Type 0
IsHeard None old new = new ≡ old
IsHeard (Some byte) old new = (is_due byte old ≡ true) × (new ≡ heard byte old)

-- this byte may not come where this is known, where that one was due, or none; and of a byte of the
-- flash this is the address
abbrev pub IsByteRefused : Option ℕ → ℕ → Option ℕ → Known → Type 0
IsByteRefused due came address k = (is_due came k ≡ false) × (due ≡ first_due k k.due)
    × (address ≡ address_due k k.due)
