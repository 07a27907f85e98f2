-- What a call leaves in the record of a Rig's calls.
use Rattle.std.specs.Prelude.{◌+◌, ◌-◌, ◌^◌, min, [], ◌∷◌, ◌++◌, take, Ok, Err}
use Rattle.stm_wire.specs.Call as call
use Rattle.stm_wire.specs.declared.rig.Patience.TheVariants.{Brief, Long}
use Rattle.stm_wire.specs.Rig.{entry_of_get}
use Rattle.stm_files.specs.CallRecord.{Past}
use Rattle.stm_files.specs.declared.call_record.Called.{Called}
use Rattle.stm_files.specs.declared.call_record.Called.TheVariants.{Put, Get, Append, Fetch}

abbrev pub past_with : Past → Called → Past
past_with p (Put byte) = record p { calls = p.calls ++ call.Put byte ∷ [] }
past_with p (Get Brief answer) = record p { calls = p.calls ++ entry_of_get answer ∷ [] }
past_with p (Get Long answer) =
    record p { calls = p.calls ++ entry_of_get answer ∷ []; long_gets = min (p.long_gets + 1) (2 ^ 64 - 1) }
past_with p (Append bytes) = record p { calls = p.calls ++ call.Append bytes.now ∷ [] }
past_with p (Fetch bytes (Ok n)) = record p { calls = p.calls ++ call.Fetch ∷ []; told = p.told ++ take n bytes.now }
past_with p (Fetch bytes (Err e)) = record p { calls = p.calls ++ call.Fetch ∷ [] }
