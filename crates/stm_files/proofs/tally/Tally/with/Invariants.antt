use Rattle.std.proofs.Common.{◌+◌, ◌<◌, ◌^◌, ◌++◌, List, ℕ, length, take}
use Rattle.stm_files.specs.Tally.{IsTallyOf}
use Rattle.stm_files.proofs.tally.Tally.with.Given as goal

abbrev pub invariant-loop-byte : goal.invariant-loop-byte
invariant-loop-byte l =
    (bytes : List ℕ) → IsTallyOf bytes l.fn.self → length bytes + length l.more < 2 ^ 63 → IsTallyOf (bytes ++ take l.byte-index l.more) l.tally
