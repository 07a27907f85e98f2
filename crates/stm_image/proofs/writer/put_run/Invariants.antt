use Rattle.std.proofs.Common.{◌≡◌, ◌+◌, ◌++◌, length}
use Rattle.stm_image.specs.Canon.{lines, parts_of, runs_of}
use Rattle.stm_image.specs.Pairs.{Pairs, raw_pairs}
use Rattle.stm_image.specs.Parts.{IsBehind}
use Rattle.stm_image.proofs.writer.put_run.Given as goal

-- the text so far, with the lines of what is left, is that of the whole run
abbrev pub invariant-parts : goal.invariant-parts
invariant-parts l = record {
  at : l.at + length l.rest ≡ l.start + length l.bytes;
  written : (later : Pairs) → IsBehind (l.start + length l.bytes) later
      → l.text.items ++ lines l.high (parts_of (runs_of (raw_pairs l.at l.rest ++ later))) ≡ l.initial.text.items ++ lines l.upper (parts_of (runs_of (raw_pairs l.start l.bytes ++ later)));
}

abbrev pub decreases-parts : goal.decreases-parts
decreases-parts l = length l.rest
