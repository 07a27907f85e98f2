use Rattle.std.proofs.Common.{ℕ, Result, inl, subst}
use Rattle.std.specs.Prelude.{MatchResult}
use Rattle.stm_image.specs.Clash.{IsClash}
use Rattle.stm_image.specs.Pairs.{Pairs, Agree, IsSetOf}
use Rattle.stm_image.specs.Pieces.{pairs_in}
use Rattle.stm_image.specs.Reads.{Reads}
use Rattle.stm_image.proofs.Conflicting.{has_byte, conflict_stands}
use Rattle.stm_image.proofs.Reading.{means_from, fault_from}
use Rattle.stm_image.proofs.reader.read_hex.Goals as goal

-- the pairs of what was read, and their set, or where they clash
abbrev Found : Pairs → Result Pairs ℕ → Type 0
Found pairs found = MatchResult found (λ set. IsSetOf set pairs × Agree pairs) (IsClash pairs)

pub record_of-requires : goal.record_of-requires
record_of-requires c =
    let reading = c.read_pieces-reading in
    has_byte _ _ _ _ reading.ensures.reads (subst (Found (pairs_in reading.result.pieces)) c.in-Err.is c.in-Ok.ensures)

pub returns-in-None-clause-ok : goal.returns-in-None-clause-ok
returns-in-None-clause-ok c =
    let reading = c.read_pieces-reading in
    let reads = subst (Reads c.args.text.now (pairs_in reading.result.pieces)) c.in-None.is reading.ensures.reads in
    let set = subst (Found (pairs_in reading.result.pieces)) c.in-Ok-found.is c.in-Ok.ensures in
    means_from _ _ _ reads set.0 set.1

pub returns-in-Some-clause-err : goal.returns-in-Some-clause-err
returns-in-Some-clause-err c =
    let reading = c.read_pieces-reading in
    let reads = subst (Reads c.args.text.now (pairs_in reading.result.pieces)) c.in-Some.is reading.ensures.reads in
    let set = subst (Found (pairs_in reading.result.pieces)) c.in-Ok-found.is c.in-Ok.ensures in
    fault_from _ _ _ reads set.1

-- the record of the first byte that differs
pub returns-in-Err-clause-err : goal.returns-in-Err-clause-err
returns-in-Err-clause-err c =
    let reading = c.read_pieces-reading in
    let clash = subst (Found (pairs_in reading.result.pieces)) c.in-Err.is c.in-Ok.ensures in
    inl (conflict_stands _ _ _ _ _ reading.ensures.reads clash c.record_of.ensures)
