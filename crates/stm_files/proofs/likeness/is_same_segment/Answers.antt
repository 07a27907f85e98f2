use Rattle.std.proofs.Common.{◌≡◌, ℕ, ◌<◌, Option, rules, arith}
use Rattle.stm_journal.proofs.Names.{segment_of, SegmentData, StateData}
use Rattle.stm_files.proofs.Cuts.{count_of, same-segment}
use Rattle.stm_files.proofs.likeness.is_same_segment.Goals as goal

pub returns : goal.returns
returns c =
    λ said.
    let s : StateData = c.args.old.now.state in
    let t : StateData = c.args.new.now.state in
    let a : Option SegmentData = segment_of s c.args.k in
    let b : Option SegmentData = segment_of t c.args.j in
    let stages : c.in-Some-Some.stage ≡ c.in-Some-Some.other = search rules in
    let counts : count_of a ≡ count_of b = search rules in
    let all : (i : ℕ) → i < count_of a → i < c.loop-i.i = λ i lt. omega (arith, lt, c.loop-i-test.false, c.kept_count-i-end.ensures) in
    same-segment a b c.in-Some-Some.stage c.in-Some-Some.other (search rules) (search rules) stages counts (λ i lt. c.loop-i.invariant i (all i lt))
