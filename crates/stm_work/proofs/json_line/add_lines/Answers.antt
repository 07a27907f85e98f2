use Rattle.std.proofs.Common.{◌+◌, ◌++◌, ◌∙◌, List, ℕ, [], ap, arith, drop, sym}
use Rattle.std.specs.List.{slice_range}
use Rattle.stm_work.specs.JsonLine.{lines_from, list_from}
use Rattle.stm_work.proofs.JsonLists.{other_byte, line_byte, last_line}
use Rattle.stm_work.proofs.json_line.add_lines.Goals as goal

pub loop-i-preserved-then-text-i-ne10 : goal.loop-i-preserved-then-text-i-ne10
loop-i-preserved-then-text-i-ne10 c =
    let l = c.loop-i in
    let had = l.invariant in
    record {
      start = omega (arith, had.start);
      told =
          ap (λ (more : List (List ℕ)). l.out.items ++ list_from l.mark more)
          (other_byte c.args.text.now l.start l.i had.start c.loop-i-test.true
          c.if-text-i-ne10.true)
          ∙ had.told;
    }

pub loop-i-preserved : goal.loop-i-preserved
loop-i-preserved c =
    let l = c.loop-i in
    let had = l.invariant in
    let text = c.args.text.now in
    let next = lines_from (slice_range text (l.i + 1) (l.i + 1)) (drop (l.i + 1) text) in
    record {
      start = omega arith;
      told =
          c.in_ok-mark.ensures next
          ∙ ap (λ (more : List (List ℕ)). l.out.items ++ list_from l.mark more)
          (sym (line_byte text (slice_range text l.start l.i) l.i c.loop-i-test.true
          c.if-text-i-ne10.false))
          ∙ had.told;
    }

pub returns : goal.returns
returns c =
    let l = c.loop-i in
    let had = l.invariant in
    c.in_ok-end_list.ensures ∙ c.in_ok-mark-2.ensures []
    ∙ ap (λ (more : List (List ℕ)). l.out.items ++ list_from l.mark more)
    (sym (last_line c.args.text.now l.start l.i
    (omega (arith, l.auto.i-end, c.loop-i-test.false))))
    ∙ had.told
