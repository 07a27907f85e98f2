use Rattle.std.proofs.Common.{rules, ◌≡◌, ◌∙◌, ◌+◌, ◌*◌, ◌++◌, ◌∷◌, [], List, ℕ, Vec, Global, Bool, Ok, Some, true, is_ok, vec_len, if◌then◌else◌, length, map, take, drop, sym, ap, subst, arith, refl, inl, inr}
use Rattle.std.proofs.lemmas.List.{map-append, take_all}
use Rattle.stm_wire.proofs.Names.{GoesOn, IsPart}
use Rattle.stm_wire.specs.lemmas.PartLaws.{nothing_is_part}
use Rattle.stm_session.proofs.Names.{AreBegun, AreDoneInOrder, AreKindsOf, cause_of, Command, command_data, CommandData, commands_in, Fault, Follows, IsBegunTelling, IsKindOf, lies_in_flash}
use Rattle.stm_session.proofs.Names.{most_of_command, of_memory, Outcome, outcome_data, OutcomeData, Runs, Step, StopsBy}
use Rattle.stm_session.proofs.OutcomeKinds.{kinds_more}
use Rattle.stm_session.proofs.RunEnds.{run_all, run_refused, run_stopped}
use Rattle.stm_session.proofs.RunLoop.{depth_next, passes_next, room_next, taken_next, whole_list, commands_split}
use Rattle.stm_session.proofs.Runs.{HasRun, made_so_far, run_next, run_nothing}
use Rattle.stm_session.proofs.Sending.{same_fault}
use Rattle.stm_session.proofs.SentParts.{commands_next, commands_within}
use Rattle.stm_session.specs.RunOrder.{none as none_done, more}
use Rattle.stm_session.proofs.Orders.{does_nothing, does_then}
use Rattle.stm_session.specs.declared.fault.Fault.TheVariants as faults
use Rattle.stm_session.proofs.CutShort.{halts_first, stop_after}
use Rattle.stm_session.proofs.Reaching.{at_fault}
use Rattle.stm_session.proofs.running.run_commands.Goals as goal

pub loop-command-init : goal.loop-command-init
loop-command-init g c =
    let a = g.R.Rig.view c.args.rig.now in
    let l = c.args.journal.now in
    let none : c.reserve_exact.new.self.items ≡ [] = c.in_ok-reserve_exact.ensures.items ∙ c.new-outcomes.ensures.items in
    let K : List Outcome → Type 0 = λ os. AreKindsOf (take 0 c.args.commands.now) os in
    record {
      count = c.in_ok-reserve_exact.ensures.len ∙ c.new-outcomes.ensures.len;
      room = omega (arith, c.in_ok-reserve_exact.ensures.ok);
      kinds = subst K (sym none) tt;
      finished = c.requires.finished;
      depth = omega arith;
      line = refl;
      journal = refl;
      stays = λ h. h;
      parts = nothing_is_part (Some c.args.chip.now) true 0 a.calls;
      order =
          let D : List Outcome → Type 0 = λ os. AreDoneInOrder c.args.chip.now [] (map outcome_data os) l.state l.state [] in
          ([], subst D (sym none) (none_done l.state), does_nothing l a);
      honest = λ flashes steady chip.
          let model = g.met.R.Rig.model c.args.rig.now steady.honest in
          let H : List Outcome → Type 0 = λ os. HasRun [] flashes l a a (map outcome_data os) in
          subst H (sym none) (run_nothing c.step_laws.ensures flashes l a model steady);
    }

pub run_command-requires-clause-in_flash : goal.run_command-requires-clause-in_flash
run_command-requires-clause-in_flash g c =
    passes_next c.args.commands.now c.loop-command.command-index c.command-item.result c.loop-command-test.true c.command-item.is (lies_in_flash c.args.chip.now) c.requires.in_flash

pub run_command-requires-clause-room : goal.run_command-requires-clause-room
run_command-requires-clause-room g c change =
    room_next c.args.commands.now c.loop-command.command-index c.command-item.result c.loop-command-test.true c.command-item.is (length c.loop-command.journal.state.stack) (length c.args.journal.now.state.stack)
    c.loop-command.invariant.depth c.requires.room change

pub loop-command-preserved : goal.loop-command-preserved
loop-command-preserved g c =
    let V = g.R.Rig.view in
    let a = V c.args.rig.now in
    let b = V c.loop-command.rig in
    let d = V c.run_command.new.rig in
    let laws = c.step_laws.ensures in
    let l = c.args.journal.now in
    let l2 = c.loop-command.journal in
    let l3 = c.run_command.new.journal in
    let i = c.loop-command.command-index in
    let cs = c.args.commands.now in
    let next : Command = c.command-item.result in
    let lt = c.loop-command-test.true in
    let so_far = c.loop-command.invariant in
    let one = c.in_ok-outcome.outcome in
    let ok : is_ok c.push.result ≡ true = c.push.ensures.succeeds (omega (arith, so_far.count, so_far.room, lt)) in
    let pushed : c.push.new.self.items ≡ c.loop-command.outcomes.items ++ one ∷ [] =
    c.push.ensures.items ∙ ap (λ (b : Bool). if b then c.loop-command.outcomes.items ++ one ∷ [] else c.loop-command.outcomes.items) ok in
    record {
      count = c.push.ensures.len ∙ ap (λ (b : Bool). if b then vec_len c.loop-command.outcomes + 1 else vec_len c.loop-command.outcomes) ok ∙ ap (λ (n : ℕ). n + 1) so_far.count;
      room = omega (arith, so_far.room, c.push.ensures.capacity);
      kinds = kinds_more cs i next c.loop-command.outcomes.items c.push.new.self.items one lt pushed so_far.kinds
          (subst (λ (x : Command). IsKindOf x one) c.command-item.is c.in_ok-outcome.ensures.kind);
      finished = c.in_ok-outcome.ensures.finished;
      depth = depth_next cs i next lt c.command-item.is (length l.state.stack) (length l2.state.stack) (length l3.state.stack) so_far.depth c.in_ok-outcome.ensures.depth;
      line = c.in_ok-outcome.ensures.cause.line_done ∙ so_far.line;
      journal = c.in_ok-outcome.ensures.cause.journal_done ∙ so_far.journal;
      stays = λ h. c.in_ok-outcome.ensures.cause.honest (so_far.stays h);
      parts = commands_next c.args.chip.now i true a.calls b.calls d.calls so_far.parts c.in_ok-outcome.ensures.puts;
      order =
          let before = so_far.order in
          let own = c.in_ok-outcome.ensures.order in
          let steps = before.0 ++ own.0 in
          let after = map outcome_data c.push.new.self.items in
          let O : List CommandData → Type 0 = λ ys. AreDoneInOrder c.args.chip.now ys after l.state l3.state steps in
          let S : List OutcomeData → Type 0 = λ os. AreDoneInOrder c.args.chip.now (commands_in (take i cs) ++ command_data next ∷ []) os l.state l3.state steps in
          let said : map outcome_data c.loop-command.outcomes.items ++ outcome_data one ∷ [] ≡ after =
          sym (ap (map outcome_data) pushed ∙ map-append outcome_data c.loop-command.outcomes.items (one ∷ [])) in
          let done = more (commands_in (take i cs)) (command_data next) (map outcome_data c.loop-command.outcomes.items) (outcome_data one) l.state l2.state l3.state before.0 own.0 before.1 own.1.0 c.in_ok-outcome.ensures.depth in
          (steps, subst O (sym (taken_next cs i next lt c.command-item.is)) (subst S said done), does_then before.0 own.0 l l2 l3 a b d before.2 own.2);
      honest = λ flashes steady chip.
          let xs = commands_in (take i cs) in
          let said = map outcome_data c.loop-command.outcomes.items in
          let first = so_far.honest flashes steady chip in
          let model = g.met.R.Rig.model c.loop-command.rig first.steady.honest in
          let still = (made_so_far laws xs flashes l l2 a b said model steady first).chip ∙ chip in
          let does = c.in_ok-outcome.ensures.honest _ first.steady still in
          let told : said ++ outcome_data one ∷ [] ≡ map outcome_data c.push.new.self.items =
          sym (ap (map outcome_data) pushed ∙ map-append outcome_data c.loop-command.outcomes.items (one ∷ [])) in
          let H : List CommandData → Type 0 = λ ys. HasRun ys flashes l3 a d (map outcome_data c.push.new.self.items) in
          let O : List OutcomeData → Type 0 = λ os. HasRun (xs ++ command_data next ∷ []) flashes l3 a d os in
          subst H (sym (taken_next cs i next lt c.command-item.is))
          (subst O told (run_next laws xs flashes l l2 a b said model steady first (command_data next) l3 d one outcome_data does));
    }

pub returns-in_err-reserve_exact : goal.returns-in_err-reserve_exact
returns-in_err-reserve_exact g c =
    record {
      puts = search rules;
      kinds = search rules;
      order = search rules;
      stops = (
          let a = g.R.Rig.view c.args.rig.now in
          let l = c.args.journal.now in
          let P : Fault → Type 0 = λ e. StopsBy (AreBegun e c.args.chip.now (commands_in c.args.commands.now) l.state) (cause_of e) l.is_torn a a in
          at_fault P faults.Memory c.from_residual.result c.from_residual.ensures.1 (halts_first (AreBegun faults.Memory c.args.chip.now (commands_in c.args.commands.now) l.state) of_memory l.is_torn a (inl refl) refl));
      none = search rules;
      cause = search rules;
      named = search rules;
      honest = (λ flashes steady chip.
          let a = g.R.Rig.view c.args.rig.now in
          let l = c.args.journal.now in
          let model = g.met.R.Rig.model c.args.rig.now steady.honest in
          let first = run_nothing c.step_laws.ensures flashes l a model steady in
          run_refused c.step_laws.ensures [] flashes l l a a [] model steady first (commands_in c.args.commands.now) _ c.from_residual.result c.from_residual.ensures.1);
    }

pub returns-in_err-outcome : goal.returns-in_err-outcome
returns-in_err-outcome g c =
    record {
      puts = (
          let V = g.R.Rig.view in
          let a = (V c.args.rig.now).calls in
          let d = (V c.run_command.new.rig).calls in
          let i = c.loop-command.command-index in
          let n = length c.args.commands.now in
          let P : Bool → Type 0 = λ w. GoesOn (IsPart (Some c.args.chip.now) w (n * most_of_command)) a d in
          same_fault P _ c.from_residual-in_err-outcome.result c.from_residual-in_err-outcome.ensures.1
          (commands_within c.args.chip.now (i + 1) n _ a d (omega (arith, c.loop-command-test.true))
          (commands_next c.args.chip.now i _ a (V c.loop-command.rig).calls d c.loop-command.invariant.parts c.in_err-outcome.ensures.puts)));
      kinds = search rules;
      order = search rules;
      stops = (
          let V = g.R.Rig.view in
          let chip = c.args.chip.now in
          let l = c.args.journal.now in
          let l2 = c.loop-command.journal in
          let i = c.loop-command.command-index in
          let cs = c.args.commands.now in
          let next = c.command-item.result in
          let so_far = c.loop-command.invariant.order in
          let a = V c.args.rig.now in
          let d = V c.run_command.new.rig in
          let e = c.in_err-outcome.field-0.0 in
          let One = IsBegunTelling chip (command_data next) l2.state e in
          let split = commands_split cs i next c.loop-command-test.true c.command-item.is in
          let All : Fault → List Step → Type 0 = λ x. AreBegun x chip (commands_in cs) l.state in
          let P : Fault → Type 0 = λ x. StopsBy (All x) (cause_of x) l.is_torn a d in
          at_fault P e c.from_residual-in_err-outcome.result c.from_residual-in_err-outcome.ensures.1
          (stop_after One (All e) (cause_of e) so_far.0 l l2 a (V c.loop-command.rig) d so_far.2 c.in_err-outcome.ensures.stops
          (λ ys begun.
          inr (record {
            earlier = commands_in (take i cs);
            command = command_data next;
            later = commands_in (drop (i + 1) cs);
            split = split;
            outcomes = map outcome_data c.loop-command.outcomes.items;
            mid = l2.state;
            before = so_far.0;
            are_done = so_far.1;
            own = ys;
            is_begun = begun.0;
            tells = begun.1;
            is = refl;
          }))));
      none = search rules;
      cause = search rules;
      named = search rules;
      honest = (λ flashes steady chip.
          let V = g.R.Rig.view in
          let a = V c.args.rig.now in
          let b = V c.loop-command.rig in
          let d = V c.run_command.new.rig in
          let laws = c.step_laws.ensures in
          let l = c.args.journal.now in
          let l2 = c.loop-command.journal in
          let i = c.loop-command.command-index in
          let cs = c.args.commands.now in
          let next : Command = c.command-item.result in
          let xs = commands_in (take i cs) in
          let said = map outcome_data c.loop-command.outcomes.items in
          let first = c.loop-command.invariant.honest flashes steady chip in
          let model = g.met.R.Rig.model c.loop-command.rig first.steady.honest in
          let still = (made_so_far laws xs flashes l l2 a b said model steady first).chip ∙ chip in
          let does = c.in_err-outcome.ensures.honest _ first.steady still in
          let R : List CommandData → Type 0 = λ ys. Runs {T = Vec Outcome Global} ys flashes a d c.from_residual-in_err-outcome.result (λ outcomes. map outcome_data outcomes.items) in
          subst R (whole_list cs i next c.loop-command-test.true c.command-item.is)
          (run_stopped laws xs flashes l l2 a b said model steady first (command_data next) (commands_in (drop (i + 1) cs)) c.run_command.new.journal d _ outcome_data c.from_residual-in_err-outcome.result _
          c.loop-command.invariant.finished (g.met.R.Rig.model c.run_command.new.rig does.honest) does c.from_residual-in_err-outcome.ensures.1));
    }

pub returns : goal.returns
returns g c =
    record {
      puts = search rules;
      kinds = (
          let i = c.loop-command.command-index in
          let cs = c.args.commands.now in
          let K : List Command → Type 0 = λ xs. AreKindsOf xs c.loop-command.outcomes.items in
          subst K (take_all i cs (omega (arith, c.loop-command-test.false))) c.loop-command.invariant.kinds);
      order = (
          let V = g.R.Rig.view in
          let l = c.args.journal.now in
          let l2 = c.loop-command.journal in
          let i = c.loop-command.command-index in
          let cs = c.args.commands.now in
          let all : commands_in (take i cs) ≡ commands_in cs = ap commands_in (take_all i cs (omega (arith, c.loop-command-test.false))) in
          let said = map outcome_data c.loop-command.outcomes.items in
          let P : List CommandData → Type 0 = λ ys. Follows (AreDoneInOrder c.args.chip.now ys said l.state l2.state) l l2 (V c.args.rig.now) (V c.loop-command.rig) in
          subst P all c.loop-command.invariant.order);
      stops = search rules;
      none = search rules;
      cause = (
          let so_far = c.loop-command.invariant in
          record {
            line_later = omega (arith, so_far.line);
            journal_later = omega (arith, so_far.journal);
            failed = tt;
            line_done = so_far.line;
            line_kept = tt;
            journal_done = so_far.journal;
            journal_kept = tt;
            honest = so_far.stays;
          });
      named = search rules;
      honest = (λ flashes steady chip.
          let V = g.R.Rig.view in
          let a = V c.args.rig.now in
          let b = V c.loop-command.rig in
          let l = c.args.journal.now in
          let l2 = c.loop-command.journal in
          let i = c.loop-command.command-index in
          let cs = c.args.commands.now in
          let said = map outcome_data c.loop-command.outcomes.items in
          let first = c.loop-command.invariant.honest flashes steady chip in
          let model = g.met.R.Rig.model c.loop-command.rig first.steady.honest in
          let all : commands_in (take i cs) ≡ commands_in cs = ap commands_in (take_all i cs (omega (arith, c.loop-command-test.false))) in
          let R : List CommandData → Type 0 = λ ys. Runs {T = Vec Outcome Global} ys flashes a b (Ok c.loop-command.outcomes) (λ outcomes. map outcome_data outcomes.items) in
          subst R all (run_all c.step_laws.ensures (commands_in (take i cs)) flashes l l2 a b said model steady first c.loop-command.outcomes _ c.loop-command.invariant.finished refl));
    }
