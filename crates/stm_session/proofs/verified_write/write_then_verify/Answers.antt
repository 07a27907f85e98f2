use Rattle.std.proofs.Common.{rules, ◌≡◌, ◌∙◌, ◌+◌, ◌*◌, ◌++◌, ◌∷◌, [], List, ℕ, Ok, Err, Some, inr, true, length, refl, sym, ap, ap₂, append-nil, arith}
use Rattle.stm_wire.proofs.Names.{GoesOn, IsPart}
use Rattle.stm_session.specs.declared.command.Command.TheVariants as command
use Rattle.stm_session.proofs.Names.{AreBegun, AreDoneInOrder, cause_of, Fault, IsBegunTelling, IsSteady, IsWrittenAndSeen, most_of_command, of_memory, Outcome, outcome_data, OutcomeData, Step}
use Rattle.stm_session.proofs.Names.{StopsBy, TellsWhatCame, verifies, was_verified, was_written, written_then}
use Rattle.stm_session.specs.declared.fault.Fault.TheVariants as faults
use Rattle.stm_session.specs.declared.outcome.Outcome.TheVariants as outcome
use Rattle.stm_session.specs.Meaning.{writes}
use Rattle.stm_session.specs.RunOrder.{none as none_done, more}
use Rattle.stm_session.proofs.Arrivals.{change_stops}
use Rattle.stm_session.proofs.CutShort.{halts, stop_after, stop_as}
use Rattle.stm_session.proofs.KeptParts.{part_fits, verified_only}
use Rattle.stm_session.proofs.Orders.{does_then}
use Rattle.stm_session.proofs.Reaching.{at_fault}
use Rattle.stm_session.proofs.RunEnds.{run_all, run_refused, run_stopped}
use Rattle.stm_session.proofs.Runs.{HasRun, made_so_far, run_next, run_nothing}
use Rattle.stm_session.proofs.SentChanges.{change_puts}
use Rattle.stm_session.proofs.SentParts.{part_after, part_fails, part_fails_after}
use Rattle.stm_session.proofs.verified_write.write_then_verify.Given as given
use Rattle.stm_session.proofs.verified_write.write_then_verify.Goals as goal
use Rattle.stm_session.proofs.verified_write.write_then_verify.Goals.{In_ok-segment}

-- What the exits behind the write share.

-- what it put
puts_written : (g : given.Over) (c : goal.In_ok-segment g) → GoesOn (IsPart (Some c.args.chip.now) true most_of_command) (g.R.Rig.view c.args.rig.now).calls (g.R.Rig.view c.write_image.new.rig).calls
puts_written g c =
    let V = g.R.Rig.view in
    let chip = c.args.chip.now in
    let l = c.args.journal.now in
    let l2 = c.write_image.new.journal in
    let image = writes c.args.image.now in
    let Told : Outcome → List Step → Type 0 = λ said. TellsWhatCame chip image (outcome_data said) in
    let done = c.in_ok-segment.ensures.order in
    change_puts c.laying_by_parts.ensures.length chip c.keeps_limits.ensures.chip image Told l l2 (V c.args.rig.now) (V c.write_image.new.rig) (Ok c.in_ok-segment.field-0)
    (done.0, done.1.0, done.2) tt

-- its steps are those of the first command
done_written : (g : given.Over) (c : goal.In_ok-segment g) → AreDoneInOrder c.args.chip.now (writes c.args.image.now ∷ []) (outcome_data c.in_ok-segment.field-0 ∷ []) c.args.journal.now.state c.write_image.new.journal.state c.in_ok-segment.ensures.order.0
done_written g c =
    let s = c.args.journal.now.state in
    let done = c.in_ok-segment.ensures.order in
    more [] (writes c.args.image.now) [] (outcome_data c.in_ok-segment.field-0) s s c.write_image.new.journal.state [] done.0 (none_done s) done.1.0 c.in_ok-segment.ensures.depth

-- on a device that follows the model
has_written : (g : given.Over) (c : goal.In_ok-segment g) (flashes : List (List ℕ)) → IsSteady flashes c.args.journal.now (g.R.Rig.view c.args.rig.now) → (g.R.Rig.view c.args.rig.now).device.chip ≡ c.args.chip.now
    → HasRun (writes c.args.image.now ∷ []) flashes c.write_image.new.journal (g.R.Rig.view c.args.rig.now) (g.R.Rig.view c.write_image.new.rig) (outcome_data c.in_ok-segment.field-0 ∷ [])
has_written g c flashes steady chip =
    let V = g.R.Rig.view in
    let a = V c.args.rig.now in
    let l = c.args.journal.now in
    let laws = c.step_laws.ensures in
    let model = g.met.R.Rig.model c.args.rig.now steady.honest in
    run_next laws [] flashes l l a a [] model steady (run_nothing laws flashes l a model steady) (writes c.args.image.now) c.write_image.new.journal (V c.write_image.new.rig) c.in_ok-segment.field-0 outcome_data
    (c.in_ok-segment.ensures.honest flashes steady chip)

-- The exits.

pub returns-in_err-segment : goal.returns-in_err-segment
returns-in_err-segment g c =
    let V = g.R.Rig.view in
    let a = V c.args.rig.now in
    let b = V c.write_image.new.rig in
    let chip = c.args.chip.now in
    let l = c.args.journal.now in
    let image = c.args.image.now in
    let w = writes image in
    let v = verifies image in
    let e = c.in_err-segment.field-0.0 in
    let is = c.from_residual.ensures.1 in
    let Told : Outcome → List Step → Type 0 = λ said. TellsWhatCame chip w (outcome_data said) in
    let put = change_puts c.laying_by_parts.ensures.length chip c.keeps_limits.ensures.chip w Told l c.write_image.new.journal a b (Err e) tt c.in_err-segment.ensures.stops in
    let All : Fault → List Step → Type 0 = λ x. AreBegun x chip (written_then image image) l.state in
    let P : Fault → Type 0 = λ x. StopsBy (All x) (cause_of x) l.is_torn a b in
    let told = change_stops {T = Outcome} chip w l.state l.is_torn a b (Err e) refl c.in_err-segment.ensures.stops in (
      image,
      record {
        among = λ p held. held;
        counts = search rules;
        does = record {
          puts = part_fails (Some chip) most_of_command (2 * most_of_command) a.calls b.calls e c.from_residual.result (omega arith) is put;
          kinds = search rules;
          order = search rules;
          stops = at_fault P e c.from_residual.result is (stop_as (IsBegunTelling chip w l.state e) (All e) (cause_of e) l.is_torn a b
              (λ ys begun. inr (record { earlier = []; command = w; later = v ∷ []; split = refl; outcomes = []; mid = l.state; before = []; are_done = none_done l.state; own = ys; is_begun = begun.0; tells = begun.1; is = refl })) told);
          none = λ none. cc;
          cause = search rules;
          named = search rules;
          honest = (λ flashes steady chip_is.
              let laws = c.step_laws.ensures in
              let model = g.met.R.Rig.model c.args.rig.now steady.honest in
              let does = c.in_err-segment.ensures.honest flashes steady chip_is in
              run_stopped laws [] flashes l l a a [] model steady (run_nothing laws flashes l a model steady) w (v ∷ []) c.write_image.new.journal b e outcome_data c.from_residual.result _
              c.requires.finished (g.met.R.Rig.model c.write_image.new.rig does.honest) does is);
        };
      },
    )

pub returns-in_err-part : goal.returns-in_err-part
returns-in_err-part g c =
    let V = g.R.Rig.view in
    let a = V c.args.rig.now in
    let b = V c.write_image.new.rig in
    let chip = c.args.chip.now in
    let l = c.args.journal.now in
    let l2 = c.write_image.new.journal in
    let image = c.args.image.now in
    let v = verifies image in
    let here = (goal.at.returns-in_err-part g c).In_ok-segment in
    let is = c.from_residual-in_err-part.ensures.1 in
    let done = c.in_ok-segment.ensures.order in
    let Q : List Step → Type 0 = AreBegun faults.Memory chip (written_then image image) l.state in
    let P : Fault → Type 0 = λ x. StopsBy (AreBegun x chip (written_then image image) l.state) (cause_of x) l.is_torn a b in
    let begun : Q done.0 = inr (record { earlier = writes image ∷ []; command = v; later = []; split = refl; outcomes = outcome_data c.in_ok-segment.field-0 ∷ []; mid = l2.state; before = done.0; are_done = done_written g here; own = []; is_begun = tt; tells = tt; is = sym (append-nil done.0) }) in (
      image,
      record {
        among = λ p held. held;
        counts = search rules;
        does = record {
          puts = part_fails (Some chip) most_of_command (2 * most_of_command) a.calls b.calls faults.Memory c.from_residual-in_err-part.result (omega arith) is (puts_written g here);
          kinds = search rules;
          order = search rules;
          stops = at_fault P faults.Memory c.from_residual-in_err-part.result is (halts Q of_memory l.is_torn done.0 a b begun refl done.2.acts);
          none = λ none. cc;
          cause = search rules;
          named = search rules;
          honest = (λ flashes steady chip_is.
              let first = has_written g here flashes steady chip_is in
              run_refused c.step_laws.ensures (writes image ∷ []) flashes l l2 a b (outcome_data c.in_ok-segment.field-0 ∷ []) (g.met.R.Rig.model c.write_image.new.rig first.steady.honest) steady first (v ∷ []) _ c.from_residual-in_err-part.result is);
        };
      },
    )

pub verify_image-requires : goal.verify_image-requires
verify_image-requires g c = part_fits c.args.chip.now c.args.image.now c.in_ok-part.part c.in_ok-part.ensures.among c.requires.fits

pub returns-in_err-verify_image : goal.returns-in_err-verify_image
returns-in_err-verify_image g c =
    let V = g.R.Rig.view in
    let a = V c.args.rig.now in
    let b = V c.write_image.new.rig in
    let d = V c.verify_image.new.rig in
    let chip = c.args.chip.now in
    let l = c.args.journal.now in
    let l2 = c.write_image.new.journal in
    let image = c.args.image.now in
    let part = c.in_ok-part.part in
    let w = writes image in
    let v = verifies part in
    let here = (goal.at.returns-in_err-verify_image g c).In_ok-segment in
    let e = c.in_err-verify_image.field-0.0 in
    let is = c.from_residual-in_err-verify_image.ensures.1 in
    let done = c.in_ok-segment.ensures.order in
    let All : Fault → List Step → Type 0 = λ x. AreBegun x chip (written_then image part) l.state in
    let P : Fault → Type 0 = λ x. StopsBy (All x) (cause_of x) l.is_torn a d in (
      part,
      record {
        among = c.in_ok-part.ensures.among;
        counts = search rules;
        does = record {
          puts = part_fails_after (Some chip) most_of_command most_of_command (2 * most_of_command) a.calls b.calls d.calls e c.from_residual-in_err-verify_image.result (omega arith) is (puts_written g here) c.in_err-verify_image.ensures.puts;
          kinds = search rules;
          order = search rules;
          stops = at_fault P e c.from_residual-in_err-verify_image.result is (stop_after (IsBegunTelling chip v l2.state e) (All e) (cause_of e) done.0 l l2 a b d done.2 (c.in_err-verify_image.ensures.stops l2)
              (λ ys begun. inr (record { earlier = w ∷ []; command = v; later = []; split = refl; outcomes = outcome_data c.in_ok-segment.field-0 ∷ []; mid = l2.state; before = done.0; are_done = done_written g here; own = ys; is_begun = begun.0; tells = begun.1; is = refl })));
          none = λ none. cc;
          cause = search rules;
          named = search rules;
          honest = (λ flashes steady chip_is.
              let laws = c.step_laws.ensures in
              let said = outcome_data c.in_ok-segment.field-0 ∷ [] in
              let first = has_written g here flashes steady chip_is in
              let model = g.met.R.Rig.model c.write_image.new.rig first.steady.honest in
              let still = (made_so_far laws (w ∷ []) flashes l l2 a b said model steady first).chip ∙ chip_is in
              let does = c.in_err-verify_image.ensures.honest _ l2 first.steady still in
              run_stopped laws (w ∷ []) flashes l l2 a b said model steady first v [] l2 d e outcome_data c.from_residual-in_err-verify_image.result _
              c.in_ok-segment.ensures.finished (g.met.R.Rig.model c.verify_image.new.rig does.honest) does is);
        };
      },
    )

pub returns : goal.returns
returns g c =
    let V = g.R.Rig.view in
    let a = V c.args.rig.now in
    let b = V c.write_image.new.rig in
    let d = V c.verify_image.new.rig in
    let chip = c.args.chip.now in
    let l = c.args.journal.now in
    let l2 = c.write_image.new.journal in
    let image = c.args.image.now in
    let part = c.in_ok-part.part in
    let w = writes image in
    let v = verifies part in
    let here = (goal.at.returns g c).In_ok-segment in
    let done = c.in_ok-segment.ensures.order in
    let read = c.in_ok-verify_image.ensures.order l2 in
    let outs = was_written c.in-Written.segment c.in-Written.pages ∷ (was_verified ∷ []) in
    let seen : IsWrittenAndSeen chip image part outs l.state l2.state (done.0 ++ read.0) =
    record { limits = c.keeps_limits.ensures.chip; image_is = c.rises.ensures; part_is = c.len-again.ensures.image; fits = c.requires.fits; said = was_written c.in-Written.segment c.in-Written.pages; written = done.0; is_written = done.1.0; keeps = done.1.1; deeper = c.in_ok-segment.ensures.depth; has_kept = c.in_ok-part.ensures.kept; read = read.0; is_read = read.1; told = refl; is = refl } in (
      part,
      record {
        among = c.in_ok-part.ensures.among;
        counts = c.len-again.ensures.count;
        does = record {
          puts = part_after (Some chip) true most_of_command most_of_command (2 * most_of_command) a.calls b.calls d.calls (omega arith) (puts_written g here) c.in_ok-verify_image.ensures.puts;
          kinds = (tt, (tt, tt));
          order = (done.0 ++ read.0, seen, does_then done.0 read.0 l l2 l2 a b d done.2 read.2);
          stops = search rules;
          none = search rules;
          cause = search rules;
          named = search rules;
          honest = (λ flashes steady chip_is.
              let laws = c.step_laws.ensures in
              let x = c.in_ok-segment.field-0 in
              let y = c.in_ok-verify_image.field-0 in
              let said = outcome_data x ∷ [] in
              let first = has_written g here flashes steady chip_is in
              let model = g.met.R.Rig.model c.write_image.new.rig first.steady.honest in
              let still = (made_so_far laws (w ∷ []) flashes l l2 a b said model steady first).chip ∙ chip_is in
              let does = c.in_ok-verify_image.ensures.honest _ l2 first.steady still in
              let second = run_next laws (w ∷ []) flashes l l2 a b said model steady first v l2 d y outcome_data does in
              let told : outcome_data x ∷ (outcome_data y ∷ []) ≡ outs = ap₂ (λ (p q : OutcomeData). p ∷ (q ∷ [])) (ap outcome_data c.in-Written.is) (verified_only part y c.in_ok-verify_image.ensures.kind) in
              run_all laws (w ∷ (v ∷ [])) flashes l l2 a d (outcome_data x ∷ (outcome_data y ∷ [])) (g.met.R.Rig.model c.verify_image.new.rig second.steady.honest) steady second _ _ c.in_ok-segment.ensures.finished told);
        };
      },
    )
