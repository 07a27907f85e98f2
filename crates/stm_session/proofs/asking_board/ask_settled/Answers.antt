use Rattle.std.proofs.Common.{rules, None, false, arith, refl}
use Rattle.stm_session.proofs.Asking.{asks_failed, asks_ok, asks_then, settled_still}
use Rattle.stm_session.proofs.AskingBoards.{asked_few, asking_stops, board_answered, board_is, few_more, few_then, part_few, size_stops, unique_stops}
use Rattle.stm_session.proofs.AskingStops.{cut_puts}
use Rattle.stm_session.proofs.Unwritings.{then_appends_nothing}
use Rattle.stm_session.proofs.asking_board.ask_settled.Goals as goal

pub returns-in_err-told : goal.returns-in_err-told
returns-in_err-told g c =
    record {
      unwritten = search rules;
      cause = search rules;
      few = (
          let V = g.R.Rig.view in
          let a = (V c.args.rig.now).calls in
          let b = (V c.ask.new.rig).calls in
          few_more 268 326 a b (omega arith)
          (part_few None _ 268 a b
          (cut_puts _ (V c.args.rig.now) (V c.ask.new.rig) (c.in_err-told.ensures.stops false))));
      order = search rules;
      stops = (λ torn.
          let V = g.R.Rig.view in
          asking_stops c.args.table.now torn (V c.args.rig.now) (V c.ask.new.rig) _ c.from_residual.result c.from_residual.ensures.1 (c.in_err-told.ensures.stops torn));
      sent = search rules;
      kept = search rules;
      honest = search rules;
    }

pub returns-in_err-unique : goal.returns-in_err-unique
returns-in_err-unique g c =
    record {
      unwritten = (
          let V = g.R.Rig.view in
          then_appends_nothing (V c.args.rig.now).calls (V c.ask.new.rig).calls (V c.ask_unique.new.rig).calls c.in_ok-told.ensures.unwritten c.in_err-unique.ensures.unwritten);
      cause = search rules;
      few = (
          let V = g.R.Rig.view in
          let a = (V c.args.rig.now).calls in
          let b = (V c.ask.new.rig).calls in
          let d = (V c.ask_unique.new.rig).calls in
          few_more 312 326 a d (omega arith) (few_then 268 44 a b d (asked_few c.in_ok-told.told.id (V c.args.rig.now) (V c.ask.new.rig) (c.in_ok-told.ensures.order false)) c.in_err-unique.ensures.few));
      order = search rules;
      stops = (λ torn.
          let V = g.R.Rig.view in
          let got = c.in_ok-told.ensures.order torn in
          unique_stops c.args.table.now torn got.0 got.1 c.in_ok-told.told.id c.places_in-places.result c.places_in-places.ensures.places (V c.args.rig.now) (V c.ask.new.rig) got.2
          (V c.ask_unique.new.rig) _ c.from_residual-in_err-unique.result c.from_residual-in_err-unique.ensures.1 (c.in_err-unique.ensures.stops torn));
      sent = search rules;
      kept = search rules;
      honest = (λ h settled.
          let V = g.R.Rig.view in
          let a = V c.args.rig.now in
          let b = V c.ask.new.rig in
          let d = V c.ask_unique.new.rig in
          let first = c.in_ok-told.ensures.honest h settled in
          let second = c.in_err-unique.ensures.honest first.honest (settled_still a b _ settled first) in
          asks_failed a d _ c.from_residual-in_err-unique.result
          (asks_then a b d _ _ first second (λ y p. p)) c.from_residual-in_err-unique.ensures.1);
    }

pub returns-in_err-size : goal.returns-in_err-size
returns-in_err-size g c =
    record {
      unwritten = (
          let V = g.R.Rig.view in
          let a = (V c.args.rig.now).calls in
          let d = (V c.ask_unique.new.rig).calls in
          then_appends_nothing a d (V c.ask_size.new.rig).calls (then_appends_nothing a (V c.ask.new.rig).calls d c.in_ok-told.ensures.unwritten c.in_ok-unique.ensures.unwritten) c.in_err-size.ensures.unwritten);
      cause = search rules;
      few = (
          let V = g.R.Rig.view in
          let a = (V c.args.rig.now).calls in
          let b = (V c.ask.new.rig).calls in
          let d = (V c.ask_unique.new.rig).calls in
          few_then 312 14 a d (V c.ask_size.new.rig).calls (few_then 268 44 a b d (asked_few c.in_ok-told.told.id (V c.args.rig.now) (V c.ask.new.rig) (c.in_ok-told.ensures.order false)) c.in_ok-unique.ensures.few) c.in_err-size.ensures.few);
      order = search rules;
      stops = (λ torn.
          let V = g.R.Rig.view in
          let got = c.in_ok-told.ensures.order torn in
          let one = c.in_ok-unique.ensures.order torn in
          size_stops c.args.table.now torn got.0 got.1 c.in_ok-told.told.id c.places_in-places.result c.places_in-places.ensures.places (V c.args.rig.now) (V c.ask.new.rig) got.2
          (V c.ask_unique.new.rig) c.in_ok-unique.unique one.0 one.1 one.2
          (V c.ask_size.new.rig) _ c.from_residual-in_err-size.result c.from_residual-in_err-size.ensures.1 (c.in_err-size.ensures.stops torn));
      sent = search rules;
      kept = search rules;
      honest = (λ h settled.
          let V = g.R.Rig.view in
          let a = V c.args.rig.now in
          let b = V c.ask.new.rig in
          let d = V c.ask_unique.new.rig in
          let e = V c.ask_size.new.rig in
          let first = c.in_ok-told.ensures.honest h settled in
          let second = c.in_ok-unique.ensures.honest first.honest (settled_still a b _ settled first) in
          let two = asks_then a b d _ _ first second (λ y p. p) in
          let third = c.in_err-size.ensures.honest second.honest (settled_still a d _ settled two) in
          asks_failed a e _ c.from_residual-in_err-size.result
          (asks_then a d e _ _ two third (λ y p. p)) c.from_residual-in_err-size.ensures.1);
    }

pub returns : goal.returns
returns g c =
    record {
      unwritten = (
          let V = g.R.Rig.view in
          let a = (V c.args.rig.now).calls in
          let d = (V c.ask_unique.new.rig).calls in
          then_appends_nothing a d (V c.ask_size.new.rig).calls (then_appends_nothing a (V c.ask.new.rig).calls d c.in_ok-told.ensures.unwritten c.in_ok-unique.ensures.unwritten) c.in_ok-size.ensures.unwritten);
      cause = search rules;
      few = (
          let V = g.R.Rig.view in
          let a = (V c.args.rig.now).calls in
          let b = (V c.ask.new.rig).calls in
          let d = (V c.ask_unique.new.rig).calls in
          few_then 312 14 a d (V c.ask_size.new.rig).calls (few_then 268 44 a b d (asked_few c.in_ok-told.told.id (V c.args.rig.now) (V c.ask.new.rig) (c.in_ok-told.ensures.order false)) c.in_ok-unique.ensures.few) c.in_ok-size.ensures.few);
      order = (λ torn.
          let V = g.R.Rig.view in
          let got = c.in_ok-told.ensures.order torn in
          let one = c.in_ok-unique.ensures.order torn in
          let two = c.in_ok-size.ensures.order torn in
          board_answered c.args.table.now torn got.0 got.1 c.in_ok-told.told.id c.places_in-places.result c.places_in-places.ensures.places (V c.args.rig.now) (V c.ask.new.rig) got.2
          (V c.ask_unique.new.rig) c.in_ok-unique.unique one.0 one.1 one.2
          (V c.ask_size.new.rig) c.in_ok-size.size _ two.0 refl refl refl two.1 two.2);
      stops = search rules;
      sent = search rules;
      kept = search rules;
      honest = (λ h settled.
          let V = g.R.Rig.view in
          let a = V c.args.rig.now in
          let b = V c.ask.new.rig in
          let d = V c.ask_unique.new.rig in
          let e = V c.ask_size.new.rig in
          let first = c.in_ok-told.ensures.honest h settled in
          let second = c.in_ok-unique.ensures.honest first.honest (settled_still a b _ settled first) in
          let two = asks_then a b d _ _ first second (λ y p. p) in
          let third = c.in_ok-size.ensures.honest second.honest (settled_still a d _ settled two) in
          asks_ok a e _ _ (asks_then a d e _ _ two third (λ y p. p))
          (λ sized. board_is c.args.table.now a.device b.device d.device c.in_ok-told.told.id c.in_ok-unique.unique c.in_ok-size.size
          c.places_in-places.result c.places_in-places.ensures.places first.same two.same first.done.id second.done sized));
    }
