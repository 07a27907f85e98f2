use Rattle.std.proofs.Common.{◌∙◌, Option, ap, rules, sym}
use Rattle.stm_wire.specs.declared.places.UniquePlace.{UniquePlace}
use Rattle.stm_session.proofs.Names.{unique_at}
use Rattle.stm_session.proofs.Asking.{asks_ok, nothing_asked}
use Rattle.stm_session.proofs.AskingBoards.{unique_asked, unique_unasked}
use Rattle.stm_session.proofs.ToldBoards.{unique_read}
use Rattle.stm_session.proofs.asking_board.ask_unique.Goals as goal

pub returns-in_default : goal.returns-in_default
returns-in_default g c =
    record {
      unwritten = search rules;
      cause = search rules;
      few = search rules;
      order = search rules;
      stops = search rules;
      sent = search rules;
      kept = search rules;
      honest = (λ h settled.
          let V = g.R.Rig.view in
          nothing_asked c.sending_is_harmless.ensures.asking (V c.args.rig.now) _ _ h (g.met.R.Rig.model c.args.rig.now h) settled
          (λ known. c.none.ensures ∙ ap (λ (p : Option UniquePlace). unique_at p (V c.args.rig.now).device.chip.unique) (sym c.in_default.is ∙ known)));
    }

pub returns-in_err-is_told : goal.returns-in_err-is_told
returns-in_err-is_told g c =
    record {
      unwritten = search rules;
      cause = search rules;
      few = search rules;
      order = search rules;
      stops = (λ torn.
          let V = g.R.Rig.view in
          unique_unasked c.args.place c.in-Some.place c.in-Some.is torn (V c.args.rig.now) (V c.ask_place.new.rig) _ (search rules) _ c.from_residual.result c.from_residual.ensures.1 (c.in_err-is_told.ensures.stops torn));
      sent = search rules;
      kept = search rules;
      honest = search rules;
    }

pub returns : goal.returns
returns g c =
    record {
      unwritten = search rules;
      cause = search rules;
      few = search rules;
      order = (λ torn.
          let V = g.R.Rig.view in
          unique_asked c.args.place c.in-Some.place c.in-Some.is torn (V c.args.rig.now) (V c.ask_place.new.rig) _ (search rules) _ c.unique_in.result c.unique_in.ensures (c.in_ok-is_told.ensures.order torn));
      stops = search rules;
      sent = search rules;
      kept = search rules;
      honest = (λ h settled.
          let V = g.R.Rig.view in
          let is = (g.met.R.Rig.model c.args.rig.now h).device in
          asks_ok (V c.args.rig.now) (V c.ask_place.new.rig) _ c.unique_in.result (c.in_ok-is_told.ensures.honest h settled)
          (λ told known. c.unique_in.ensures ∙ unique_read (V c.args.rig.now).device is c.in-Some.place (sym known ∙ c.in-Some.is) _ _ c.in_ok-is_told.is_told (search rules) told));
    }
