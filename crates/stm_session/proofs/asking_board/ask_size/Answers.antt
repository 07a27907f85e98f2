use Rattle.std.proofs.Common.{rules, ◌∙◌, ℕ, Option, ap, sym}
use Rattle.stm_wire.proofs.Names.{flash_size}
use Rattle.stm_session.proofs.Names.{size_at}
use Rattle.stm_session.proofs.Asking.{asks_ok, nothing_asked}
use Rattle.stm_session.proofs.AskingBoards.{size_asked, size_unasked}
use Rattle.stm_session.proofs.ToldBoards.{size_read}
use Rattle.stm_session.proofs.asking_board.ask_size.Goals as goal

pub returns-in_default : goal.returns-in_default
returns-in_default g c =
    record {
      unwritten = search rules;
      cause = search rules;
      few = search rules;
      order = search rules;
      stops = search rules;
      sent = search rules;
      kept = search rules;
      honest = (λ h settled.
          let V = g.R.Rig.view in
          nothing_asked c.sending_is_harmless.ensures.asking (V c.args.rig.now) _ _ h (g.met.R.Rig.model c.args.rig.now h) settled
          (λ known. ap (λ (p : Option ℕ). size_at p (flash_size (V c.args.rig.now).device.chip)) (sym c.in_default.is ∙ known)));
    }

pub returns-in_err-is_told : goal.returns-in_err-is_told
returns-in_err-is_told g c =
    record {
      unwritten = search rules;
      cause = search rules;
      few = search rules;
      order = search rules;
      stops = (λ torn.
          let V = g.R.Rig.view in
          size_unasked c.args.place c.in-Some.address c.in-Some.is torn (V c.args.rig.now) (V c.ask_place.new.rig) _ c.from_residual.result c.from_residual.ensures.1 (c.in_err-is_told.ensures.stops torn));
      sent = search rules;
      kept = search rules;
      honest = search rules;
    }

pub returns : goal.returns
returns g c =
    record {
      unwritten = search rules;
      cause = search rules;
      few = search rules;
      order = (λ torn.
          let V = g.R.Rig.view in
          size_asked c.args.place c.in-Some.address c.in-Some.is torn (V c.args.rig.now) (V c.ask_place.new.rig) _ c.size_in.result c.size_in.ensures (c.in_ok-is_told.ensures.order torn));
      stops = search rules;
      sent = search rules;
      kept = search rules;
      honest = (λ h settled.
          let V = g.R.Rig.view in
          let is = (g.met.R.Rig.model c.args.rig.now h).device in
          asks_ok (V c.args.rig.now) (V c.ask_place.new.rig) _ c.size_in.result (c.in_ok-is_told.ensures.honest h settled)
          (λ told known. c.size_in.ensures ∙ size_read (V c.args.rig.now).device is c.in-Some.address (sym known ∙ c.in-Some.is) _ c.in_ok-is_told.is_told told));
    }
