use Rattle.stm_work.proofs.watching.ask_codes.Goals as goal

pub returns : goal.returns
returns g c h settled =
    let told = (c.in_ok-commands.ensures.honest h settled).done in
    record {
      honest = (c.in_ok-commands.ensures.held.honestly h).honest;
      device = told.2;
      model = (g.met.L.Rig.model c.args.rig.now h).device;
      version = told.0;
      codes = told.1;
    }
