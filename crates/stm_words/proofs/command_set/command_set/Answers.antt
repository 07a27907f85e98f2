use Rattle.std.proofs.lemmas.Result.{IfOk-weaker}
use Rattle.clap.specs.Words.{App, with_subcommand}
use Rattle.stm_words.specs.CommandSet.{Makes, bare_app, command_set, crc_app, erase_app, go_app, info_app, keep_app, log_app, protect_app, read_app, sim_app, undo_app, verify_app, write_app}
use Rattle.stm_words.proofs.Subcommands.{adds_sub, bare}
use Rattle.stm_words.proofs.command_set.command_set.Goals as goal

pub returns : goal.returns
unfolding command_set
returns c =
    let e = c.args.environment in
    let p = c.in_ok-protect.ensures in
    let m0 : Makes bare_app c.subcommand_required-bare.result =
    bare c.new.result c.about.result c.version.result c.subcommand_required-bare.result _ _ c.new.ensures.app c.new.ensures.local c.about.ensures c.version.ensures
    c.subcommand_required-bare.ensures in
    let a1 : App = with_subcommand bare_app (info_app e).top in
    let m1 : Makes a1 c.in_ok-c.c = c.in_ok-c.ensures bare_app (info_app e) m0 c.info.ensures in
    let a2 : App = with_subcommand a1 (read_app e).top in
    let m2 : Makes a2 c.in_ok-c-2.c = c.in_ok-c-2.ensures a1 (read_app e) m1 c.read.ensures in
    let a3 : App = with_subcommand a2 (crc_app e).top in
    let m3 : Makes a3 c.in_ok-c-3.c = c.in_ok-c-3.ensures a2 (crc_app e) m2 c.crc.ensures in
    let a4 : App = with_subcommand a3 (write_app e).top in
    let m4 : Makes a4 c.in_ok-c-4.c = c.in_ok-c-4.ensures a3 (write_app e) m3 c.write.ensures in
    let a5 : App = with_subcommand a4 (verify_app e).top in
    let m5 : Makes a5 c.in_ok-c-5.c = c.in_ok-c-5.ensures a4 (verify_app e) m4 c.verify.ensures in
    let a6 : App = with_subcommand a5 (erase_app e).top in
    let m6 : Makes a6 c.in_ok-c-6.c = c.in_ok-c-6.ensures a5 (erase_app e) m5 c.erase.ensures in
    let a7 : App = with_subcommand a6 (undo_app e).top in
    let m7 : Makes a7 c.in_ok-c-7.c = c.in_ok-c-7.ensures a6 (undo_app e) m6 c.undo.ensures in
    let a8 : App = with_subcommand a7 (log_app e).top in
    let m8 : Makes a8 c.in_ok-c-8.c = c.in_ok-c-8.ensures a7 (log_app e) m7 c.log.ensures in
    let a9 : App = with_subcommand a8 (keep_app e).top in
    let m9 : Makes a9 c.in_ok-c-9.c = c.in_ok-c-9.ensures a8 (keep_app e) m8 c.keep.ensures in
    let a10 : App = with_subcommand a9 (go_app e).top in
    let m10 : Makes a10 c.in_ok-c-10.c = c.in_ok-c-10.ensures a9 (go_app e) m9 c.go.ensures in
    let a11 : App = with_subcommand a10 (protect_app e p.0).top in
    let m11 : Makes a11 c.in_ok-c-11.c =
    adds_sub a10 (protect_app e p.0) c.in_ok-c-10.c c.in_ok-protect.field-0 c.in_ok-c-11.c m10 p.1 c.in_ok-c-11.ensures in
    IfOk-weaker c.with-11.result _ _ (λ r made. (p.0, made, p.2)) (c.with-11.ensures a11 (sim_app e) m11 c.sim.ensures)
