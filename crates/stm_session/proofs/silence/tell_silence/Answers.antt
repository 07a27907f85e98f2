use Rattle.std.proofs.Common.{◌∷◌, [], List, Option, None, Some, Ok, inr, refl}
use Rattle.stm_wire.proofs.Names.{Append, Call, GoesOn, RecordsAppend}
use Rattle.stm_journal.proofs.Names.{AppendsInPart}
use Rattle.stm_session.proofs.Names.{silent_line}
use Rattle.stm_session.proofs.Greetings.{reads_then}
use Rattle.stm_session.proofs.silence.tell_silence.Goals as goal

-- the whole line is a part of it
appended : {T : Type 0} (x : T) (a b : Option (List Call)) → RecordsAppend silent_line (Ok x) a b → GoesOn (AppendsInPart silent_line) a b
appended x None b is = is
appended x (Some past) b is = (Append silent_line ∷ [], is, inr (8, refl))

pub returns-in-Ok-clause-calls : goal.returns-in-Ok-clause-calls
returns-in-Ok-clause-calls g c =
    let V = g.R.Rig.view in
    let a = (V c.args.rig.now).calls in
    let b = (V c.load.new.rig).calls in
    let f = (V c.append.new.self).calls in
    reads_then (AppendsInPart silent_line) a b f c.in_ok-journal.ensures.calls (appended {T = Unit {0}} tt b f c.in-Ok.ensures.recorded)
