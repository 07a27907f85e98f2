use Rattle.std.proofs.Common.{◌≡◌, ◌∷◌, ◌+◌, [], ℕ, Bool, List, Option, Some, length, rules, refl}
use Rattle.stm_wire.proofs.Names.{GoesOn, IsPart, read_turns}
use Rattle.stm_session.proofs.Names.{Begin, IsAsked, Sends, Step}
use Rattle.stm_session.proofs.AskingBoards.{few_broken, place_asked, place_failed, read_broken_length, read_few, read_ordered, read_unwritten}
use Rattle.stm_session.proofs.Confirmings.{place_broken, place_held}
use Rattle.stm_session.proofs.CutShort.{begin_all, command_stops}
use Rattle.stm_session.proofs.Sending.{with_fault}
use Rattle.stm_session.proofs.Unwritings.{broken_appends_nothing}
use Rattle.stm_session.proofs.asking_board.ask_place.Goals as goal

pub returns-in_err-is_told-clause-unwritten : goal.returns-in_err-is_told-clause-unwritten
returns-in_err-is_told-clause-unwritten g c =
    let V = g.R.Rig.view in
    let broken = c.in_err-is_told.ensures.broken in
    broken_appends_nothing _ (read_turns c.args.address broken.0) (V c.args.rig.now).calls (V c.read_unless_refused.new.rig).calls broken.2.recorded

pub returns-clause-unwritten : goal.returns-clause-unwritten
returns-clause-unwritten g c =
    let V = g.R.Rig.view in
    read_unwritten c.args.address (length c.args.buf.now) c.read_unless_refused.new.buf (V c.args.rig.now) (V c.read_unless_refused.new.rig) c.in_ok-is_told.is_told c.in_ok-is_told.ensures.held

pub returns-in_err-is_told-clause-few : goal.returns-in_err-is_told-clause-few
returns-in_err-is_told-clause-few g c =
    let V = g.R.Rig.view in
    let n = length c.args.buf.now in
    let broken = c.in_err-is_told.ensures.broken in
    few_broken (12 + n) _ (read_turns c.args.address broken.0) (V c.args.rig.now).calls (V c.read_unless_refused.new.rig).calls (read_broken_length c.args.address n broken.0 broken.1) broken.2.recorded

pub returns-clause-few : goal.returns-clause-few
returns-clause-few g c =
    let V = g.R.Rig.view in
    let n = length c.args.buf.now in
    let same : length c.read_unless_refused.new.buf ≡ n = search rules in
    read_few c.args.address n c.read_unless_refused.new.buf (V c.args.rig.now) (V c.read_unless_refused.new.rig) c.in_ok-is_told.is_told same c.in_ok-is_told.ensures.held

pub returns-in_err-is_told-clause-puts : goal.returns-in_err-is_told-clause-puts
returns-in_err-is_told-clause-puts g c chip place known at size =
    let V = g.R.Rig.view in
    let a = (V c.args.rig.now).calls in
    let b = (V c.read_unless_refused.new.rig).calls in
    let n = length c.args.buf.now in
    let broken = c.in_err-is_told.ensures.broken in
    let P : Bool → Type 0 = λ w. GoesOn (IsPart (Some chip) w (12 + n)) a b in
    with_fault P _ c.from_residual.result c.from_residual.ensures.1 (place_broken chip place known c.args.address n at size broken.0 _ a b broken.1 broken.2.recorded)

pub returns-clause-puts : goal.returns-clause-puts
returns-clause-puts g c chip place known at size =
    let V = g.R.Rig.view in
    let n = length c.args.buf.now in
    let same : length c.read_unless_refused.new.buf ≡ n = search rules in
    place_held chip place known c.args.address n at size c.read_unless_refused.new.buf (V c.args.rig.now) (V c.read_unless_refused.new.rig) c.in_ok-is_told.is_told same c.in_ok-is_told.ensures.held

pub returns-clause-order : goal.returns-clause-order
returns-clause-order g c torn =
    let V = g.R.Rig.view in
    let n = length c.args.buf.now in
    let same : length c.read_unless_refused.new.buf ≡ n = search rules in
    read_ordered c.args.address n c.read_unless_refused.new.buf (V c.args.rig.now) (V c.read_unless_refused.new.rig) c.in_ok-is_told.is_told torn same c.in_ok-is_told.ensures.held

pub returns-in_err-is_told-clause-stops : goal.returns-in_err-is_told-clause-stops
returns-in_err-is_told-clause-stops g c torn =
    let V = g.R.Rig.view in
    let n = length c.args.buf.now in
    let broken = c.in_err-is_told.ensures.broken in
    let turns = read_turns c.args.address broken.0 in
    let P : List Step → Type 0 = λ steps. (came : Option (List ℕ)) × IsAsked c.args.address n came steps in
    let read : P (Sends turns ∷ []) = (Some broken.0, (broken.1, refl)) in
    command_stops (Begin P) torn _ turns (V c.args.rig.now) (V c.read_unless_refused.new.rig) c.from_residual.result c.from_residual.ensures.1 (begin_all P (Sends turns ∷ []) read) broken.2.recorded

pub returns-in_err-is_told-clause-honest : goal.returns-in_err-is_told-clause-honest
returns-in_err-is_told-clause-honest g c h settled =
    let V = g.R.Rig.view in
    let is = (g.met.R.Rig.model c.args.rig.now h).device in
    place_failed c.refusable_reads_are_harmless.ensures (V c.args.rig.now) (V c.read_unless_refused.new.rig) c.args.address (length c.args.buf.now) c.requires.some c.requires.limit is settled
    _ _ c.from_residual.result (c.in_err-is_told.ensures.honest h settled) c.from_residual.ensures.1

pub returns-clause-honest : goal.returns-clause-honest
returns-clause-honest g c h settled =
    let V = g.R.Rig.view in
    let is = (g.met.R.Rig.model c.args.rig.now h).device in
    place_asked c.refusable_reads_are_harmless.ensures (V c.args.rig.now) (V c.read_unless_refused.new.rig) c.args.address (length c.args.buf.now) c.requires.some c.requires.limit is settled
    c.read_unless_refused.new.buf _ _ (c.in_ok-is_told.ensures.honest h settled) (c.in_ok-is_told.ensures.honest h settled).told
