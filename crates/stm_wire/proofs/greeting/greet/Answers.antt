use Rattle.std.proofs.Common.{rules, lit≤, ℕ, List, [], ◌∷◌, Bool, Result, Err, ap}
use Rattle.stm_wire.proofs.Names.{Device, Floods, IsGreeting, Never, PutsAll, settling_byte, WireFault}
use Rattle.stm_wire.proofs.Greets.{greeted_quiet, greeting_begin, greeting_drain, greeting_get, greeting_put}
use Rattle.stm_wire.proofs.Keeping.{left_here}
use Rattle.stm_wire.proofs.SettlingFaults.{fails_on, floods_after, never_after}
use Rattle.stm_wire.proofs.Talking.{failed_get, failed_put, failed_then, speaks_fault, speaks_line, speaks_ok, speaks_then, speaks_went, went_get, went_put, went_then}
use Rattle.stm_wire.proofs.greeting.greet.Goals as goal

pub returns-in_err-drain-clause-honest : goal.returns-in_err-drain-clause-honest
returns-in_err-drain-clause-honest g c h intent pages m few =
    let V = g.R.Rig.view in
    let a = V c.args.rig.now in
    let b = V c.drain.new.rig in
    let byte = settling_byte intent in
    let start = a.device in
    let one = greeting_drain intent pages start a a b (g.met.R.Rig.model c.args.rig.now h) (greeting_begin intent pages a (g.met.R.Rig.model c.args.rig.now h) h m few) (λ s. c.drain.ensures.keeps h byte pages start s) in
    let line = c.in_err-drain.ensures.line h few in
    record { keeps = one; fails = search (rules, line) }

pub returns-in_err-put-clause-honest : goal.returns-in_err-put-clause-honest
returns-in_err-put-clause-honest g c h intent pages m few =
    let V = g.R.Rig.view in
    let a = V c.args.rig.now in
    let b = V c.drain.new.rig in
    let byte = settling_byte intent in
    let start = a.device in
    let one = greeting_drain intent pages start a a b (g.met.R.Rig.model c.args.rig.now h) (greeting_begin intent pages a (g.met.R.Rig.model c.args.rig.now h) h m few) (λ s. c.drain.ensures.keeps h byte pages start s) in
    let empty = c.in_ok-drain.ensures.empty h in
    let d = V c.put.new.self in
    let two = greeting_put intent pages start c.put.result a b d (g.met.R.Rig.model c.drain.new.rig one.honest) one (greeted_quiet intent pages start b.device m empty) (ap (λ (x : Device). x.owed) empty) (c.put.ensures.honest one.honest) in
    record { keeps = two; fails = search rules }

pub returns-in_err-get-clause-honest : goal.returns-in_err-get-clause-honest
returns-in_err-get-clause-honest g c h intent pages m few =
    let V = g.R.Rig.view in
    let a = V c.args.rig.now in
    let b = V c.drain.new.rig in
    let byte = settling_byte intent in
    let start = a.device in
    let one = greeting_drain intent pages start a a b (g.met.R.Rig.model c.args.rig.now h) (greeting_begin intent pages a (g.met.R.Rig.model c.args.rig.now h) h m few) (λ s. c.drain.ensures.keeps h byte pages start s) in
    let empty = c.in_ok-drain.ensures.empty h in
    let d = V c.put.new.self in
    let two = greeting_put intent pages start c.put.result a b d (g.met.R.Rig.model c.drain.new.rig one.honest) one (greeted_quiet intent pages start b.device m empty) (ap (λ (x : Device). x.owed) empty) (c.put.ensures.honest one.honest) in
    let e = V c.get.new.self in
    let three = greeting_get intent pages start c.get.result a d e (g.met.R.Rig.model c.put.new.self two.honest) two (c.get.ensures.honest two.honest) in
    record { keeps = three; fails = search rules }

pub returns-in_err-drain-2-clause-honest : goal.returns-in_err-drain-2-clause-honest
returns-in_err-drain-2-clause-honest g c h intent pages m few =
    let V = g.R.Rig.view in
    let a = V c.args.rig.now in
    let b = V c.drain.new.rig in
    let byte = settling_byte intent in
    let start = a.device in
    let one = greeting_drain intent pages start a a b (g.met.R.Rig.model c.args.rig.now h) (greeting_begin intent pages a (g.met.R.Rig.model c.args.rig.now h) h m few) (λ s. c.drain.ensures.keeps h byte pages start s) in
    let empty = c.in_ok-drain.ensures.empty h in
    let d = V c.put.new.self in
    let two = greeting_put intent pages start c.put.result a b d (g.met.R.Rig.model c.drain.new.rig one.honest) one (greeted_quiet intent pages start b.device m empty) (ap (λ (x : Device). x.owed) empty) (c.put.ensures.honest one.honest) in
    let e = V c.get.new.self in
    let three = greeting_get intent pages start c.get.result a d e (g.met.R.Rig.model c.put.new.self two.honest) two (c.get.ensures.honest two.honest) in
    let f = V c.drain-2.new.rig in
    let me = g.met.R.Rig.model c.get.new.self three.honest in
    let four = greeting_drain intent pages start a e f me three (λ s. c.drain-2.ensures.keeps three.honest byte pages e.device s) in
    let line = c.in_err-drain-2.ensures.line three.honest (left_here (IsGreeting intent pages start) a e me three).1.owed in
    record { keeps = four; fails = search (rules, line) }

pub returns-clause-honest : goal.returns-clause-honest
returns-clause-honest g c h intent pages m few =
    let V = g.R.Rig.view in
    let a = V c.args.rig.now in
    let b = V c.drain.new.rig in
    let byte = settling_byte intent in
    let start = a.device in
    let one = greeting_drain intent pages start a a b (g.met.R.Rig.model c.args.rig.now h) (greeting_begin intent pages a (g.met.R.Rig.model c.args.rig.now h) h m few) (λ s. c.drain.ensures.keeps h byte pages start s) in
    let empty = c.in_ok-drain.ensures.empty h in
    let d = V c.put.new.self in
    let two = greeting_put intent pages start c.put.result a b d (g.met.R.Rig.model c.drain.new.rig one.honest) one (greeted_quiet intent pages start b.device m empty) (ap (λ (x : Device). x.owed) empty) (c.put.ensures.honest one.honest) in
    let e = V c.get.new.self in
    let three = greeting_get intent pages start c.get.result a d e (g.met.R.Rig.model c.put.new.self two.honest) two (c.get.ensures.honest two.honest) in
    let f = V c.drain-2.new.rig in
    let me = g.met.R.Rig.model c.get.new.self three.honest in
    let four = greeting_drain intent pages start a e f me three (λ s. c.drain-2.ensures.keeps three.honest byte pages e.device s) in
    record { keeps = four; fails = search rules }

pub returns-in_err-put-clause-speaks : goal.returns-in_err-put-clause-speaks
returns-in_err-put-clause-speaks g c =
    let V = g.R.Rig.view in
    let u : Unit {0} = tt in
    let a = V c.args.rig.now in
    let b = V c.drain.new.rig in
    let d = V c.put.new.self in
    let one = speaks_went [] 4097 c.in_ok-drain.field-0 a b c.in_ok-drain.ensures.speaks in
    let p = c.in_err-put.ensures in
    speaks_line (0x7F ∷ []) [] 4098 8196 c.from_residual-in_err-put.result a d (lit≤ tt)
    (failed_then [] (0x7F ∷ []) 4097 1 a b d one (failed_put (Unit {0}) 0x7F c.in_err-put.field-0.0 b d p.cause p.journal_count p.recorded p.honest)) c.from_residual-in_err-put.ensures.1

pub returns-in_err-get-clause-speaks : goal.returns-in_err-get-clause-speaks
returns-in_err-get-clause-speaks g c =
    let V = g.R.Rig.view in
    let u : Unit {0} = tt in
    let a = V c.args.rig.now in
    let b = V c.drain.new.rig in
    let d = V c.put.new.self in
    let one = speaks_went [] 4097 c.in_ok-drain.field-0 a b c.in_ok-drain.ensures.speaks in
    let p = c.in_ok-put.ensures in
    let two = went_then [] (0x7F ∷ []) 4097 1 a b d one (went_put 0x7F u b d p.cause p.journal_count p.recorded p.honest) in
    let e = V c.get.new.self in
    let q = c.in_err-get.ensures in
    speaks_line (0x7F ∷ []) [] 4099 8196 c.from_residual-in_err-get.result a e (lit≤ tt)
    (failed_then (0x7F ∷ []) [] 4098 1 a d e two (failed_get c.in_err-get.field-0.0 d e q.cause q.journal_count q.recorded q.honest)) c.from_residual-in_err-get.ensures.1

pub returns-in_err-drain-2-clause-speaks : goal.returns-in_err-drain-2-clause-speaks
returns-in_err-drain-2-clause-speaks g c =
    let V = g.R.Rig.view in
    let u : Unit {0} = tt in
    let a = V c.args.rig.now in
    let b = V c.drain.new.rig in
    let d = V c.put.new.self in
    let one = speaks_went [] 4097 c.in_ok-drain.field-0 a b c.in_ok-drain.ensures.speaks in
    let p = c.in_ok-put.ensures in
    let two = went_then [] (0x7F ∷ []) 4097 1 a b d one (went_put 0x7F u b d p.cause p.journal_count p.recorded p.honest) in
    let e = V c.get.new.self in
    let q = c.in_ok-get.ensures in
    let three = went_then (0x7F ∷ []) [] 4098 1 a d e two (went_get c.in_ok-get.field-0 d e q.cause q.journal_count q.recorded q.honest) in
    let f = V c.drain-2.new.rig in
    let fault = c.in_err-drain-2.field-0.0 in
    let failed : Result Bool WireFault = Err fault in
    speaks_fault (0x7F ∷ []) [] 8196 8196 fault c.from_residual-in_err-drain-2.result a f (lit≤ tt) c.from_residual-in_err-drain-2.ensures.1
    (speaks_then (0x7F ∷ []) [] 4099 4097 failed a e f three c.in_err-drain-2.ensures.speaks)

pub returns-in_err-drain-2-clause-fails : goal.returns-in_err-drain-2-clause-fails
returns-in_err-drain-2-clause-fails g c =
    let V = g.R.Rig.view in
    let u : Unit {0} = tt in
    let a = V c.args.rig.now in
    let b = V c.drain.new.rig in
    let d = V c.put.new.self in
    let one = speaks_went [] 4097 c.in_ok-drain.field-0 a b c.in_ok-drain.ensures.speaks in
    let p = c.in_ok-put.ensures in
    let two = went_then [] (0x7F ∷ []) 4097 1 a b d one (went_put 0x7F u b d p.cause p.journal_count p.recorded p.honest) in
    let e = V c.get.new.self in
    let q = c.in_ok-get.ensures in
    let three = went_then (0x7F ∷ []) [] 4098 1 a d e two (went_get c.in_ok-get.field-0 d e q.cause q.journal_count q.recorded q.honest) in
    let f = V c.drain-2.new.rig in
    let P = PutsAll (0x7F ∷ []) 4099 in
    fails_on Never Floods Never Floods e.calls f.calls a.calls f.calls c.in_err-drain-2.field-0.0 c.from_residual-in_err-drain-2.result
    (λ n. never_after P Never a.calls e.calls f.calls three.all n) (λ n. floods_after P a.calls e.calls f.calls three.all n)
    c.in_err-drain-2.ensures.fails c.from_residual-in_err-drain-2.ensures.1

pub returns-clause-speaks : goal.returns-clause-speaks
returns-clause-speaks g c =
    let V = g.R.Rig.view in
    let u : Unit {0} = tt in
    let a = V c.args.rig.now in
    let b = V c.drain.new.rig in
    let d = V c.put.new.self in
    let one = speaks_went [] 4097 c.in_ok-drain.field-0 a b c.in_ok-drain.ensures.speaks in
    let p = c.in_ok-put.ensures in
    let two = went_then [] (0x7F ∷ []) 4097 1 a b d one (went_put 0x7F u b d p.cause p.journal_count p.recorded p.honest) in
    let e = V c.get.new.self in
    let q = c.in_ok-get.ensures in
    let three = went_then (0x7F ∷ []) [] 4098 1 a d e two (went_get c.in_ok-get.field-0 d e q.cause q.journal_count q.recorded q.honest) in
    let f = V c.drain-2.new.rig in
    speaks_ok (0x7F ∷ []) 8196 u a f
    (went_then (0x7F ∷ []) [] 4099 4097 a e f three (speaks_went [] 4097 c.in_ok-drain-2.field-0 e f c.in_ok-drain-2.ensures.speaks))
