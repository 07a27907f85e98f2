use Rattle.std.proofs.Common.{◌≡◌, ◌≤◌, ◌∙◌, [], ◌∷◌, true, false, List, ℕ, length, take, Some, Result, rules, sym, ap, subst, arith, inr}
use Rattle.std.specs.Prelude.{◌&&◌, is_some}
use Rattle.stm_wire.specs.declared.fault.WireFault.{WireFault}
use Rattle.stm_wire.proofs.Names.{Device, GoesOn, Harmless, LeadsTo, PutsAll, PutsPart, settling_byte, with_rest}
use Rattle.stm_wire.specs.lemmas.DialogueLaws.{GoesOn-weaker}
use Rattle.stm_journal.proofs.Names.{intent_of, may_greet}
use Rattle.stm_session.proofs.Names.{fault_of, fault_of_journal, Greeting, greets, GreetsBy, GreetsInPartBy, GreetsOnce, IsConnectable, IsGreetableAs, IsReset, ReadsFirst, risked_at, state_at}
use Rattle.stm_session.proofs.Names.{Undoable}
use Rattle.stm_session.specs.declared.greeting.Greeting.TheVariants.{Fresh}
use Rattle.stm_session.proofs.Causes.{cause_behind}
use Rattle.stm_session.proofs.Freshness.{settling_starts}
use Rattle.stm_session.proofs.Going.{line_outside}
use Rattle.stm_session.proofs.Greetings.{Begins, amid_connected, amid_line, amid_read, amid_said, few_after, greets_so, greets_text, intended_unfinished, line_cause, line_in_part, load_outside, may_after, more_calls, once_by, only_fresh, outside_as, reads_alone, reads_part, reads_then, refused_as, said_in_part, writes_then}
use Rattle.stm_session.proofs.Openings.{has_chip}
use Rattle.stm_session.proofs.Standing.{journal_outside}
use Rattle.stm_session.proofs.UndoStarts.{loaded_then}
use Rattle.stm_session.proofs.Unasked.{unfinished_as}
use Rattle.stm_session.proofs.greeting.greet.Given.{Over}
use Rattle.stm_session.proofs.greeting.greet.Goals.{After-load, After-comes, After-connect, After-greet}
use Rattle.stm_session.proofs.greeting.greet.Goals as goal

-- what is known once the journal was read, or couldn't be
begins : (g : Over) (c : After-load g) → let a = g.R.Rig.view c.args.rig.now in a.is_honest → (flashes : List (List ℕ))
    → Undoable flashes a.device a.journal → IsGreetableAs c.args.greeting a.device a.journal → Begins flashes c.args.greeting a
begins g c h flashes u may = record {
  laws = c.step_laws.ensures;
  counts = c.a_greeting_counts_as_nothing.ensures;
  loses = c.greeting_is_kept.ensures.lost;
  fresh = c.stopped_may_be_greeted.ensures.fresh;
  undoable = u;
  may = may;
  model = g.met.R.Rig.model c.args.rig.now h;
}

pub returns-in_err-journal-clause-honest : goal.returns-in_err-journal-clause-honest
returns-in_err-journal-clause-honest g c h flashes u may =
    let V = g.R.Rig.view in
    let a = V c.args.rig.now in
    let b = V c.load.new.rig in
    let table = c.args.table.now in
    let at = begins g (goal.at.returns-in_err-journal-clause-honest g c).After-load h flashes u may in
    let e = c.in_err-journal.field-0.0 in
    let loads = c.in_err-journal.ensures.honest h in
    greets_so table flashes c.args.greeting a at b c.from_residual.result loads.honest (g.met.R.Rig.model c.load.new.rig loads.honest) (amid_read table flashes c.args.greeting a at b loads.moments)
    (outside_as table a.journal c.from_residual.result (fault_of_journal e) c.from_residual.ensures.1 (load_outside a.journal e (state_at a.journal) loads.faults u.good_journal))

pub returns-then-depth-eq0-clause-honest : goal.returns-then-depth-eq0-clause-honest
returns-then-depth-eq0-clause-honest g c h flashes u may =
    let a = g.R.Rig.view c.args.rig.now in
    let b = g.R.Rig.view c.load.new.rig in
    let at = begins g (goal.at.returns-then-depth-eq0-clause-honest g c).After-load h flashes u may in
    let loads = c.in_ok-journal.ensures.honest h in
    greets_so c.args.table.now flashes c.args.greeting a at b _ loads.honest (g.met.R.Rig.model c.load.new.rig loads.honest)
    (amid_read c.args.table.now flashes c.args.greeting a at b loads.moments) tt

pub returns-then-is_none-clause-honest : goal.returns-then-is_none-clause-honest
returns-then-is_none-clause-honest g c h flashes u may =
    let a = g.R.Rig.view c.args.rig.now in
    let b = g.R.Rig.view c.load.new.rig in
    let at = begins g (goal.at.returns-then-is_none-clause-honest g c).After-load h flashes u may in
    let loads = c.in_ok-journal.ensures.honest h in
    greets_so c.args.table.now flashes c.args.greeting a at b _ loads.honest (g.met.R.Rig.model c.load.new.rig loads.honest)
    (amid_read c.args.table.now flashes c.args.greeting a at b loads.moments) tt

pub returns-then-not-comes-clause-honest : goal.returns-then-not-comes-clause-honest
returns-then-not-comes-clause-honest g c h flashes u may =
    let a = g.R.Rig.view c.args.rig.now in
    let b = g.R.Rig.view c.load.new.rig in
    let at = begins g (goal.at.returns-then-not-comes-clause-honest g c).After-load h flashes u may in
    let loads = c.in_ok-journal.ensures.honest h in
    greets_so c.args.table.now flashes c.args.greeting a at b _ loads.honest (g.met.R.Rig.model c.load.new.rig loads.honest)
    (amid_read c.args.table.now flashes c.args.greeting a at b loads.moments) tt

pub returns-in_err-chip-clause-honest : goal.returns-in_err-chip-clause-honest
returns-in_err-chip-clause-honest g c h flashes u may =
    let a = g.R.Rig.view c.args.rig.now in
    let b = g.R.Rig.view c.load.new.rig in
    let table = c.args.table.now in
    let at = begins g (goal.at.returns-in_err-chip-clause-honest g c).After-load h flashes u may in
    let loads = c.in_ok-journal.ensures.honest h in
    let l = c.in_ok-journal.journal in
    let some : (is_some (intent_of l.state) && true) ≡ true = search (rules, c.if-is_none.false) in
    let is = intended_unfinished l.state true some in
    let e = c.in_err-chip.field-0.0 in
    greets_so table flashes c.args.greeting a at b c.from_residual-in_err-chip.result loads.honest (g.met.R.Rig.model c.load.new.rig loads.honest) (amid_read table flashes c.args.greeting a at b loads.moments)
    (refused_as table a.journal c.from_residual-in_err-chip.result e c.from_residual-in_err-chip.ensures.1 (unfinished_as table l a.journal loads.loaded c.in-Some.id (Some e) is c.in-Some.ensures c.in_err-chip.ensures.refused))

-- whether a greeting comes, by the journal's bytes
due : (g : Over) (c : After-comes g) → (g.R.Rig.view c.args.rig.now).is_honest → c.comes.result ≡ greets c.args.greeting c.args.table.now (g.R.Rig.view c.args.rig.now).journal
due g c h =
    let a = g.R.Rig.view c.args.rig.now in
    let loads = c.in_ok-journal.ensures.honest h in
    c.comes.ensures ∙ greets_text c.args.greeting c.args.table.now c.in_ok-journal.journal a.journal loads.loaded c.in-Some.id (sym c.in-Some.ensures) c.in_ok-chip.chip.now (has_chip c.args.table.now c.in-Some.id c.in_ok-chip.chip.now c.in_ok-chip.ensures.chip)

pub returns-then-not-comes-clause-answer : goal.returns-then-not-comes-clause-answer
returns-then-not-comes-clause-answer g c h =
    let no : c.comes.result ≡ false = search (rules, c.if-not-comes.true) in
    sym no ∙ due g (goal.at.returns-then-not-comes-clause-answer g c).After-comes h

pub returns-then-not-may_greet-clause-answer : goal.returns-then-not-may_greet-clause-answer
returns-then-not-may_greet-clause-answer g c h =
    let yes : c.comes.result ≡ true = search (rules, c.if-not-comes.false) in
    sym yes ∙ due g (goal.at.returns-then-not-may_greet-clause-answer g c).After-comes h

pub returns-clause-answer : goal.returns-clause-answer
returns-clause-answer g c h =
    let yes : c.comes.result ≡ true = search (rules, c.if-not-comes.false) in
    sym yes ∙ due g (goal.at.returns-clause-answer g c).After-comes h

-- 7F where no line can say so: the device is said to be fresh
said_fresh : (g : Over) (c : After-connect g) → c.args.greeting ≡ Fresh
said_fresh g c =
    let yes : c.comes.result ≡ true = search (rules, c.if-not-comes.false) in
    let no : c.may_greet.result ≡ false = search (rules, c.if-not-may_greet.true) in
    only_fresh c.args.greeting c.in_ok-chip.chip.now c.in_ok-journal.journal (sym c.comes.ensures ∙ yes) (sym c.may_greet.ensures.memory ∙ no)

may_not : (g : Over) (c : After-connect g) → (g.R.Rig.view c.args.rig.now).is_honest → may_greet (g.R.Rig.view c.args.rig.now).journal ≡ false
may_not g c h =
    let no : c.may_greet.result ≡ false = search (rules, c.if-not-may_greet.true) in
    sym (c.may_greet.ensures.text (g.R.Rig.view c.args.rig.now).journal (c.in_ok-journal.ensures.honest h).loaded) ∙ no

leads : (g : Over) (c : After-connect g) (made : Result (Unit {0}) WireFault) → c.connect.result ≡ made → (h : (g.R.Rig.view c.args.rig.now).is_honest)
    → let a = g.R.Rig.view c.args.rig.now in let b = g.R.Rig.view c.load.new.rig in let byte = settling_byte (intent_of (state_at a.journal)) in
    IsReset a.device → Harmless a.device byte (risked_at a.journal) → length a.device.owed ≤ 4096
    → LeadsTo byte (risked_at a.journal) b.device made b (g.R.Rig.view c.connect.new.rig) (with_rest [] b.device)
leads g c made was h reset harmless few =
    let a = g.R.Rig.view c.args.rig.now in
    let b = g.R.Rig.view c.load.new.rig in
    let f = g.R.Rig.view c.connect.new.rig in
    let byte = settling_byte (intent_of (state_at a.journal)) in
    let risked = risked_at a.journal in
    let loads = c.in_ok-journal.ensures.honest h in
    let D : Device → Type 0 = λ d. IsReset d × (Harmless d byte risked × (length d.owed ≤ 4096)) in
    let at = subst D (sym loads.same_device) (reset, (harmless, few)) in
    let L : Result (Unit {0}) WireFault → Type 0 = λ r. LeadsTo byte risked b.device r b f (with_rest [] b.device) in
    subst L was (c.connect.ensures.honest loads.honest byte risked b.device (settling_starts byte risked b.device at.1.0 at.1.1) at.0.phase at.0.owed)

reset_as : (g : Over) (c : After-connect g) → let a = g.R.Rig.view c.args.rig.now in IsGreetableAs c.args.greeting a.device a.journal → IsReset a.device
reset_as g c may =
    let a = g.R.Rig.view c.args.rig.now in
    let M : Greeting → Type 0 = λ x. IsGreetableAs x a.device a.journal in
    subst M (said_fresh g c) may

pub returns-in_err-connect-clause-honest : goal.returns-in_err-connect-clause-honest
returns-in_err-connect-clause-honest g c h flashes u may =
    let a = g.R.Rig.view c.args.rig.now in
    let b = g.R.Rig.view c.load.new.rig in
    let f = g.R.Rig.view c.connect.new.rig in
    let table = c.args.table.now in
    let ctx = goal.at.returns-in_err-connect-clause-honest g c in
    let at = begins g ctx.After-load h flashes u may in
    let led = leads g ctx.After-connect _ c.in_err-connect.was h (reset_as g ctx.After-connect may) u.harmless u.owed in
    let e = c.in_err-connect.field-0.0 in
    greets_so table flashes c.args.greeting a at f c.from_residual-in_err-connect.result led.keeps.honest (g.met.R.Rig.model c.connect.new.rig led.keeps.honest)
    (amid_connected table flashes c.args.greeting a at c.in_ok-journal.journal b (c.in_ok-journal.ensures.honest h) f (may_not g ctx.After-connect h) led.keeps)
    (outside_as table a.journal c.from_residual-in_err-connect.result (fault_of e) c.from_residual-in_err-connect.ensures.1 (line_outside e led.fails))

pub returns-then-not-may_greet-clause-honest : goal.returns-then-not-may_greet-clause-honest
returns-then-not-may_greet-clause-honest g c h flashes u may =
    let a = g.R.Rig.view c.args.rig.now in
    let b = g.R.Rig.view c.load.new.rig in
    let f = g.R.Rig.view c.connect.new.rig in
    let table = c.args.table.now in
    let ctx = goal.at.returns-then-not-may_greet-clause-honest g c in
    let at = begins g ctx.After-load h flashes u may in
    let led = leads g ctx.After-connect _ c.in_ok-connect.was h (reset_as g ctx.After-connect may) u.harmless u.owed in
    greets_so table flashes c.args.greeting a at f _ led.keeps.honest (g.met.R.Rig.model c.connect.new.rig led.keeps.honest)
    (amid_connected table flashes c.args.greeting a at c.in_ok-journal.journal b (c.in_ok-journal.ensures.honest h) f (may_not g ctx.After-connect h) led.keeps) tt

pub returns-then-not-may_greet-clause-connected : goal.returns-then-not-may_greet-clause-connected
returns-then-not-may_greet-clause-connected g c h is done =
    let a = g.R.Rig.view c.args.rig.now in
    let ctx = goal.at.returns-then-not-may_greet-clause-connected g c in
    let I : Greeting → Type 0 = λ x. IsConnectable x a.device in
    let reset : IsReset a.device = subst I (said_fresh g ctx.After-connect) is in
    let device = (g.met.R.Rig.model c.args.rig.now h).device in
    let harmless = (c.stopped_may_be_greeted.ensures.fresh a.device (intent_of (state_at a.journal)) (risked_at a.journal) device reset.phase).now.harmless in
    let F : List ℕ → Type 0 = λ owed. length owed ≤ 4096 in
    let few : length a.device.owed ≤ 4096 = subst F (sym reset.owed) (omega arith) in
    (leads g ctx.After-connect _ c.in_ok-connect.was h reset harmless few).ok ∙ ap (λ (d : Device). with_rest [] d) (c.in_ok-journal.ensures.honest h).same_device

-- a line comes, and 7F behind it
may_come : (g : Over) (c : After-greet g) → (g.R.Rig.view c.args.rig.now).is_honest → may_greet (g.R.Rig.view c.args.rig.now).journal ≡ true
may_come g c h =
    let yes : c.may_greet.result ≡ true = search (rules, c.if-not-may_greet.false) in
    sym (c.may_greet.ensures.text (g.R.Rig.view c.args.rig.now).journal (c.in_ok-journal.ensures.honest h).loaded) ∙ yes

come_due : (g : Over) (c : After-comes g) → c.comes.result ≡ true → (g.R.Rig.view c.args.rig.now).is_honest → greets c.args.greeting c.args.table.now (g.R.Rig.view c.args.rig.now).journal ≡ true
come_due g c is h = sym (due g c h) ∙ is

pub returns-in_err-greet-clause-honest : goal.returns-in_err-greet-clause-honest
returns-in_err-greet-clause-honest g c h flashes u may =
    let V = g.R.Rig.view in
    let a = V c.args.rig.now in
    let b = V c.load.new.rig in
    let d = V c.greet.new.rig in
    let table = c.args.table.now in
    let ctx = goal.at.returns-in_err-greet-clause-honest g c in
    let at = begins g ctx.After-load h flashes u may in
    let l = c.in_ok-journal.journal in
    let loads = c.in_ok-journal.ensures.honest h in
    let e = c.in_err-greet.field-0.0 in
    let yes : c.comes.result ≡ true = search (rules, c.if-not-comes.false) in
    let adds = (c.in_err-greet.ensures.honest loads.honest (loaded_then table l a b loads)).bytes in
    greets_so table flashes c.args.greeting a at d c.from_residual-in_err-greet.result adds.honest (g.met.R.Rig.model c.greet.new.rig adds.honest)
    (amid_line table flashes c.args.greeting a at l b loads (may_come g ctx.After-greet h) (come_due g ctx.After-comes yes h) d _ adds)
    (outside_as table a.journal c.from_residual-in_err-greet.result (fault_of_journal e) c.from_residual-in_err-greet.ensures.1 (journal_outside _ _ e c.in_err-greet.ensures.left))

pub returns-in_err-greet-2-clause-honest : goal.returns-in_err-greet-2-clause-honest
returns-in_err-greet-2-clause-honest g c h flashes u may =
    let V = g.R.Rig.view in
    let a = V c.args.rig.now in
    let b = V c.load.new.rig in
    let d = V c.greet.new.rig in
    let f = V c.greet-2.new.rig in
    let table = c.args.table.now in
    let ctx = goal.at.returns-in_err-greet-2-clause-honest g c in
    let at = begins g ctx.After-load h flashes u may in
    let l = c.in_ok-journal.journal in
    let loads = c.in_ok-journal.ensures.honest h in
    let yes : c.comes.result ≡ true = search (rules, c.if-not-comes.false) in
    let come = may_come g ctx.After-greet h in
    let due-now = come_due g ctx.After-comes yes h in
    let adds = (c.in_ok-greet.ensures.honest loads.honest (loaded_then table l a b loads)).bytes in
    let greets-so = c.in_err-greet-2.ensures.honest adds.honest (intent_of (state_at a.journal)) (risked_at a.journal) (may_after table flashes c.args.greeting a at l b loads come due-now d adds) (few_after table flashes c.args.greeting a at l b loads come due-now d adds) in
    let e = c.in_err-greet-2.field-0.0 in
    greets_so table flashes c.args.greeting a at f c.from_residual-in_err-greet-2.result greets-so.keeps.honest (g.met.R.Rig.model c.greet-2.new.rig greets-so.keeps.honest)
    (amid_said table flashes c.args.greeting a at l b loads come due-now d f adds greets-so.keeps)
    (outside_as table a.journal c.from_residual-in_err-greet-2.result (fault_of e) c.from_residual-in_err-greet-2.ensures.1 (line_outside e greets-so.fails))

pub returns-clause-honest : goal.returns-clause-honest
returns-clause-honest g c h flashes u may =
    let V = g.R.Rig.view in
    let a = V c.args.rig.now in
    let b = V c.load.new.rig in
    let d = V c.greet.new.rig in
    let f = V c.greet-2.new.rig in
    let table = c.args.table.now in
    let ctx = goal.at.returns-clause-honest g c in
    let at = begins g ctx.After-load h flashes u may in
    let l = c.in_ok-journal.journal in
    let loads = c.in_ok-journal.ensures.honest h in
    let yes : c.comes.result ≡ true = search (rules, c.if-not-comes.false) in
    let come = may_come g ctx.After-greet h in
    let due-now = come_due g ctx.After-comes yes h in
    let adds = (c.in_ok-greet.ensures.honest loads.honest (loaded_then table l a b loads)).bytes in
    let greets-so = c.in_ok-greet-2.ensures.honest adds.honest (intent_of (state_at a.journal)) (risked_at a.journal) (may_after table flashes c.args.greeting a at l b loads come due-now d adds) (few_after table flashes c.args.greeting a at l b loads come due-now d adds) in
    greets_so table flashes c.args.greeting a at f _ greets-so.keeps.honest (g.met.R.Rig.model c.greet-2.new.rig greets-so.keeps.honest)
    (amid_said table flashes c.args.greeting a at l b loads come due-now d f adds greets-so.keeps) tt

-- what is called, on any line
pub returns-in_err-journal-clause-stops : goal.returns-in_err-journal-clause-stops
returns-in_err-journal-clause-stops g c =
    let p = reads_alone c.args.greeting (g.R.Rig.view c.args.rig.now).calls (g.R.Rig.view c.load.new.rig).calls c.in_err-journal.ensures.calls in
    search (rules, p)

pub returns-in_err-chip-clause-stops : goal.returns-in_err-chip-clause-stops
returns-in_err-chip-clause-stops g c =
    let p = reads_alone c.args.greeting (g.R.Rig.view c.args.rig.now).calls (g.R.Rig.view c.load.new.rig).calls c.in_ok-journal.ensures.calls in
    search (rules, p)

pub returns-in_err-connect-clause-stops : goal.returns-in_err-connect-clause-stops
returns-in_err-connect-clause-stops g c =
    let V = g.R.Rig.view in
    let a = (V c.args.rig.now).calls in
    let b = (V c.load.new.rig).calls in
    let f = (V c.connect.new.rig).calls in
    let R : Greeting → Type 0 = λ x. GoesOn (ReadsFirst (GreetsInPartBy x)) a f in
    let Puts : List ℕ → Type 0 = λ puts. (n : ℕ) × (puts ≡ take n (0x7F ∷ [])) in
    let q = GoesOn-weaker (PutsPart (0x7F ∷ []) 8196) (GreetsInPartBy Fresh) b f (more_calls Puts b f c.in_err-connect.ensures.speaks.part) (λ us u. inr u) in
    let p = subst R (sym (said_fresh g (goal.at.returns-in_err-connect-clause-stops g c).After-connect)) (reads_then (GreetsInPartBy Fresh) a b f c.in_ok-journal.ensures.calls q) in
    search (rules, p)

pub returns-then-not-may_greet-clause-order : goal.returns-then-not-may_greet-clause-order
returns-then-not-may_greet-clause-order g c is =
    let V = g.R.Rig.view in
    let a = (V c.args.rig.now).calls in
    let b = (V c.load.new.rig).calls in
    let f = (V c.connect.new.rig).calls in
    let R : Greeting → Type 0 = λ x. GoesOn (ReadsFirst (GreetsBy x)) a f in
    let Puts : List ℕ → Type 0 = λ puts. puts ≡ 0x7F ∷ [] in
    let q = GoesOn-weaker (PutsAll (0x7F ∷ []) 8196) (GreetsBy Fresh) b f (more_calls Puts b f c.in_ok-connect.ensures.speaks.whole) (λ us u. inr u) in
    subst R (sym (said_fresh g (goal.at.returns-then-not-may_greet-clause-order g c).After-connect)) (reads_then (GreetsBy Fresh) a b f c.in_ok-journal.ensures.calls q)

pub returns-in_err-greet-clause-stops : goal.returns-in_err-greet-clause-stops
returns-in_err-greet-clause-stops g c =
    let V = g.R.Rig.view in
    let a = (V c.args.rig.now).calls in
    let b = (V c.load.new.rig).calls in
    let d = (V c.greet.new.rig).calls in
    let p = reads_part c.args.greeting a b d c.in_ok-journal.ensures.calls (line_in_part (Unit {0}) c.in_err-greet.field-0.0 b d c.in_err-greet.ensures.calls) in
    search (rules, p)

pub returns-in_err-greet-2-clause-stops : goal.returns-in_err-greet-2-clause-stops
returns-in_err-greet-2-clause-stops g c =
    let V = g.R.Rig.view in
    let a = (V c.args.rig.now).calls in
    let b = (V c.load.new.rig).calls in
    let d = (V c.greet.new.rig).calls in
    let f = (V c.greet-2.new.rig).calls in
    let q = said_in_part b f (writes_then (PutsPart (0x7F ∷ []) 8196) b d f c.in_ok-greet.ensures.calls c.in_err-greet-2.ensures.speaks.part) in
    let p = reads_part c.args.greeting a b f c.in_ok-journal.ensures.calls q in
    search (rules, p)

pub returns-clause-order : goal.returns-clause-order
returns-clause-order g c is =
    let V = g.R.Rig.view in
    let a = (V c.args.rig.now).calls in
    let b = (V c.load.new.rig).calls in
    let d = (V c.greet.new.rig).calls in
    let f = (V c.greet-2.new.rig).calls in
    let q = writes_then (PutsAll (0x7F ∷ []) 8196) b d f c.in_ok-greet.ensures.calls c.in_ok-greet-2.ensures.speaks.whole in
    reads_then (GreetsBy c.args.greeting) a b f c.in_ok-journal.ensures.calls (GoesOn-weaker GreetsOnce (GreetsBy c.args.greeting) b f q (once_by c.args.greeting))

pub returns-in_err-greet-2-clause-cause : goal.returns-in_err-greet-2-clause-cause
returns-in_err-greet-2-clause-cause g c =
    let V = g.R.Rig.view in
    let read = c.in_ok-journal.ensures.cause in
    let line = c.in_ok-greet.ensures.cause in
    let d = V c.greet.new.rig in
    let f = V c.greet-2.new.rig in
    let e = c.in_err-greet-2.field-0.0 in
    cause_behind {T = Unit {0}} {U = Unit {0}} tt (V c.args.rig.now) d f (fault_of e) c.from_residual-in_err-greet-2.result c.from_residual-in_err-greet-2.ensures.1
    (record {
      line_later = omega (arith, read.line_count, line.line_count);
      journal_later = omega (arith, read.later, line.later);
      failed = tt;
      line_done = line.line_count ∙ read.line_count;
      line_kept = tt;
      journal_done = line.done ∙ read.done;
      journal_kept = tt;
      honest = λ h. line.honest (read.honest h);
    })
    (line_cause e d f c.in_err-greet-2.ensures.speaks.cause)
