use Rattle.std.proofs.Common.{◌≡◌, ◌∙◌, ℕ, Some, None, Err, true, false, true≢false, rules, refl, sym, ap, subst, arith, inr, option_map}
use Rattle.stm_wire.proofs.Names.{ChipData, Device, GoesOn}
use Rattle.stm_journal.proofs.Names.{intent_of, is_unfinished}
use Rattle.stm_session.proofs.Names.{asking_refusal, AskingStops, AsksInPart, Board, cause_of, contact_way, fault_of_journal, finished, IsSafe, settling_way, unfinished}
use Rattle.stm_session.proofs.AskingBoards.{fetch_few, few_more, few_then, finished_asked, finished_unread, part_fetched, unfinished_asked, unfinished_unasked}
use Rattle.stm_session.proofs.Keeping.{unfinished_text}
use Rattle.stm_session.proofs.Openings.{load_failed, refused_nothing}
use Rattle.stm_session.proofs.Orders.{fetched_then}
use Rattle.stm_session.proofs.Reaching.{err_then, told_then}
use Rattle.stm_session.proofs.SentUndo.{own-id}
use Rattle.stm_session.proofs.UndoStarts.{loaded_then, own_id, undoable_then}
use Rattle.stm_session.proofs.Unasked.{asks_refused, found_unasked, none_finished, unfinished_as, unless_as, unless_refuses}
use Rattle.stm_session.proofs.Unwritings.{fetching_appends_nothing, then_appends_nothing}
use Rattle.stm_session.proofs.board_session.ask_board.Goals as goal

pub returns-in_err-journal : goal.returns-in_err-journal
returns-in_err-journal g c =
    record {
      unwritten = (
          let V = g.R.Rig.view in
          fetching_appends_nothing (V c.args.rig.now).calls (V c.load.new.rig).calls c.in_err-journal.ensures.calls);
      cause = search rules;
      few = (
          let V = g.R.Rig.view in
          let a = (V c.args.rig.now).calls in
          let b = (V c.load.new.rig).calls in
          few_more 0 537411926 a b (omega arith) (fetch_few a b c.in_err-journal.ensures.calls));
      order = search rules;
      stops = search rules;
      refused = (λ h refusal said.
          let V = g.R.Rig.view in
          unless_refuses _ (V c.args.rig.now) (V c.load.new.rig) c.from_residual.result
          (load_failed {T = Board} (λ j. asking_refusal j c.args.table.now) (λ line. refl) (V c.args.rig.now) (V c.load.new.rig) _ c.from_residual.result (c.in_err-journal.ensures.honest h) c.from_residual.ensures.1) refusal said);
      refused_calls = (λ h refusal said. c.in_err-journal.ensures.calls);
      finished = (λ h at safe.
          let V = g.R.Rig.view in
          finished_unread c.args.table.now c.step_laws.ensures.lost (V c.args.rig.now) (V c.load.new.rig) _ c.from_residual.result safe (c.in_err-journal.ensures.honest h) c.from_residual.ensures.1);
      unfinished = (λ h at flashes u listed.
          let V = g.R.Rig.view in
          let unless = load_failed {T = Board} (λ j. asking_refusal j c.args.table.now) (λ line. refl) (V c.args.rig.now) (V c.load.new.rig) _ (Err (fault_of_journal c.in_err-journal.field-0.0)) (c.in_err-journal.ensures.honest h) refl in
          unfinished_unasked c.args.table.now c.step_laws.ensures flashes (V c.args.rig.now) (V c.load.new.rig) _ c.from_residual.result u unless c.from_residual.ensures.1);
    }

pub returns-then-not-is_unfinished : goal.returns-then-not-is_unfinished
returns-then-not-is_unfinished g c =
    record {
      unwritten = (
          let V = g.R.Rig.view in
          let a = (V c.args.rig.now).calls in
          let b = (V c.load.new.rig).calls in
          then_appends_nothing a b (V c.ask_finished.new.rig).calls (fetching_appends_nothing a b c.in_ok-journal.ensures.calls) c.ask_finished.ensures.unwritten);
      cause = search rules;
      few = (
          let V = g.R.Rig.view in
          let a = (V c.args.rig.now).calls in
          let b = (V c.load.new.rig).calls in
          few_then 0 537411926 a b (V c.ask_finished.new.rig).calls (fetch_few a b c.in_ok-journal.ensures.calls) c.ask_finished.ensures.few);
      order = (
          let V = g.R.Rig.view in
          let l = c.in_ok-journal.journal in
          let is : is_unfinished l.state ≡ false = search (rules, c.is_unfinished.ensures, c.if-not-is_unfinished.true) in
          let way = contact_way in
          told_then c.ask_finished.result _ _
          (λ board asks.
          record {
            journal = l;
            loaded = λ h. (c.in_ok-journal.ensures.honest h).loaded;
            way = way;
            is_way = finished is refl;
            does = (asks.0, asks.1, fetched_then way l.is_torn asks.0 (V c.args.rig.now).calls (V c.load.new.rig).calls (V c.ask_finished.new.rig).calls c.in_ok-journal.ensures.calls asks.2);
          })
          (c.ask_finished.ensures.order l.is_torn));
      stops = (
          let V = g.R.Rig.view in
          let l = c.in_ok-journal.journal in
          let a = V c.args.rig.now in
          let b = V c.load.new.rig in
          let d = V c.ask_finished.new.rig in
          let table = c.args.table.now in
          let is : is_unfinished l.state ≡ false = search (rules, c.is_unfinished.ensures, c.if-not-is_unfinished.true) in
          let way = contact_way in
          err_then c.ask_finished.result (λ e. GoesOn (AsksInPart table way (cause_of e) l.is_torn) b.calls d.calls) (λ e. AskingStops table a d e)
          (λ e stops.
          inr (record {
            journal = l;
            loaded = λ h. (c.in_ok-journal.ensures.honest h).loaded;
            way = way;
            is_way = finished is refl;
            does = part_fetched table way (cause_of e) l.is_torn a.calls b.calls d.calls c.in_ok-journal.ensures.calls stops;
          }))
          (c.ask_finished.ensures.stops l.is_torn));
      refused = (λ h refusal said.
          let V = g.R.Rig.view in
          let l = c.in_ok-journal.journal in
          let is : is_unfinished l.state ≡ false = search (rules, c.is_unfinished.ensures, c.if-not-is_unfinished.true) in
          refused_nothing _ refusal (none_finished c.args.table.now l (V c.args.rig.now).journal (c.in_ok-journal.ensures.honest h).loaded is) said);
      refused_calls = (λ h refusal said.
          let V = g.R.Rig.view in
          let l = c.in_ok-journal.journal in
          let is : is_unfinished l.state ≡ false = search (rules, c.is_unfinished.ensures, c.if-not-is_unfinished.true) in
          refused_nothing _ refusal (none_finished c.args.table.now l (V c.args.rig.now).journal (c.in_ok-journal.ensures.honest h).loaded is) said);
      finished = (λ h at safe.
          let V = g.R.Rig.view in
          let loads = c.in_ok-journal.ensures.honest h in
          let D : Device → Type 0 = λ d. IsSafe d in
          finished_asked c.args.table.now c.in_ok-journal.journal (V c.args.rig.now) (V c.load.new.rig) (V c.ask_finished.new.rig) loads c.step_laws.ensures.lost safe c.ask_finished.result
          (c.ask_finished.ensures.honest loads.honest (subst D (sym loads.same_device) safe)));
      unfinished = (λ h at flashes u listed.
          let V = g.R.Rig.view in
          let l = c.in_ok-journal.journal in
          let loads = c.in_ok-journal.ensures.honest h in
          let is : is_unfinished l.state ≡ false = search (rules, c.is_unfinished.ensures, c.if-not-is_unfinished.true) in
          absurd (true≢false (sym at ∙ sym (unfinished_text l (V c.args.rig.now).journal loads.loaded) ∙ is)));
    }

pub returns-in_err-chip : goal.returns-in_err-chip
returns-in_err-chip g c =
    record {
      unwritten = (
          let V = g.R.Rig.view in
          fetching_appends_nothing (V c.args.rig.now).calls (V c.load.new.rig).calls c.in_ok-journal.ensures.calls);
      cause = search rules;
      few = (
          let V = g.R.Rig.view in
          let a = (V c.args.rig.now).calls in
          let b = (V c.load.new.rig).calls in
          few_more 0 537411926 a b (omega arith) (fetch_few a b c.in_ok-journal.ensures.calls));
      order = search rules;
      stops = search rules;
      refused = (λ h refusal said.
          let V = g.R.Rig.view in
          let l = c.in_ok-journal.journal in
          let is : is_unfinished l.state ≡ true = search (rules, c.is_unfinished.ensures, c.if-not-is_unfinished.false) in
          let unless = asks_refused {T = Board} c.args.table.now l (V c.args.rig.now) (V c.load.new.rig) c.in-Some.id _ (c.in_ok-journal.ensures.honest h) is c.in-Some.ensures c.in_err-chip.ensures.refused in
          unless_refuses _ (V c.args.rig.now) (V c.load.new.rig) c.from_residual-in_err-chip.result
          (unless_as _ (V c.args.rig.now) (V c.load.new.rig) _ c.from_residual-in_err-chip.result unless c.from_residual-in_err-chip.ensures.1) refusal said);
      refused_calls = (λ h refusal said. c.in_ok-journal.ensures.calls);
      finished = (λ h at safe.
          let V = g.R.Rig.view in
          let l = c.in_ok-journal.journal in
          let loads = c.in_ok-journal.ensures.honest h in
          let is : is_unfinished l.state ≡ true = search (rules, c.is_unfinished.ensures, c.if-not-is_unfinished.false) in
          absurd (true≢false (sym is ∙ unfinished_text l (V c.args.rig.now).journal loads.loaded ∙ at)));
      unfinished = (λ h at flashes u listed.
          let V = g.R.Rig.view in
          let l = c.in_ok-journal.journal in
          let is : is_unfinished l.state ≡ true = search (rules, c.is_unfinished.ensures, c.if-not-is_unfinished.false) in
          let unless = asks_refused {T = Board} c.args.table.now l (V c.args.rig.now) (V c.load.new.rig) c.in-Some.id _ (c.in_ok-journal.ensures.honest h) is c.in-Some.ensures c.in_err-chip.ensures.refused in
          unfinished_unasked c.args.table.now c.step_laws.ensures flashes (V c.args.rig.now) (V c.load.new.rig) _ c.from_residual-in_err-chip.result u unless c.from_residual-in_err-chip.ensures.1);
    }

pub returns : goal.returns
returns g c =
    record {
      unwritten = (
          let V = g.R.Rig.view in
          let a = (V c.args.rig.now).calls in
          let b = (V c.load.new.rig).calls in
          then_appends_nothing a b (V c.ask_unfinished.new.rig).calls (fetching_appends_nothing a b c.in_ok-journal.ensures.calls) c.ask_unfinished.ensures.unwritten);
      cause = search rules;
      few = (
          let V = g.R.Rig.view in
          let a = (V c.args.rig.now).calls in
          let b = (V c.load.new.rig).calls in
          few_then 0 537411926 a b (V c.ask_unfinished.new.rig).calls (fetch_few a b c.in_ok-journal.ensures.calls) c.ask_unfinished.ensures.few);
      order = (
          let V = g.R.Rig.view in
          let l = c.in_ok-journal.journal in
          let chip = c.in_ok-chip.chip.now in
          let found = c.in_ok-chip.ensures.chip in
          let is : is_unfinished l.state ≡ true = search (rules, c.is_unfinished.ensures, c.if-not-is_unfinished.false) in
          let named : option_map (λ header. header.id) l.state.header ≡ Some chip.id = sym c.in-Some.ensures ∙ ap (λ (n : ℕ). Some n) (sym found.id_is) in
          let way = settling_way chip.kind l.is_greeted (intent_of l.state) in
          told_then c.ask_unfinished.result _ _
          (λ board asks.
          record {
            journal = l;
            loaded = λ h. (c.in_ok-journal.ensures.honest h).loaded;
            way = way;
            is_way = unfinished chip is (own-id c.args.table.now c.in-Some.id chip found) named (found_unasked c.args.table.now l.state c.in-Some.id chip found c.in_ok-chip.ensures.accepted) refl;
            does = (asks.0, asks.1, fetched_then way l.is_torn asks.0 (V c.args.rig.now).calls (V c.load.new.rig).calls (V c.ask_unfinished.new.rig).calls c.in_ok-journal.ensures.calls asks.2);
          })
          (c.ask_unfinished.ensures.order l.is_torn));
      stops = (
          let V = g.R.Rig.view in
          let l = c.in_ok-journal.journal in
          let a = V c.args.rig.now in
          let b = V c.load.new.rig in
          let d = V c.ask_unfinished.new.rig in
          let table = c.args.table.now in
          let chip = c.in_ok-chip.chip.now in
          let found = c.in_ok-chip.ensures.chip in
          let is : is_unfinished l.state ≡ true = search (rules, c.is_unfinished.ensures, c.if-not-is_unfinished.false) in
          let named : option_map (λ header. header.id) l.state.header ≡ Some chip.id = sym c.in-Some.ensures ∙ ap (λ (n : ℕ). Some n) (sym found.id_is) in
          let way = settling_way chip.kind l.is_greeted (intent_of l.state) in
          err_then c.ask_unfinished.result (λ e. GoesOn (AsksInPart table way (cause_of e) l.is_torn) b.calls d.calls) (λ e. AskingStops table a d e)
          (λ e stops.
          inr (record {
            journal = l;
            loaded = λ h. (c.in_ok-journal.ensures.honest h).loaded;
            way = way;
            is_way = unfinished chip is (own-id table c.in-Some.id chip found) named (found_unasked table l.state c.in-Some.id chip found c.in_ok-chip.ensures.accepted) refl;
            does = part_fetched table way (cause_of e) l.is_torn a.calls b.calls d.calls c.in_ok-journal.ensures.calls stops;
          }))
          (c.ask_unfinished.ensures.stops l.is_torn));
      refused = (λ h refusal said.
          let V = g.R.Rig.view in
          let l = c.in_ok-journal.journal in
          let is : is_unfinished l.state ≡ true = search (rules, c.is_unfinished.ensures, c.if-not-is_unfinished.false) in
          refused_nothing _ refusal (unfinished_as c.args.table.now l (V c.args.rig.now).journal (c.in_ok-journal.ensures.honest h).loaded c.in-Some.id None is c.in-Some.ensures c.in_ok-chip.ensures.accepted) said);
      refused_calls = (λ h refusal said.
          let V = g.R.Rig.view in
          let l = c.in_ok-journal.journal in
          let is : is_unfinished l.state ≡ true = search (rules, c.is_unfinished.ensures, c.if-not-is_unfinished.false) in
          refused_nothing _ refusal (unfinished_as c.args.table.now l (V c.args.rig.now).journal (c.in_ok-journal.ensures.honest h).loaded c.in-Some.id None is c.in-Some.ensures c.in_ok-chip.ensures.accepted) said);
      finished = (λ h at safe.
          let V = g.R.Rig.view in
          let l = c.in_ok-journal.journal in
          let loads = c.in_ok-journal.ensures.honest h in
          let is : is_unfinished l.state ≡ true = search (rules, c.is_unfinished.ensures, c.if-not-is_unfinished.false) in
          absurd (true≢false (sym is ∙ unfinished_text l (V c.args.rig.now).journal loads.loaded ∙ at)));
      unfinished = (λ h at flashes u listed.
          let V = g.R.Rig.view in
          let l = c.in_ok-journal.journal in
          let table = c.args.table.now in
          let a = V c.args.rig.now in
          let b = V c.load.new.rig in
          let loads = c.in_ok-journal.ensures.honest h in
          let id = c.in-Some.id in
          let chip = c.in_ok-chip.chip.now in
          let named : option_map (λ header. header.id) l.state.header ≡ Some id = sym c.in-Some.ensures in
          let own : id ≡ a.device.chip.id = own_id table l a b loads id a.device.chip.id named u.own in
          let same : b.device.chip.kind ≡ chip.kind =
          ap (λ (d : Device). d.chip.kind) loads.same_device ∙ listed.kind ∙ ap (λ (p : ChipData). p.kind) (c.in_ok-chip.ensures.chip.only listed.listed listed.is.held (listed.is.id_is ∙ sym own)) in
          let goes = c.ask_unfinished.ensures.honest loads.honest flashes (loaded_then table l a b loads) (undoable_then table l a b loads flashes u) same in
          unfinished_asked table l a b (V c.ask_unfinished.new.rig) loads c.step_laws.ensures flashes u (g.met.R.Rig.model c.ask_unfinished.new.rig goes.honest) c.ask_unfinished.result goes);
    }
