use Rattle.std.proofs.Common.{◌≡◌, ◌∙◌, ◌+◌, ℕ, arith, ap, subst, sym, ◌∷◌, [], List, refl}
use Rattle.stm_wire.proofs.Names.{ChipData}
use Rattle.stm_session.proofs.Names.{Adds, Are, Begin, Changes, depth_at, DoesSteps, FaultEnds, is_named_at, opening_entries, state_at, Step}
use Rattle.stm_session.proofs.Beginnings.{begins, unbegun, untorn_begin}
use Rattle.stm_session.proofs.Keeping.{good_at}
use Rattle.stm_journal.proofs.Names.{begin_entries}
use Rattle.stm_session.proofs.Orders.{does_add}
use Rattle.stm_session.proofs.CutShort.{append_stops}
use Rattle.stm_session.proofs.segment_begin.begin_segment.Goals as goal

-- what is said of a number and a unique id is so of those that are the same
as_named : (P : ℕ → List ℕ → Type 0) (i i2 : ℕ) (u u2 : List ℕ) → i ≡ i2 → u ≡ u2 → P i u → P i2 u2
as_named P i i2 u u2 same_id same_unique p = subst (P i2) same_unique (subst (λ j. P j u) same_id p)

pub returns-in_err-segment-clause-honest : goal.returns-in_err-segment-clause-honest
returns-in_err-segment-clause-honest g c flashes after steady chip =
    let V = g.R.Rig.view in
    let l = c.args.journal.now in
    let a = V c.args.rig.now in
    let d = V c.begin.new.rig in
    let model = g.met.R.Rig.model c.args.rig.now steady.honest in
    let own : c.id.result ≡ a.device.chip.id = c.id.ensures ∙ sym (ap (λ (k : ChipData). k.id) chip) in
    let board : c.unique.result ≡ a.device.chip.unique = c.unique.ensures ∙ sym (ap (λ (k : ChipData). k.unique) chip) in
    let C : ℕ → List ℕ → Type 0 = λ i u. Changes flashes (opening_entries (is_named_at a.journal) i u (depth_at a.journal + 1)) after c.begin.new.self a d c.from_residual.result (λ x. d.device ≡ a.device) in
    as_named C _ _ _ _ c.id.ensures c.unique.ensures
    (unbegun c.step_laws.ensures c.a_stopped_append_is_good.ensures flashes after l a c.id.result c.unique.result model steady own board (omega (arith, c.id.type_inv)) c.requires.room c.requires.finished
    c.begin.new.self c.begin.new.self d _ c.from_residual.result (c.in_err-segment.ensures.honest steady.honest steady.loaded) c.in_err-segment.ensures.left c.from_residual.ensures.1)

pub returns-clause-honest : goal.returns-clause-honest
returns-clause-honest g c flashes after steady chip =
    let V = g.R.Rig.view in
    let l = c.args.journal.now in
    let l2 = c.begin.new.self in
    let a = V c.args.rig.now in
    let d = V c.begin.new.rig in
    let model = g.met.R.Rig.model c.args.rig.now steady.honest in
    let own : c.id.result ≡ a.device.chip.id = c.id.ensures ∙ sym (ap (λ (k : ChipData). k.id) chip) in
    let board : c.unique.result ≡ a.device.chip.unique = c.unique.ensures ∙ sym (ap (λ (k : ChipData). k.unique) chip) in
    let call = c.in_ok-segment.ensures in
    let appends = call.honest steady.honest steady.loaded in
    let has = call.text steady.honest steady.loaded (state_at a.journal) (state_at d.journal) (good_at l a.journal steady.loaded) (good_at l2 d.journal appends.loaded) in
    let C : ℕ → List ℕ → Type 0 = λ i u. Changes flashes (opening_entries (is_named_at a.journal) i u (depth_at a.journal + 1)) after l2 a d (Rattle.std.proofs.Common.Ok c.in_ok-segment.segment) (λ x. d.device ≡ a.device) in
    as_named C _ _ _ _ c.id.ensures c.unique.ensures
    (begins c.step_laws.ensures c.a_stopped_append_is_good.ensures flashes after l a c.id.result c.unique.result model steady own board (omega (arith, c.id.type_inv)) c.requires.room c.requires.finished
    l2 d c.in_ok-segment.segment c.in_ok-segment.segment appends (untorn_begin c.id.result c.unique.result l l2 call.after) has)

pub returns-clause-order : goal.returns-clause-order
returns-clause-order g c =
    let V = g.R.Rig.view in
    let l = c.args.journal.now in
    let l2 = c.begin.new.self in
    let a = V c.args.rig.now in
    let d = V c.begin.new.rig in
    let P : ℕ → List ℕ → Type 0 = λ i u. DoesSteps (Adds (begin_entries i u l.state) ∷ []) l l2 a d in
    as_named P _ _ _ _ c.id.ensures c.unique.ensures (does_add c.in_ok-segment.segment (begin_entries c.id.result c.unique.result l.state) l l2 a d c.in_ok-segment.ensures.calls (untorn_begin c.id.result c.unique.result l l2 c.in_ok-segment.ensures.after))

pub returns-in_err-segment-clause-stops : goal.returns-in_err-segment-clause-stops
returns-in_err-segment-clause-stops g c =
    let V = g.R.Rig.view in
    let l = c.args.journal.now in
    let a = V c.args.rig.now in
    let d = V c.begin.new.rig in
    let P : ℕ → List ℕ → Type 0 = λ i u. FaultEnds (Begin (Are (Adds (begin_entries i u l.state) ∷ []))) l.is_torn a d c.from_residual.result in
    let all : List Step = Adds (begin_entries c.id.result c.unique.result l.state) ∷ [] in
    as_named P _ _ _ _ c.id.ensures c.unique.ensures (append_stops ℕ (Begin (Are all)) l.is_torn (begin_entries c.id.result c.unique.result l.state) _ a d c.from_residual.result c.from_residual.ensures.1 (all, refl) ([], refl) c.in_err-segment.ensures.calls)
