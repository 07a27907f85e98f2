use Rattle.std.proofs.Common.{◌≡◌, ◌∙◌, ◌/◌, ◌++◌, ◌∷◌, [], List, ℕ, Result, Some, length, take, drop, subst, sym, ap, ap₂, arith, rules, refl}
use Rattle.std.proofs.Math.Seq.{take-append_seam}
use Rattle.stm_wire.proofs.Names.{Call, Device, erased_byte, GoesOn, page_size, with_page}
use Rattle.stm_journal.proofs.Names.{Brings, KeepsSame, kept_entry, place_of, StateData}
use Rattle.stm_journal.specs.declared.kept.Kept.{Kept}
use Rattle.stm_chip.specs.declared.plan.Frame.{Frame}
use Rattle.stm_chip.specs.Plan.{frames_of}
use Rattle.stm_journal.specs.declared.entry.Entry.TheVariants.{Erases}
use Rattle.stm_session.proofs.Names.{acts_of, Are, AreCutShort, Begin, BeginTold, cause_of, Fault, Goes, IsInOrder, IsRewritten, IsSteady, program_entries, rewrite_entries, rewrite_steps, so_far}
use Rattle.stm_session.proofs.Names.{state_at, ToldIn}
use Rattle.hex.specs.Hex.{encode_upper}
use Rattle.stm_session.proofs.Exits.{goes_fault}
use Rattle.stm_session.proofs.Fetchings.{fetch_goes, fetch_fails}
use Rattle.stm_session.proofs.Going.{goes_as, goes_nowhere, goes_ok, goes_refused, goes_then}
use Rattle.stm_session.proofs.Keeping.{good_at}
use Rattle.stm_session.proofs.Orders.{does_fetch, does_then, does_nothing}
use Rattle.stm_session.proofs.CutShort.{begin_as, memory_stops, then_stops}
use Rattle.stm_session.proofs.ToldPages.{some_calls}
use Rattle.stm_session.proofs.UndoOrders.{journal_stops, some_rewrite}
use Rattle.stm_session.proofs.Performing.{does_of}
use Rattle.stm_session.proofs.page_at_work.rewrite_line.Given as given
use Rattle.stm_session.proofs.page_at_work.rewrite_line.Goals as goal
use Rattle.stm_session.proofs.page_at_work.rewrite_line.Goals.{After-rewrite_kept}

-- What the exits behind rewrite_kept share.

page_size_is : (g : given.Over) (c : goal.After-rewrite_kept g)
    → length c.deref-3.result.now ≡ page_size c.args.chip.now c.args.n
page_size_is g c = search rules

-- it gets what was fetched
page_same : (g : given.Over) (c : goal.After-rewrite_kept g)
    → c.deref-3.result.now ≡ c.fetch_page.new.buf
page_same g c =
    let buf = c.fetch_page.new.buf in
    let many : length buf ≡ c.in_ok-page.page.len =
    omega (arith, c.fetch_page.auto.buf, c.deref_mut.ensures.len) in
    c.deref-3.ensures.value
    ∙ ap (λ (z : ℕ). take z (buf ++ drop (length buf) c.in_ok-page.page.items)) (sym many)
    ∙ take-append_seam buf _

-- which the journal told first
was_told : (g : given.Over) (c : goal.After-rewrite_kept g) (P : List Call → Type 0)
    → GoesOn P (g.R.Rig.view c.fetch_page.new.rig).calls (g.R.Rig.view c.rewrite_kept.new.rig).calls
    → ToldIn g.R.Rig.view c.args.journal.now.is_torn (g.R.Rig.view c.args.rig.now)
    (g.R.Rig.view c.rewrite_kept.new.rig) [] c.deref-3.result.now
was_told g c P rest =
    let V = g.R.Rig.view in
    let l = c.args.journal.now in
    let a = V c.args.rig.now in
    let B : List ℕ → Type 0 = λ page. Brings (encode_upper page) a.told
    (V c.fetch_page.new.rig).told in
    record {
      before = c.args.rig.now;
      after = c.fetch_page.new.rig;
      done = (does_nothing l a).acts;
      fetches = c.in_ok-fetch_page.ensures.calls;
      brought = subst B (sym (page_same g c)) c.in_ok-fetch_page.ensures.told;
      rest = some_calls P _ _ rest;
    }

-- the frames are those of the page
framed : (g : given.Over) (c : goal.After-rewrite_kept g)
    → c.deref-4.result.now ≡ frames_of (erased_byte c.args.chip.now) c.deref-3.result.now
    (length c.deref-3.result.now / 256)
framed g c =
    c.deref-4.ensures.value ∙ c.in_ok-frames.ensures.frames
    ∙ ap₂ (λ (e : ℕ) (bytes : List ℕ). frames_of e bytes (length bytes / 256))
    c.erased.ensures.byte (c.deref.ensures.value ∙ sym c.deref-3.ensures.value)

-- the lines are those of the kept page, whatever rewrite_kept answers
rewritten : (g : given.Over) (c : goal.After-rewrite_kept g) (flashes : List (List ℕ)) (k i : ℕ)
    (kept : Kept) → IsSteady flashes c.args.journal.now (g.R.Rig.view c.args.rig.now)
    → (g.R.Rig.view c.args.rig.now).device.chip ≡ c.args.chip.now
    → kept_entry (state_at (g.R.Rig.view c.args.rig.now).journal) k i ≡ Some kept
    → place_of kept ≡ c.args.place → kept.page ≡ c.args.n → (r : Result (Unit {0}) Fault)
    → (IsSteady flashes c.args.journal.now (g.R.Rig.view c.fetch_page.new.rig)
    → (g.R.Rig.view c.fetch_page.new.rig).device.chip ≡ c.args.chip.now
    → Goes flashes (Erases c.args.n ∷ program_entries c.args.n c.deref-4.result.now)
    c.rewrite_kept.new.journal (g.R.Rig.view c.fetch_page.new.rig)
    (g.R.Rig.view c.rewrite_kept.new.rig) r
    (λ y. (g.R.Rig.view c.rewrite_kept.new.rig).device.flash ≡ with_page c.args.chip.now c.args.n
    c.deref-3.result.now (g.R.Rig.view c.fetch_page.new.rig).device.flash))
    → Goes flashes (rewrite_entries c.args.chip.now kept.page kept.bytes)
    c.rewrite_kept.new.journal (g.R.Rig.view c.args.rig.now) (g.R.Rig.view c.rewrite_kept.new.rig) r
    (λ y. (g.R.Rig.view c.rewrite_kept.new.rig).device.flash ≡ with_page c.args.chip.now kept.page
    kept.bytes (g.R.Rig.view c.args.rig.now).device.flash)
rewritten g c flashes k i kept steady chip entry place number r gives =
    let V = g.R.Rig.view in
    let l = c.args.journal.now in
    let l2 = c.rewrite_kept.new.journal in
    let a = V c.args.rig.now in
    let b = V c.fetch_page.new.rig in
    let d = V c.rewrite_kept.new.rig in
    let fetches = c.in_ok-fetch_page.ensures.honest steady.honest steady.loaded in
    let first = fetch_goes c.step_laws.ensures flashes l c.args.place c.fetch_page.new.buf a b
    (g.met.R.Rig.model c.args.rig.now steady.honest) steady (tt {0}) (λ (z : Unit {0}). Unit {0})
    fetches tt in
    let model_b = g.met.R.Rig.model c.fetch_page.new.rig first.honest in
    let still = ap (λ (x : Device). x.chip) fetches.same_device ∙ chip in
    let good = good_at l a.journal steady.loaded in
    let page_is : c.deref-3.result.now ≡ kept.bytes =
    page_same g c ∙ fetches.bytes (state_at a.journal) k i kept good entry place in
    let own = Erases c.args.n ∷ program_entries c.args.n c.deref-4.result.now in
    let lines : own ≡ rewrite_entries c.args.chip.now kept.page kept.bytes =
    ap (λ (fs : List Frame). Erases c.args.n ∷ program_entries c.args.n fs) (framed g c)
    ∙ ap₂ (λ (n : ℕ) (bytes : List ℕ). rewrite_entries c.args.chip.now n bytes) (sym number)
    page_is in
    let given = ap₂ (λ (xs flash : List ℕ). with_page c.args.chip.now c.args.n xs flash) page_is
    (ap (λ (x : Device). x.flash) fetches.same_device)
    ∙ ap (λ (n : ℕ). with_page c.args.chip.now n kept.bytes a.device.flash) (sym number) in
    goes_as flashes own _ l2 a d r lines
    (goes_then flashes [] own l l2 a b d (tt {0}) r model_b first (gives first.steady still)
    (λ y done. done ∙ given))

-- The exits.

pub returns-in_err-page-clause-honest : goal.returns-in_err-page-clause-honest
returns-in_err-page-clause-honest g c flashes k i kept steady chip entry place number =
    let V = g.R.Rig.view in
    let l = c.args.journal.now in
    let a = V c.args.rig.now in
    let own = rewrite_entries c.args.chip.now kept.page kept.bytes in
    goes_refused flashes [] own l l a a (tt {0}) c.from_residual.result
    (goes_nowhere c.step_laws.ensures flashes l a (tt {0}) (λ x. Unit {0}) (g.met.R.Rig.model c.args.rig.now steady.honest) steady tt) c.from_residual.ensures.1

pub returns-in_err-fetch_page-clause-honest : goal.returns-in_err-fetch_page-clause-honest
returns-in_err-fetch_page-clause-honest g c flashes k i kept steady chip entry place number =
    let V = g.R.Rig.view in
    let l = c.args.journal.now in
    let a = V c.args.rig.now in
    let b = V c.fetch_page.new.rig in
    let own = rewrite_entries c.args.chip.now kept.page kept.bytes in
    fetch_fails c.step_laws.ensures flashes l c.args.place c.fetch_page.new.buf a b (g.met.R.Rig.model c.args.rig.now steady.honest) steady own l _ c.from_residual-in_err-fetch_page.result
    (c.in_err-fetch_page.ensures.honest steady.honest steady.loaded) c.from_residual-in_err-fetch_page.ensures.1

pub returns-in_err-frames-clause-honest : goal.returns-in_err-frames-clause-honest
returns-in_err-frames-clause-honest g c flashes k i kept steady chip entry place number =
    let V = g.R.Rig.view in
    let l = c.args.journal.now in
    let a = V c.args.rig.now in
    let b = V c.fetch_page.new.rig in
    let own = rewrite_entries c.args.chip.now kept.page kept.bytes in
    let fetches = c.in_ok-fetch_page.ensures.honest steady.honest steady.loaded in
    goes_refused flashes [] own l l a b (tt {0}) c.from_residual-in_err-frames.result
    (fetch_goes c.step_laws.ensures flashes l c.args.place c.fetch_page.new.buf a b (g.met.R.Rig.model c.args.rig.now steady.honest) steady (tt {0}) (λ (z : Unit {0}). Unit {0}) fetches tt) c.from_residual-in_err-frames.ensures.1

pub returns-clause-same : goal.returns-clause-same
returns-clause-same g c =
    let done = c.in_ok-rewrite_kept.ensures.done in
    let P : StateData → Type 0 = λ s. KeepsSame s c.rewrite_kept.new.journal.state in
    subst P done.done done.same

pub returns-in_err-rewrite_kept-clause-honest : goal.returns-in_err-rewrite_kept-clause-honest
returns-in_err-rewrite_kept-clause-honest g c flashes k i kept steady chip entry place number =
    let V = g.R.Rig.view in
    let l2 = c.rewrite_kept.new.journal in
    let last = (goal.at.returns-in_err-rewrite_kept-clause-honest g c).After-rewrite_kept in
    goes_fault flashes (rewrite_entries c.args.chip.now kept.page kept.bytes) l2 l2
    (V c.args.rig.now) (V c.rewrite_kept.new.rig) _ c.from_residual-in_err-rewrite_kept.result
    (rewritten g last flashes k i kept steady chip entry place number _
    (λ steady chip. c.in_err-rewrite_kept.ensures.performs.honest flashes steady (chip, tt, refl))) c.from_residual-in_err-rewrite_kept.ensures.1

pub returns-clause-honest : goal.returns-clause-honest
returns-clause-honest g c flashes k i kept steady chip entry place number =
    let V = g.R.Rig.view in
    let last = (goal.at.returns-clause-honest g c).After-rewrite_kept in
    goes_ok flashes (rewrite_entries c.args.chip.now kept.page kept.bytes)
    c.rewrite_kept.new.journal (V c.args.rig.now) (V c.rewrite_kept.new.rig) _ (tt {0})
    (rewritten g last flashes k i kept steady chip entry place number _
    (λ steady chip. c.in_ok-rewrite_kept.ensures.performs.honest flashes steady (chip, tt, refl))) (λ p. p)

pub returns-clause-order : goal.returns-clause-order
returns-clause-order g c =
    let V = g.R.Rig.view in
    let chip = c.args.chip.now in
    let n = c.args.n in
    let l = c.args.journal.now in
    let a = V c.args.rig.now in
    let b = V c.fetch_page.new.rig in
    let page = c.deref-3.result.now in
    let own = rewrite_steps chip n page c.deref-4.result.now in
    let last = (goal.at.returns-clause-order g c).After-rewrite_kept in
    let is = ap (λ (fs : List Frame). rewrite_steps chip n page fs) (framed g last) in
    let Own : List Call → Type 0 = λ calls. IsInOrder l.is_torn own calls in
    let told = was_told g last Own (does_of c.in_ok-rewrite_kept.ensures.performs.order).acts in
    let Told = ToldIn V l.is_torn a (V c.rewrite_kept.new.rig) in
    let rewritten : IsRewritten chip Told n own =
    record { page = page; size = page_size_is g last; told = told; is = is } in (
      own,
      rewritten,
      does_then [] own l l c.rewrite_kept.new.journal a b (V c.rewrite_kept.new.rig)
          (does_fetch l a b c.in_ok-fetch_page.ensures.calls) (does_of c.in_ok-rewrite_kept.ensures.performs.order),
    )

pub returns-in_err-page-clause-stops : goal.returns-in_err-page-clause-stops
returns-in_err-page-clause-stops g c =
    let a = g.R.Rig.view c.args.rig.now in
    let l = c.args.journal.now in
    let chip = c.args.chip.now in
    let n = c.args.n in
    let Told = ToldIn g.R.Rig.view l.is_torn a a in
    memory_stops (BeginTold (λ T. IsRewritten chip T n) Told) l.is_torn [] a a c.from_residual.result
    c.from_residual.ensures.1 (some_rewrite chip Told n) (does_nothing l a).acts

pub returns-in_err-fetch_page-clause-stops : goal.returns-in_err-fetch_page-clause-stops
returns-in_err-fetch_page-clause-stops g c =
    let V = g.R.Rig.view in
    let l = c.args.journal.now in
    let a = V c.args.rig.now in
    let b = V c.fetch_page.new.rig in
    let chip = c.args.chip.now in
    let n = c.args.n in
    let Told = ToldIn V l.is_torn a b in
    journal_stops (BeginTold (λ T. IsRewritten chip T n) Told) l.is_torn [] _ a b
    c.from_residual-in_err-fetch_page.result c.from_residual-in_err-fetch_page.ensures.1
    (some_rewrite chip Told n) (does_fetch l a b c.fetch_page.ensures.calls).acts

pub returns-in_err-frames-clause-stops : goal.returns-in_err-frames-clause-stops
returns-in_err-frames-clause-stops g c =
    let V = g.R.Rig.view in
    let l = c.args.journal.now in
    let a = V c.args.rig.now in
    let b = V c.fetch_page.new.rig in
    let chip = c.args.chip.now in
    let n = c.args.n in
    let Told = ToldIn V l.is_torn a b in
    memory_stops (BeginTold (λ T. IsRewritten chip T n) Told) l.is_torn [] a b
    c.from_residual-in_err-frames.result c.from_residual-in_err-frames.ensures.1
    (some_rewrite chip Told n) (does_fetch l a b c.fetch_page.ensures.calls).acts

pub returns-in_err-rewrite_kept-clause-stops : goal.returns-in_err-rewrite_kept-clause-stops
returns-in_err-rewrite_kept-clause-stops g c =
    let V = g.R.Rig.view in
    let chip = c.args.chip.now in
    let n = c.args.n in
    let l = c.args.journal.now in
    let a = V c.args.rig.now in
    let b = V c.fetch_page.new.rig in
    let page = c.deref-3.result.now in
    let last = (goal.at.returns-in_err-rewrite_kept-clause-stops g c).After-rewrite_kept in
    let Own = Are (rewrite_steps chip n page c.deref-4.result.now) in
    let same = ap (λ (fs : List Frame). rewrite_steps chip n page fs) (framed g last) in
    let many = page_size_is g last in
    let d = V c.rewrite_kept.new.rig in
    let cause = cause_of c.in_err-rewrite_kept.field-0.0 in
    let Cut : List Call → Type 0 =
    λ calls. AreCutShort (Begin Own) cause l.is_torn (acts_of calls) in
    let told = was_told g last Cut c.in_err-rewrite_kept.ensures.performs.stops in
    let Told = ToldIn V l.is_torn a d in
    then_stops (Begin Own) (BeginTold (λ T. IsRewritten chip T n) Told) [] l l a b d _
    c.from_residual-in_err-rewrite_kept.result c.from_residual-in_err-rewrite_kept.ensures.1
    (does_fetch l a b c.in_ok-fetch_page.ensures.calls) c.in_err-rewrite_kept.ensures.performs.stops
    (λ ys. begin_as Own (IsRewritten chip (so_far (length ys) Told) n)
    (λ xs is. record { page = page; size = many; told = λ lt. told; is = is ∙ same }) ys)
