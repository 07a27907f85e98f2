use Rattle.std.proofs.Common.{◌≡◌, ◌∙◌, ◌++◌, if◌then◌else◌, [], List, ℕ, Result, Some, Ok, length, take, drop, ap, ap₂, append-nil, refl, sym, subst, arith, rules}
use Rattle.std.proofs.Math.Seq.{take-append_seam}
use Rattle.std.specs.Prelude.{bytes_eq}
use Rattle.stm_wire.proofs.Names.{Call, Device, GoesOn, page_of, page_size, RigState, with_page}
use Rattle.stm_journal.proofs.Names.{AreFetches, Brings, good, journal_of, kept_entry, place_of}
use Rattle.stm_journal.specs.declared.kept.Kept.{Kept}
use Rattle.stm_session.proofs.Names.{acts_of, Are, AreCutShort, AreReadsOf, Begin, BeginTold, cause_of, DoesSteps, Fault, Goes, IsGivenBack, IsInOrder, IsSteady, OrMisread, page_reads, return_entries}
use Rattle.stm_session.proofs.Names.{return_steps, rewrite_entries, so_far, state_at, Step, such, Tells, ToldIn}
use Rattle.hex.specs.Hex.{encode_upper}
use Rattle.stm_session.proofs.Causes.{cause_behind}
use Rattle.stm_session.proofs.CutShort.{begin_after, memory_stops, part_stops, then_stops}
use Rattle.stm_session.proofs.Exits.{goes_fault, in_page, reads_page}
use Rattle.stm_session.proofs.Fetchings.{fetch_goes, fetch_fails}
use Rattle.stm_session.proofs.Going.{asks_fail, asks_on, goes_as, goes_ok, goes_refused, goes_then}
use Rattle.stm_session.proofs.Keeping.{good_at}
use Rattle.stm_session.proofs.Misreads.{may_after}
use Rattle.stm_session.proofs.Orders.{does_as, does_fetch, does_then}
use Rattle.stm_session.proofs.Restorings.{lines_same, page_read}
use Rattle.stm_session.proofs.ToldPages.{some_calls}
use Rattle.stm_session.proofs.UndoOrders.{journal_stops, return_read, return_reading}
use Rattle.stm_session.proofs.returning.give_back_line.Given as given
use Rattle.stm_session.proofs.returning.give_back_line.Goals as goal
use Rattle.stm_session.proofs.returning.give_back_line.Goals.{In_ok-held, After-return_page}

-- What the exits behind the read share.

-- it asks for the page, and changes nothing
asked : (g : given.Over) (c : goal.In_ok-held g) (flashes : List (List ℕ))
    → IsSteady flashes c.args.journal.now (g.R.Rig.view c.args.rig.now)
    → (g.R.Rig.view c.args.rig.now).device.chip ≡ c.args.chip.now
    → Goes {T = Unit {0}} flashes [] c.args.journal.now (g.R.Rig.view c.args.rig.now)
    (g.R.Rig.view c.read_range.new.rig) (Ok tt) (λ y. Unit {0})
asked g c flashes steady chip =
    let V = g.R.Rig.view in
    asks_on c.step_laws.ensures flashes c.args.journal.now (V c.args.rig.now)
    (V c.read_range.new.rig) steady c.in_ok-held.held
    (c.in_ok-held.ensures.honest steady.honest steady.settled chip)

-- its steps, and these are all where the journal is read behind it
was_read : (g : given.Over) (c : goal.In_ok-held g) (held : List ℕ) → held ≡ c.in_ok-held.held.items
    → DoesSteps (page_reads c.args.chip.now c.args.n held) c.args.journal.now c.args.journal.now
    (g.R.Rig.view c.args.rig.now) (g.R.Rig.view c.read_range.new.rig)
was_read g c held same =
    let V = g.R.Rig.view in
    reads_page c.args.chip.now c.args.n c.page_start-start.result c.page_size-size.result
    c.requires.exists c.page_start-start.ensures.address c.page_size-size.ensures.bytes
    c.args.journal.now c.in_ok-held.held.items held (V c.args.rig.now) (V c.read_range.new.rig)
    c.page_size-size.ensures.blocks.1 c.in_ok-held.ensures.order same

fetched : (g : given.Over) (c : goal.In_ok-held g) (held : List ℕ) (d : RigState)
    → held ≡ c.in_ok-held.held.items
    → GoesOn AreFetches (g.R.Rig.view c.read_range.new.rig).calls d.calls
    → DoesSteps (page_reads c.args.chip.now c.args.n held) c.args.journal.now c.args.journal.now
    (g.R.Rig.view c.args.rig.now) d
fetched g c held d same fetches =
    let V = g.R.Rig.view in
    let l = c.args.journal.now in
    let a = V c.args.rig.now in
    let b = V c.read_range.new.rig in
    let reads = page_reads c.args.chip.now c.args.n held in
    does_as (reads ++ []) reads l l a d (append-nil reads)
    (does_then reads [] l l l a b d (was_read g c held same) (does_fetch l b d fetches))

-- What the exits behind return_page share.

held_size : (g : given.Over) (c : goal.After-return_page g)
    → length c.deref.result.now ≡ page_size c.args.chip.now c.args.n
held_size g c = search rules

given_size : (g : given.Over) (c : goal.After-return_page g)
    → length c.deref-2.result.now ≡ page_size c.args.chip.now c.args.n
given_size g c = search rules

-- it gets what was fetched
page_same : (g : given.Over) (c : goal.After-return_page g)
    → c.deref-2.result.now ≡ c.fetch_page.new.buf
page_same g c =
    let buf = c.fetch_page.new.buf in
    let many : length buf ≡ c.in_ok-page.page.len =
    omega (arith, c.fetch_page.auto.buf, c.deref_mut.ensures.len) in
    c.deref-2.ensures.value
    ∙ ap (λ (z : ℕ). take z (buf ++ drop (length buf) c.in_ok-page.page.items)) (sym many)
    ∙ take-append_seam buf _

-- which the journal told behind the read
was_told : (g : given.Over) (c : goal.After-return_page g) (P : List Call → Type 0)
    → GoesOn P (g.R.Rig.view c.fetch_page.new.rig).calls (g.R.Rig.view c.return_page.new.rig).calls
    → DoesSteps (page_reads c.args.chip.now c.args.n c.deref.result.now) c.args.journal.now
    c.args.journal.now (g.R.Rig.view c.args.rig.now) (g.R.Rig.view c.read_range.new.rig)
    → ToldIn g.R.Rig.view c.args.journal.now.is_torn (g.R.Rig.view c.args.rig.now)
    (g.R.Rig.view c.return_page.new.rig)
    (page_reads c.args.chip.now c.args.n c.deref.result.now) c.deref-2.result.now
was_told g c P rest reads =
    let V = g.R.Rig.view in
    let B : List ℕ → Type 0 = λ page. Brings (encode_upper page)
    (V c.read_range.new.rig).told (V c.fetch_page.new.rig).told in
    record {
      before = c.read_range.new.rig;
      after = c.fetch_page.new.rig;
      done = reads.acts;
      fetches = c.in_ok-fetch_page.ensures.calls;
      brought = subst B (sym (page_same g c)) c.in_ok-fetch_page.ensures.told;
      rest = some_calls P _ _ rest;
    }

-- the page is returned
returned : (g : given.Over) (c : goal.After-return_page g) (Told : Tells) (steps : List Step)
    → Told (page_reads c.args.chip.now c.args.n c.deref.result.now) c.deref-2.result.now
    → steps ≡ return_steps c.args.again c.args.chip.now c.args.n c.deref.result.now c.deref-2.result.now
    → IsGivenBack c.args.again c.args.chip.now Told c.args.n
    (page_reads c.args.chip.now c.args.n c.deref.result.now ++ steps)
returned g c Told steps told is =
    record {
      held = c.deref.result.now;
      held_size = held_size g c;
      page = c.deref-2.result.now;
      size = given_size g c;
      told = told;
      is = ap (λ (xs : List Step). page_reads c.args.chip.now c.args.n c.deref.result.now ++ xs) is;
    }

-- the lines are those of the kept page, whatever return_page answers
given_back : (g : given.Over) (c : goal.After-return_page g) (flashes : List (List ℕ)) (k i : ℕ)
    (kept : Kept) → IsSteady flashes c.args.journal.now (g.R.Rig.view c.args.rig.now)
    → (g.R.Rig.view c.args.rig.now).device.chip ≡ c.args.chip.now
    → kept_entry (state_at (g.R.Rig.view c.args.rig.now).journal) k i ≡ Some kept
    → place_of kept ≡ c.args.place → kept.page ≡ c.args.n → (r : Result (Unit {0}) Fault)
    → (IsSteady flashes c.args.journal.now (g.R.Rig.view c.fetch_page.new.rig)
    → (g.R.Rig.view c.fetch_page.new.rig).device.chip ≡ c.args.chip.now
    → c.deref.result.now
    ≡ page_of c.args.chip.now (g.R.Rig.view c.fetch_page.new.rig).device.flash c.args.n
    → Goes flashes (if bytes_eq c.deref.result.now c.deref-2.result.now then []
    else rewrite_entries c.args.chip.now c.args.n c.deref-2.result.now) c.return_page.new.journal
    (g.R.Rig.view c.fetch_page.new.rig) (g.R.Rig.view c.return_page.new.rig) r
    (λ y. (g.R.Rig.view c.return_page.new.rig).device.flash ≡ with_page c.args.chip.now c.args.n
    c.deref-2.result.now (g.R.Rig.view c.fetch_page.new.rig).device.flash))
    → Goes flashes
    (return_entries c.args.chip.now (g.R.Rig.view c.args.rig.now).device.flash kept)
    c.return_page.new.journal (g.R.Rig.view c.args.rig.now) (g.R.Rig.view c.return_page.new.rig) r
    (λ y. (g.R.Rig.view c.return_page.new.rig).device.flash ≡ with_page c.args.chip.now c.args.n
    kept.bytes (g.R.Rig.view c.args.rig.now).device.flash)
given_back g c flashes k i kept steady chip entry place number r gives =
    let V = g.R.Rig.view in
    let n = c.args.n in
    let l = c.args.journal.now in
    let l2 = c.return_page.new.journal in
    let a = V c.args.rig.now in
    let b = V c.read_range.new.rig in
    let d = V c.fetch_page.new.rig in
    let e = V c.return_page.new.rig in
    let asks = c.in_ok-held.ensures.honest steady.honest steady.settled chip in
    let first = asks_on c.step_laws.ensures flashes l a b steady c.in_ok-held.held asks in
    let model_b = g.met.R.Rig.model c.read_range.new.rig first.steady.honest in
    let fetches = c.in_ok-fetch_page.ensures.honest first.steady.honest first.steady.loaded in
    let second = fetch_goes c.step_laws.ensures flashes l c.args.place c.fetch_page.new.buf b d
    model_b first.steady (tt {0}) (λ (z : Unit {0}). Unit {0}) fetches tt in
    let both = goes_then flashes [] [] l l a b d (tt {0}) (Ok tt) model_b first second (λ y p. p) in
    let model_d = g.met.R.Rig.model c.fetch_page.new.rig both.honest in
    let device_is : d.device ≡ a.device = fetches.same_device ∙ asks.same in
    let still = ap (λ (x : Device). x.chip) device_is ∙ chip in
    let held_is : c.deref.result.now ≡ page_of c.args.chip.now a.device.flash n =
    c.deref.ensures.value ∙ asks.done
    ∙ page_read c.args.chip.now a.device.flash n c.page_start-start.result c.page_size-size.result
    c.page_start-start.ensures.address c.page_size-size.ensures.bytes in
    let read =
    held_is ∙ sym (ap (λ (x : Device). page_of c.args.chip.now x.flash n) device_is) in
    let J : List ℕ → Type 0 = λ j. journal_of j ≡ good (state_at a.journal) in
    let there = subst J (sym asks.left.journal_same) (good_at l a.journal steady.loaded) in
    let fetched = fetches.bytes (state_at a.journal) k i kept there entry place in
    let page_is : c.deref-2.result.now ≡ kept.bytes = page_same g c ∙ fetched in
    let lines = lines_same c.args.chip.now a.device.flash n c.deref.result.now c.deref-2.result.now
    kept held_is page_is number in
    let own = if bytes_eq c.deref.result.now c.deref-2.result.now then []
    else rewrite_entries c.args.chip.now n c.deref-2.result.now in
    goes_as flashes own _ l2 a e r lines
    (goes_then flashes [] own l l2 a d e (tt {0}) r model_d both (gives both.steady still read)
    (λ y done. done ∙ ap₂ (λ (xs flash : List ℕ). with_page c.args.chip.now n xs flash) page_is
    (ap (λ (x : Device). x.flash) device_is)))

-- The exits.

pub returns-in_err-held-clause-honest : goal.returns-in_err-held-clause-honest
returns-in_err-held-clause-honest g c flashes k i kept steady chip entry place number =
    let V = g.R.Rig.view in
    let l = c.args.journal.now in
    let a = V c.args.rig.now in
    let b = V c.read_range.new.rig in
    asks_fail c.step_laws.ensures flashes l a b steady
    (return_entries c.args.chip.now a.device.flash kept) l _ c.from_residual.result
    (c.in_err-held.ensures.honest steady.honest steady.settled chip) c.from_residual.ensures.1

pub returns-in_err-page-clause-honest : goal.returns-in_err-page-clause-honest
returns-in_err-page-clause-honest g c flashes k i kept steady chip entry place number =
    let V = g.R.Rig.view in
    let l = c.args.journal.now in
    let a = V c.args.rig.now in
    let lines = return_entries c.args.chip.now a.device.flash kept in
    let held = (goal.at.returns-in_err-page-clause-honest g c).In_ok-held in
    goes_refused flashes [] lines l l a (V c.read_range.new.rig) (tt {0})
    c.from_residual-in_err-page.result (asked g held flashes steady chip)
    c.from_residual-in_err-page.ensures.1

pub returns-in_err-fetch_page-clause-honest : goal.returns-in_err-fetch_page-clause-honest
returns-in_err-fetch_page-clause-honest g c flashes k i kept steady chip entry place number =
    let V = g.R.Rig.view in
    let l = c.args.journal.now in
    let a = V c.args.rig.now in
    let b = V c.read_range.new.rig in
    let d = V c.fetch_page.new.rig in
    let lines = return_entries c.args.chip.now a.device.flash kept in
    let held = (goal.at.returns-in_err-fetch_page-clause-honest g c).In_ok-held in
    let first = asked g held flashes steady chip in
    let model = g.met.R.Rig.model c.read_range.new.rig first.steady.honest in
    goes_then flashes [] lines l l a b d (tt {0}) c.from_residual-in_err-fetch_page.result model
    first (fetch_fails c.step_laws.ensures flashes l c.args.place c.fetch_page.new.buf b d model
    first.steady lines l _ c.from_residual-in_err-fetch_page.result
    (c.in_err-fetch_page.ensures.honest first.steady.honest first.steady.loaded)
    c.from_residual-in_err-fetch_page.ensures.1) (λ y p. p)

pub returns-in_err-return_page-clause-honest : goal.returns-in_err-return_page-clause-honest
returns-in_err-return_page-clause-honest g c flashes k i kept steady chip entry place number =
    let V = g.R.Rig.view in
    let a = V c.args.rig.now in
    let l2 = c.return_page.new.journal in
    let last = (goal.at.returns-in_err-return_page-clause-honest g c).After-return_page in
    goes_fault flashes (return_entries c.args.chip.now a.device.flash kept) l2 l2 a
    (V c.return_page.new.rig) _ c.from_residual-in_err-return_page.result
    (given_back g last flashes k i kept steady chip entry place number _
    (c.in_err-return_page.ensures.honest flashes)) c.from_residual-in_err-return_page.ensures.1

pub returns-clause-honest : goal.returns-clause-honest
returns-clause-honest g c flashes k i kept steady chip entry place number =
    let V = g.R.Rig.view in
    let a = V c.args.rig.now in
    let last = (goal.at.returns-clause-honest g c).After-return_page in
    goes_ok flashes (return_entries c.args.chip.now a.device.flash kept)
    c.return_page.new.journal a (V c.return_page.new.rig) _ (tt {0})
    (given_back g last flashes k i kept steady chip entry place number _
    (c.in_ok-return_page.ensures.honest flashes)) (λ p. p)

pub returns-clause-order : goal.returns-clause-order
returns-clause-order g c =
    let V = g.R.Rig.view in
    let chip = c.args.chip.now in
    let n = c.args.n in
    let held = c.deref.result.now in
    let reads = page_reads chip n held in
    let own = return_steps c.args.again chip n held c.deref-2.result.now in
    let read = (goal.at.returns-clause-order g c).In_ok-held in
    let last = (goal.at.returns-clause-order g c).After-return_page in
    let d = V c.fetch_page.new.rig in
    let before =
    fetched g read held d c.deref.ensures.value c.in_ok-fetch_page.ensures.calls in
    let l = c.args.journal.now in
    let Own : List Call → Type 0 = λ calls. IsInOrder l.is_torn own calls in
    let told = was_told g last Own c.in_ok-return_page.ensures.order.acts
    (was_read g read held c.deref.ensures.value) in (
      reads ++ own,
      returned g last (ToldIn V l.is_torn (V c.args.rig.now) (V c.return_page.new.rig)) own told refl,
      does_then reads own l l c.return_page.new.journal (V c.args.rig.now) d
          (V c.return_page.new.rig) before c.in_ok-return_page.ensures.order,
    )

pub returns-in_err-held-clause-stops : goal.returns-in_err-held-clause-stops
returns-in_err-held-clause-stops g c =
    let V = g.R.Rig.view in
    let chip = c.args.chip.now in
    let n = c.args.n in
    let start = c.page_start-start.result in
    let size = c.page_size-size.result in
    let torn = c.args.journal.now.is_torn in
    let a = V c.args.rig.now in
    let b = V c.read_range.new.rig in
    let Told = ToldIn V torn a b in
    let Begun = BeginTold (λ T. IsGivenBack c.args.again chip T n) Told in
    part_stops (Begin (AreReadsOf start size)) (OrMisread c.args.again chip Begun) torn a b
    _ c.from_residual.result c.from_residual.ensures.1
    (λ ys reads. such
    (return_reading c.args.again chip Told n start size c.page_start-start.ensures.address
    c.page_size-size.ensures.bytes ys reads))
    (c.in_err-held.ensures.order_stops n
    (in_page chip n start size c.requires.exists c.page_start-start.ensures.address
    c.page_size-size.ensures.bytes) c.page_size-size.ensures.blocks.1 torn)

pub returns-in_err-page-clause-stops : goal.returns-in_err-page-clause-stops
returns-in_err-page-clause-stops g c =
    let V = g.R.Rig.view in
    let chip = c.args.chip.now in
    let n = c.args.n in
    let held = c.in_ok-held.held.items in
    let many : length held ≡ page_size chip n = search rules in
    let read = (goal.at.returns-in_err-page-clause-stops g c).In_ok-held in
    let torn = c.args.journal.now.is_torn in
    let a = V c.args.rig.now in
    let b = V c.read_range.new.rig in
    let Told = ToldIn V torn a b in
    let Begun = BeginTold (λ T. IsGivenBack c.args.again chip T n) Told in
    memory_stops (OrMisread c.args.again chip Begun) torn (page_reads chip n held) a b
    c.from_residual-in_err-page.result c.from_residual-in_err-page.ensures.1
    (such (return_read c.args.again chip Told n held many))
    (was_read g read held refl).acts

pub returns-in_err-fetch_page-clause-stops : goal.returns-in_err-fetch_page-clause-stops
returns-in_err-fetch_page-clause-stops g c =
    let V = g.R.Rig.view in
    let chip = c.args.chip.now in
    let n = c.args.n in
    let held = c.in_ok-held.held.items in
    let many : length held ≡ page_size chip n = search rules in
    let d = V c.fetch_page.new.rig in
    let read = (goal.at.returns-in_err-fetch_page-clause-stops g c).In_ok-held in
    let torn = c.args.journal.now.is_torn in
    let Told = ToldIn V torn (V c.args.rig.now) d in
    let Begun = BeginTold (λ T. IsGivenBack c.args.again chip T n) Told in
    journal_stops (OrMisread c.args.again chip Begun) torn (page_reads chip n held) _
    (V c.args.rig.now) d c.from_residual-in_err-fetch_page.result
    c.from_residual-in_err-fetch_page.ensures.1
    (such (return_read c.args.again chip Told n held many))
    (fetched g read held d refl c.fetch_page.ensures.calls).acts

pub returns-in_err-return_page-clause-stops : goal.returns-in_err-return_page-clause-stops
returns-in_err-return_page-clause-stops g c =
    let V = g.R.Rig.view in
    let chip = c.args.chip.now in
    let n = c.args.n in
    let l = c.args.journal.now in
    let held = c.deref.result.now in
    let reads = page_reads chip n held in
    let own = return_steps c.args.again chip n held c.deref-2.result.now in
    let read = (goal.at.returns-in_err-return_page-clause-stops g c).In_ok-held in
    let last = (goal.at.returns-in_err-return_page-clause-stops g c).After-return_page in
    let d = V c.fetch_page.new.rig in
    let before =
    fetched g read held d c.deref.ensures.value c.in_ok-fetch_page.ensures.calls in
    let a = V c.args.rig.now in
    let e = V c.return_page.new.rig in
    let cause = cause_of c.in_err-return_page.field-0.0 in
    let Cut : List Call → Type 0 =
    λ calls. AreCutShort (OrMisread c.args.again chip (Begin (Are own))) cause l.is_torn (acts_of calls) in
    let told = was_told g last Cut c.in_err-return_page.ensures.stops
    (was_read g read held c.deref.ensures.value) in
    let Told = ToldIn V l.is_torn a e in
    let Begun = BeginTold (λ T. IsGivenBack c.args.again chip T n) Told in
    then_stops (OrMisread c.args.again chip (Begin (Are own))) (OrMisread c.args.again chip Begun) reads l l a d e _
    c.from_residual-in_err-return_page.result
    c.from_residual-in_err-return_page.ensures.1 before c.in_err-return_page.ensures.stops
    (may_after c.args.again chip (Begin (Are own)) Begun reads
    (λ ys. begin_after (Are own) (IsGivenBack c.args.again chip (so_far (length (reads ++ ys)) Told) n) reads
    (λ steps is. returned g last (so_far (length (reads ++ ys)) Told) steps (λ lt. told) is) ys))

pub returns-in_err-return_page-clause-cause : goal.returns-in_err-return_page-clause-cause
returns-in_err-return_page-clause-cause g c =
    let V = g.R.Rig.view in
    let read = c.in_ok-held.ensures.cause in
    let fetched = c.in_ok-fetch_page.ensures.cause in
    cause_behind {T = Unit {0}} {U = Unit {0}} tt (V c.args.rig.now) (V c.fetch_page.new.rig)
    (V c.return_page.new.rig) c.in_err-return_page.field-0.0
    c.from_residual-in_err-return_page.result c.from_residual-in_err-return_page.ensures.1
    (record {
      line_later = omega (arith, read.line_later, fetched.line_count);
      journal_later = omega (arith, read.journal_later, fetched.later);
      failed = tt;
      line_done = fetched.line_count ∙ read.line_done;
      line_kept = tt;
      journal_done = fetched.done ∙ read.journal_done;
      journal_kept = tt;
      honest = λ h. fetched.honest (read.honest h);
    })
    c.in_err-return_page.ensures.cause
