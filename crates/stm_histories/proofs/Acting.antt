-- An action is a history of the headline.
use Rattle.std.proofs.Common.{◌≡◌, ◌⊎◌, ℕ, List, [], ◌∷◌, ◌++◌, Option, Some, None, IsSome, Result, Ok, Err, MatchOption, MatchResult, refl, sym, ◌∙◌, ap, subst, ⊎_elim}
use Rattle.stm_image.specs.Pairs.{Pairs}
use Rattle.stm_words.specs.declared.range.Range.{Range}
use Rattle.stm_wire.proofs.Names.{ChipData, Device, RigState, Turn}
use Rattle.stm_chip.specs.Document.{IsChipWith, IsNewId}
use Rattle.stm_journal.proofs.Names.{journal_of}
use Rattle.stm_session.specs.declared.fault.Fault.{Fault}
use Rattle.stm_session.specs.declared.information.Info.{Info}
use Rattle.stm_session.proofs.Names.{AllIsUndone, AllLead, CommandData, EachCanFollow, end_of, Event, Happening, Headline, identified, informed, IsReset, IsStart, Knows, Leads, left_refused}
use Rattle.stm_session.proofs.Names.{lost_owed, lost_power, now_of, oldest_after, oldest_of, oldest_start, open_refusal, OutcomesAreTheRun, ran, SameMake, segments_of, starts_after, told_by, undid}
use Rattle.stm_session.proofs.Names.{UndoContract, unprotected, verifies, was_reset, World, written_then}
use Rattle.stm_session.specs.Meaning.{writes}
use Rattle.stm_work.specs.declared.action.Action.{Action}
use Rattle.stm_work.specs.declared.action.Action.TheVariants as action
use Rattle.stm_work.specs.declared.answer.Answer.{Answer}
use Rattle.stm_work.specs.declared.answer.Answer.TheVariants as answer
use Rattle.stm_work.specs.declared.content.Content.{Content}
use Rattle.stm_work.specs.declared.content.Content.TheVariants.{Placed, AtBase}
use Rattle.stm_work.specs.declared.failure.Failure.{Failure}
use Rattle.stm_work.specs.declared.failure.Failure.TheVariants.{Session}
use Rattle.stm_work.specs.Action.{Calls, DoesAction, HandsOn, Parts, PlacesFirst, told_undone}
use Rattle.stm_work.specs.Answer.{outcomes_told}
use Rattle.stm_work.specs.Conduct.{PromisesInfo, AsksThenGoesOn, RunsIfRoom, RunsTold}
use Rattle.stm_work.specs.Content.{ImageOn}
use Rattle.stm_work.specs.Reading.{ReadsPart, part_given, start_given, to_the_end}
use Rattle.stm_histories.specs.Histories.{ActionsAreHistories, CanAct, IdentifyingIsHistory, IsHistory, IsPartingRefused, StoppedActionsAreUndone, UnprotectedActionsAreUndone}

-- two histories, one after the other
leads-both : {R : Type 0} (view : R → RigState) (a b : List (Happening R)) (w : World) → AllLead view a w → AllLead view b (end_of a w) → AllLead view (a ++ b) w
leads-both view [] b w first next = next
leads-both view (x ∷ a) b w (leads, first) next = (leads, leads-both view a b x.after first next)

ends-both : {R : Type 0} (a b : List (Happening R)) (w : World) → end_of (a ++ b) w ≡ end_of b (end_of a w)
ends-both [] b w = refl
ends-both (x ∷ a) b w = ends-both a b x.after

oldest-both : {R : Type 0} (a b : List (Happening R)) (flash : List ℕ) → oldest_of (a ++ b) flash ≡ oldest_of b (oldest_of a flash)
oldest-both [] b flash = refl
oldest-both (x ∷ a) b flash = oldest-both a b (oldest_after x.event x.after flash)

same-make : (a b c : Device) → SameMake a b → SameMake b c → SameMake a c
same-make a b c first next = record { chip = next.chip ∙ first.chip; version = next.version ∙ first.version; codes = next.codes ∙ first.codes }

-- what a session promises
pub record Laws {R : Type 0} (view : R → RigState) : Type 0 where
  pub headline : Headline view
  pub whole : AllIsUndone view
  pub follows : EachCanFollow view
  pub told : OutcomesAreTheRun R Answer view

module _ {R : Type 0} (view : R → RigState) (laws : Laws view) where
  -- a history from a Rig, on which another can begin, to another such
  pub record Goes (old new : R) : Type 0 where
    pub is : IsHistory view old new
    pub later : List (List ℕ)
    pub start : IsStart later (now_of (view new))

  goes-nowhere : (starts : List (List ℕ)) (old new : R) → (view old).is_honest → IsStart starts (now_of (view old)) → new ≡ old → Goes old new
  goes-nowhere starts old new honest start same =
      let G : R → Type 0 = λ x. Goes old x in
      subst G (sym same) (record {
        is = record { history = []; leads = tt; ends = refl; oldest = λ flash. refl; make = record { chip = refl; version = refl; codes = refl }; honest = honest };
        later = starts;
        start = start;
      })

  -- one event
  goes-once : (event : Event R) (starts : List (List ℕ)) (old new : R) → IsStart starts (now_of (view old)) → Leads view event (now_of (view old)) (now_of (view new))
      → ((flash : List ℕ) → oldest_after event (now_of (view new)) flash ≡ flash) → (view new).is_honest → Goes old new
  goes-once event starts old new start leads oldest honest =
      record {
        is = record {
          history = record { event = event; after = now_of (view new) } ∷ [];
          leads = (leads, tt);
          ends = refl;
          oldest = oldest;
          make = (laws.follows event starts (now_of (view old)) (now_of (view new)) start leads).make;
          honest = honest;
        };
        later = starts_after event (now_of (view old)) (now_of (view new)) starts;
        start = (laws.headline (record { event = event; after = now_of (view new) } ∷ []) (now_of (view old)) starts start (leads, tt)).2;
      }

  goes-then : (a b c : R) → Goes a b → Goes b c → Goes a c
  goes-then a b c first next =
      let L : World → Type 0 = λ w. AllLead view next.is.history w in
      record {
        is = record {
          history = first.is.history ++ next.is.history;
          leads = leads-both view first.is.history next.is.history (now_of (view a)) first.is.leads (subst L (sym first.is.ends) next.is.leads);
          ends = ends-both first.is.history next.is.history (now_of (view a)) ∙ ap (λ w. end_of next.is.history w) first.is.ends ∙ next.is.ends;
          oldest = λ flash. oldest-both first.is.history next.is.history flash ∙ ap (λ f. oldest_of next.is.history f) (first.is.oldest flash) ∙ next.is.oldest flash;
          make = same-make (view a).device (view b).device (view c).device first.is.make next.is.make;
          honest = next.is.honest;
        };
        later = next.later;
        start = next.start;
      }

  -- a table knows a device of the same make
  knows-made : (table : List ChipData) (w w2 : World) → SameMake w.device w2.device → Knows table w → Knows table w2
  knows-made table w w2 make knows = let K : ChipData → Type 0 = λ c. IsNewId table c.id ⊎ IsChipWith table c.id c in subst K (sym make.chip) knows

  module _ (table : List ChipData) where
    -- where an action can go on
    record At (old : R) : Type 0 where
      starts : List (List ℕ)
      honest : (view old).is_honest
      start : IsStart starts (now_of (view old))
      knows : Knows table (now_of (view old))

    behind : (old mid : R) → At old → Goes old mid → At mid
    behind old mid at goes = record { starts = goes.later; honest = goes.is.honest; start = goes.start; knows = knows-made table (now_of (view old)) (now_of (view mid)) goes.is.make at.knows }

    told-goes : (commands : List CommandData) (old new : R) (result : Result Answer Fault) → At old → RunsTold table commands (view old) (view new) result → Goes old new
    told-goes commands old new result at runs =
        let event = ran table commands old new (told_by outcomes_told result) in
        let leads : Leads view event (now_of (view old)) (now_of (view new)) = ((at.honest, refl), at.knows, laws.told table commands old new result outcomes_told runs.promised, refl) in
        goes-once event at.starts old new at.start leads (λ flash. refl) (laws.follows event at.starts (now_of (view old)) (now_of (view new)) at.start leads).honest

    room-goes : (commands : List CommandData) (old new : R) (result : Result Answer Fault) → At old → RunsIfRoom view table commands old new result → Goes old new
    room-goes commands old new result at runs =
        ⊎_elim (λ told. told-goes commands old new result at told) (λ lacks. goes-nowhere at.starts old new at.honest at.start lacks.1) runs

    asks-goes : (old new : R) (told : Result Info Fault) → At old → PromisesInfo table (view old) (view new) told → Goes old new
    asks-goes old new told at asks =
        let event = informed table old new told in
        let leads : Leads view event (now_of (view old)) (now_of (view new)) = ((at.honest, refl), asks.promised, refl) in
        goes-once event at.starts old new at.start leads (λ flash. refl) (laws.follows event at.starts (now_of (view old)) (now_of (view new)) at.start leads).honest

    -- a step that asks first
    first-goes : {T E : Type 0} (fails : Fault → E) (Then : Info → R → R → Result T E → Type 0) (old new : R) (result : Result T E) → At old → AsksThenGoesOn view table fails Then old new result
        → ((told : Info) (mid : R) → At mid → Then told mid new result → Goes mid new) → Goes old new
    first-goes fails Then old new result at asks next = by-told asks.told (asks-goes old asks.mid asks.told at asks.asks) asks.goes_on
      where
        by-told : (told : Result Info Fault) → Goes old asks.mid → MatchResult told (λ info. Then info asks.mid new result) (λ fault. (new ≡ asks.mid) × (result ≡ Err (fails fault))) → Goes old new
        by-told (Ok info) goes then = goes-then old asks.mid new goes (next info asks.mid (behind old asks.mid at goes) then)
        by-told (Err fault) goes (same, failed) = let G : R → Type 0 = λ x. Goes old x in subst G (sym same) goes

    part-goes : (part : Option (ℕ × ℕ)) (old new : R) (result : Result Answer Fault) → At old → ReadsPart view table part old new result → Goes old new
    part-goes None old new result at (failed, same) = goes-nowhere at.starts old new at.honest at.start same
    part-goes (Some part) old new result at runs = told-goes _ old new result at runs

    range-goes : (range : Option Range) (old new : R) (result : Result Answer Fault) → At old → (part : Option (ℕ × ℕ))
        → MatchOption part (AsksThenGoesOn view table (λ fault. fault) (λ told. ReadsPart view table (to_the_end (start_given range) told.base told.size)) old new result) (λ part. ReadsPart view table (Some part) old new result)
        → Goes old new
    range-goes range old new result at None asks = first-goes (λ fault. fault) _ old new result at asks (λ told mid then done. part-goes _ mid new result then done)
    range-goes range old new result at (Some part) runs = part-goes (Some part) old new result at runs

    image-goes : (content : Content) (old new : R) (image : Result Pairs Failure) → At old → ImageOn view table content old new image → Goes old new
    image-goes (Placed own names) old new image at (said, same) = goes-nowhere at.starts old new at.honest at.start same
    image-goes (AtBase bytes names) old new image at asks =
        first-goes (λ fault. Session fault) _ old new image at asks (λ told mid then done. goes-nowhere then.starts mid new then.honest then.start done.0)

    -- a step that places its image first
    placed-goes : (content : Content) (Done : Pairs → R → R → Result Answer Fault → Type 0) (old new : R) (result : Result Answer Failure) → At old → PlacesFirst view table content Done old new result
        → ((image : Pairs) (mid : R) (said : Result Answer Fault) → At mid → Done image mid new said → Goes mid new) → Goes old new
    placed-goes content Done old new result at places next = by-image places.image (image-goes content old places.mid places.image at places.places) places.goes_on
      where
        by-image : (image : Result Pairs Failure) → Goes old places.mid
            → MatchResult image (λ image. Calls (λ said. said) (Done image) places.mid new result) (λ failure. (new ≡ places.mid) × (result ≡ Err failure)) → Goes old new
        by-image (Ok image) goes (said, done, hands) = goes-then old places.mid new goes (next image places.mid said (behind old places.mid at goes) done)
        by-image (Err failure) goes (same, failed) = let G : R → Type 0 = λ x. Goes old x in subst G (sym same) goes

    parts-goes : (turns : List Turn) (frame : List ℕ) (Allows : Device → Type 0) (old new : R) (parted : Result (Unit {0}) Fault) → At old → IsPartingRefused (view old).journal → Parts turns frame Allows (view old) (view new) parted
        → Goes old new
    parts-goes turns frame Allows old new parted at refused parts = by-refusal (open_refusal (journal_of (view old).journal)) refl refused
      where
        by-refusal : (o : Option Fault) → open_refusal (journal_of (view old).journal) ≡ o → IsSome o → Goes old new
        by-refusal None is some = absurd (cc)
        by-refusal (Some fault) is some =
            let refuses = parts.refused at.honest fault is in
            goes-once (left_refused fault old new parted) at.starts old new at.start ((at.honest, refl), is, refuses, refl) (λ flash. refl) refuses.honest

    does-goes : (does : Action) (old new : R) (result : Result Answer Failure) (at : At old) → CanAct view table at.starts does old → DoesAction view table does old new result → Goes old new
    does-goes action.Info old new result at can (said, asks, hands) = asks-goes old new said at asks
    does-goes (action.Read range) old new result at can (said, reads, hands) = range-goes range old new said at (part_given range) reads
    does-goes (action.Write content) old new result at can places =
        placed-goes content _ old new result at places (λ image mid said then done. told-goes (writes image ∷ []) mid new said then done)
    does-goes (action.WriteAndVerify content) old new result at can places =
        placed-goes content _ old new result at places (λ image mid said then done. told-goes (written_then image done.part) mid new said then done.runs)
    does-goes (action.Verify content) old new result at can places =
        placed-goes content _ old new result at places (λ image mid said then done. told-goes (verifies image ∷ []) mid new said then done)
    does-goes (action.Erase pages) old new result at can (said, runs, hands) = told-goes _ old new said at runs
    does-goes action.EraseAll old new result at can (said, asks, hands) =
        first-goes (λ fault. fault) _ old new said at asks (λ told mid then done. room-goes _ mid new said then done)
    does-goes (action.Undo count) old new result at can (said, takes, hands) =
        let event = undid table count old new said in
        let leads : Leads view event (now_of (view old)) (now_of (view new)) = ((at.honest, refl), at.knows, takes.promised, refl) in
        goes-once event at.starts old new at.start leads (λ flash. refl) (laws.follows event at.starts (now_of (view old)) (now_of (view new)) at.start leads).honest
    does-goes (action.UndoVerified count) old new result at can (said, takes, hands) =
        let event = undid table count old new (segments_of said) in
        let leads : Leads view event (now_of (view old)) (now_of (view new)) = ((at.honest, refl), at.knows, takes.promised, refl) in
        goes-once event at.starts old new at.start leads (λ flash. refl) (laws.follows event at.starts (now_of (view old)) (now_of (view new)) at.start leads).honest
    does-goes (action.Go address) old new result at can (said, goes, hands) = parts-goes _ _ _ old new said at can.stays goes.parts
    does-goes (action.Protect kind) old new result at can (said, parts, hands) = parts-goes _ _ _ old new said at can.stays parts
    does-goes action.UnprotectFresh old new result at can done = absurd can.stays
    does-goes action.UnprotectBegun old new result at can done = absurd can.stays

  pub actions-are-histories : ActionsAreHistories R view
  actions-are-histories table starts does old new result can done =
      (does-goes table does old new result (record { starts = starts; honest = can.honest; start = can.start; knows = can.knows }) can done).is

  pub identifying-is-history : IdentifyingIsHistory R view
  identifying-is-history table starts old new result honest start (said, asks, hands) =
      let event = identified old new said in
      let leads : Leads view event (now_of (view old)) (now_of (view new)) = ((honest, refl), asks.promised, refl) in
      (goes-once event starts old new start leads (λ flash. refl) (laws.follows event starts (now_of (view old)) (now_of (view new)) start leads).honest).is

  -- an action, events behind it that give no way back up, and an undo of everything that answers Ok
  undone-behind : (table : List ChipData) (starts : List (List ℕ)) (does : Action) (first mid again last : R) (said : Result Answer Failure) (told : Answer) (after : List (Happening R))
      → CanAct view table starts does first → DoesAction view table does first mid said → AllLead view after (now_of (view mid)) → end_of after (now_of (view mid)) ≡ now_of (view again)
      → ((flash : List ℕ) → oldest_of after flash ≡ flash) → SameMake (view mid).device (view again).device → (view again).is_honest → DoesAction view table (action.Undo 0) again last (Ok told)
      → (view last).device.flash ≡ oldest_start starts (now_of (view first))
  undone-behind table starts does first mid again last said told after can done next stands kept made honest (undone, takes, hands) =
      by-answer undone takes.promised hands
    where
      is : IsHistory view first mid
      is = actions-are-histories table starts does first mid said can done

      start : World
      start = now_of (view first)

      leads : AllLead view (is.history ++ after) start
      leads = let L : World → Type 0 = λ x. AllLead view after x in leads-both view is.history after start is.leads (subst L (sym is.ends) next)

      ends : end_of (is.history ++ after) start ≡ now_of (view again)
      ends = ends-both is.history after start ∙ ap (λ (w : World). end_of after w) is.ends ∙ stands

      make : SameMake start.device (view again).device
      make = same-make start.device (view mid).device (view again).device is.make made

      knows : Knows table (end_of (is.history ++ after) start)
      knows = let K : World → Type 0 = λ x. Knows table x in subst K (sym ends) (knows-made table start (now_of (view again)) make can.knows)

      by-answer : (u : Result ℕ Fault) → UndoContract table 0 (view again) (view last) u → HandsOn told_undone u (Ok told) → (view last).device.flash ≡ oldest_start starts start
      by-answer (Err fault) contract hands = absurd (cc)
      by-answer (Ok n) contract hands =
          (laws.whole (is.history ++ after) start starts can.start leads table again last n (now_of (view last)) ((honest, sym ends), knows, contract, refl)).0
          ∙ oldest-both is.history after (oldest_start starts start) ∙ kept (oldest_of is.history (oldest_start starts start)) ∙ is.oldest (oldest_start starts start)

  pub stopped-actions-are-undone : StoppedActionsAreUndone R view
  stopped-actions-are-undone table starts does first mid again last said told w can done loses owed honest undoes =
      let after : List (Happening R) = record { event = lost_power; after = w } ∷ record { event = lost_owed; after = now_of (view again) } ∷ [] in
      undone-behind table starts does first mid again last said told after can done (loses, (owed, tt)) refl (λ flash. refl)
      (same-make (view mid).device w.device (view again).device loses.0.make
      (record { chip = ap (λ (d : Device). d.chip) owed.0.1; version = ap (λ (d : Device). d.version) owed.0.1; codes = ap (λ (d : Device). d.codes) owed.0.1 }))
      honest undoes

  pub unprotected-actions-are-undone : UnprotectedActionsAreUndone R view
  unprotected-actions-are-undone table starts does first mid before left again last said cleared told can done resets fresh (parted, unprotects, hands) follows same honest undoes =
      let after : List (Happening R) = record { event = was_reset; after = now_of (view before) } ∷ record { event = unprotected before left parted; after = now_of (view again) } ∷ [] in
      let I : World → Type 0 = λ w. IsReset w.device in
      let is_reset : IsReset (view before).device = subst I (sym resets) (record { phase = refl; owed = refl }) in
      undone-behind table starts does first mid again last said told after can done (resets, (((fresh, refl), is_reset, unprotects.promised, follows, same), tt)) refl (λ flash. refl)
      (record {
        chip = ap (λ (d : Device). d.chip) follows.is_reset ∙ ap (λ (w : World). w.device.chip) resets;
        version = ap (λ (d : Device). d.version) follows.is_reset ∙ ap (λ (w : World). w.device.version) resets;
        codes = ap (λ (d : Device). d.codes) follows.is_reset ∙ ap (λ (w : World). w.device.codes) resets;
      })
      honest undoes
