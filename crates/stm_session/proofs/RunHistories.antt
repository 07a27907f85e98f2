-- What a run leaves, wherever it is stopped, follows from its contract.
use Rattle.std.proofs.Common.{◌≡◌, ◌≤◌, ◌+◌, ◌==◌, ◌||◌, ◌⊎◌, nat_lt, ℕ, suc, Bool, true, false, not, List, [], ◌∷◌, ◌++◌, length, take, reverse, Option, Some, None, Result, Ok, refl, sym, ◌∙◌, ap, subst, arith, ⊎_elim, length-append, if◌then◌else◌, length-take}
use Rattle.std.proofs.lemmas.List.{length-reverse}
use Rattle.std.proofs.lemmas.Bool.{cases_Bool}
use Rattle.stm_wire.proofs.Names.{ChipData, Device, LosesOwed, reset, RigState}
use Rattle.stm_chip.specs.Document.{IsChipWith, IsNewId}
use Rattle.stm_journal.proofs.Names.{flashes_before_segments, good, IsSound, IsUntouched, journal_of, JournalData, SegmentData, StateData, with_kept_pages}
use Rattle.stm_session.proofs.Names.{AmidRun, before_if, changes_of, CommandData, depth_at, Fault, FinishedLosesNothing, flash_after, flash_after_all, flashes_before, grown, is_change}
use Rattle.stm_session.proofs.Names.{is_unfinished_at, IsSafe, IsUnbegun, Knows, now_of, OutcomeData, PowerLossKeepsFlashes, refused_unless, run_refusal, RunContract, RunHolds, RunLeaves, SameMake}
use Rattle.stm_session.proofs.Names.{standing_commands, standing_in, starts_of_run, state_at, Stops, taken_count, themselves, Undoable, unsent_refusal, World}
use Rattle.stm_session.specs.declared.fault.Fault.TheVariants as faults
use Rattle.stm_session.proofs.Openings.{lacks_chip}

length-flashes : (chip : ChipData) (stack : List SegmentData) (flash : List ℕ) → length (flashes_before_segments chip stack flash) ≡ length stack
length-flashes chip [] flash = refl
length-flashes chip (segment ∷ below) flash = ap suc (length-flashes chip below (with_kept_pages chip segment flash))

length-before_if : (b : Bool) (flash : List ℕ) (c : CommandData) (flashes : List (List ℕ)) (commands : List CommandData) → length flashes ≡ length commands
    → length (before_if b flash flashes) ≡ length (if b then c ∷ commands else commands)
length-before_if true flash c flashes commands e = ap suc e
length-before_if false flash c flashes commands e = e

pub length-before : (chip : ChipData) (flash : List ℕ) (commands : List CommandData) → length (flashes_before chip flash commands) ≡ length (changes_of commands)
length-before chip flash [] = refl
length-before chip flash (c ∷ commands) = length-before_if (is_change c) flash c (flashes_before chip (flash_after chip flash c) commands) (changes_of commands) (length-before chip (flash_after chip flash c) commands)

pub depth-is : (flashes : List (List ℕ)) (d : Device) (journal : List ℕ) → Undoable flashes d journal → depth_at journal ≡ length flashes
depth-is flashes d journal u = sym (length-flashes d.chip (state_at journal).stack d.flash) ∙ ap length u.keeps

length-added : (n : ℕ) (hs fs : List (List ℕ)) → n ≤ length hs → length (reverse (take n hs) ++ fs) ≡ n + length fs
length-added n hs fs le = length-append (reverse (take n hs)) fs ∙ ap (λ k. k + length fs) (length-reverse (take n hs)) ∙ omega (arith, le, length-take n hs)

pub taken-within : (count below : ℕ) → taken_count count below ≤ below
taken-within count below = chosen (count == 0) (nat_lt below count) refl
  where
    not-above : nat_lt below count ≡ false → count ≤ below
    not-above e = grind (arith, e)

    chosen : (a b : Bool) → nat_lt below count ≡ b → (if a || b then below else count) ≤ below
    chosen true b e = omega arith
    chosen false true e = omega arith
    chosen false false e = not-above e

-- what the layers below promise
pub record Laws : Type 0 where
  pub loses : (flashes : List (List ℕ)) (d e : Device) (journal : List ℕ) → Undoable flashes d journal → LosesOwed d e → Undoable flashes e journal
  pub resets : (flashes : List (List ℕ)) (d : Device) (journal : List ℕ) → Undoable flashes d journal → Undoable flashes (reset d) journal
  pub loses_power : PowerLossKeepsFlashes
  pub loses_nothing : FinishedLosesNothing
  pub safe : (flashes : List (List ℕ)) (d : Device) (journal : List ℕ) → Undoable flashes d journal → is_unfinished_at journal ≡ false → IsSafe d
  pub unbegun : (flashes : List (List ℕ)) (old d : Device) (journal : List ℕ) → Undoable flashes old journal → is_unfinished_at journal ≡ false
      → SameMake old d → d.flash ≡ old.flash → IsSafe d → Undoable flashes d journal
  pub empties : (d : Device) → IsSafe d → Undoable [] d []
  pub sound : (bytes : List ℕ) (s : StateData) → journal_of bytes ≡ good s → IsSound s

-- a device that lost owed bytes is of the same make
pub lost-make : (d e : Device) → LosesOwed d e → SameMake d e
lost-make d e (n, lost) =
    record { chip = ap (λ (x : Device). x.chip) lost; version = ap (λ (x : Device). x.version) lost; codes = ap (λ (x : Device). x.codes) lost }

module _ (laws : Laws) where
  pub untouched-keeps : (flashes : List (List ℕ)) (old : RigState) (d : Device) (journal : List ℕ) → Undoable flashes old.device old.journal → IsUntouched old d journal → Undoable flashes d journal
  untouched-keeps flashes old d journal u left =
      let U : List ℕ → Type 0 = λ j. Undoable flashes d j in
      subst U (sym left.0) (laws.loses flashes old.device d old.journal u left.1)

  pub unbegun-keeps : (flashes : List (List ℕ)) (old : RigState) (d : Device) (journal : List ℕ) → is_unfinished_at old.journal ≡ false → Undoable flashes old.device old.journal → IsUnbegun old d journal → Undoable flashes d journal
  unbegun-keeps flashes old d journal over u b =
      let U : List ℕ → Type 0 = λ j. Undoable flashes d j in
      subst U (sym b.journal_same) (laws.unbegun flashes old.device d old.journal u over b.make b.flash b.safe)

  pub waits : (old : RigState) → journal_of old.journal ≡ good (state_at old.journal) → is_unfinished_at old.journal ≡ true → unsent_refusal (journal_of old.journal) ≡ Some faults.Unfinished
  waits old is_good e = ap unsent_refusal is_good ∙ ap (λ (b : Bool). refused_unless (not b) faults.Unfinished) e

  pub goes-on : (old : RigState) → journal_of old.journal ≡ good (state_at old.journal) → is_unfinished_at old.journal ≡ false → unsent_refusal (journal_of old.journal) ≡ None
  goes-on old is_good e = ap unsent_refusal is_good ∙ ap (λ (b : Bool). refused_unless (not b) faults.Unfinished) e

  -- what a run leaves at any moment
  pub record RunLeft (commands : List CommandData) (flashes : List (List ℕ)) (s t : World) : Type 0 where
    pub begun : ℕ
    pub within : begun ≤ length (changes_of (standing_in s commands))
    pub make : SameMake s.device t.device
    pub undoable : Undoable (reverse (take begun (flashes_before s.device.chip s.device.flash (standing_in s commands))) ++ flashes) t.device t.journal
    pub finished : is_unfinished_at t.journal ≡ false → t.device.flash ≡ flash_after_all s.device.chip s.device.flash (take begun (changes_of (standing_in s commands)))

  run-unbegun : (commands : List CommandData) (flashes : List (List ℕ)) (s t : World) → SameMake s.device t.device → Undoable flashes t.device t.journal → (is_unfinished_at t.journal ≡ false → t.device.flash ≡ s.device.flash) → RunLeft commands flashes s t
  run-unbegun commands flashes s t make u flash = record { begun = 0; within = omega arith; make = make; undoable = u; finished = flash }

  amid-left : (commands : List CommandData) (flashes : List (List ℕ)) (old : RigState) (t : World) → AmidRun (standing_commands old commands) flashes old t.device t.journal → RunLeft commands flashes (now_of old) t
  amid-left commands flashes old t amid = record { begun = amid.begun; within = amid.within; make = amid.make; undoable = amid.undoable; finished = amid.finished }

  untouched-left : (commands : List CommandData) (flashes : List (List ℕ)) (old : RigState) (t : World) → Undoable flashes old.device old.journal → IsUntouched old t.device t.journal → RunLeft commands flashes (now_of old) t
  untouched-left commands flashes old t u same =
      run-unbegun commands flashes (now_of old) t (lost-make old.device t.device same.1) (untouched-keeps flashes old t.device t.journal u same) (λ e. ap (λ (d : Device). d.flash) same.1.1)

  unbegun-left : (commands : List CommandData) (flashes : List (List ℕ)) (old : RigState) (t : World) → is_unfinished_at old.journal ≡ false → Undoable flashes old.device old.journal → IsUnbegun old t.device t.journal → RunLeft commands flashes (now_of old) t
  unbegun-left commands flashes old t over u b = run-unbegun commands flashes (now_of old) t b.make (unbegun-keeps flashes old t.device t.journal over u b) (λ e. b.flash)

  -- where a run is refused nothing, the table holds the device's chip
  held-chip : (table : List ChipData) (commands : List CommandData) (flashes : List (List ℕ)) (d : Device) (journal : List ℕ) → Undoable flashes d journal → is_unfinished_at journal ≡ false
      → IsNewId table d.chip.id ⊎ IsChipWith table d.chip.id d.chip → run_refusal (journal_of journal) d table commands ≡ None → IsChipWith table d.chip.id d.chip
  held-chip table commands flashes d journal u finished knows none =
      ⊎_elim
      (λ new_id.
      let said : run_refusal (journal_of journal) d table commands ≡ Some (faults.UnknownChip d.chip.id) =
      ap (λ (j : JournalData). run_refusal j d table commands) u.good_journal ∙ rw (finished, u.own, lacks_chip table d.chip.id new_id) refl in
      absurd (let h : None ≡ Some (faults.UnknownChip d.chip.id) = sym none ∙ said in cc))
      (λ is. is) knows

  module _ (table : List ChipData) where
    module _ (commands : List CommandData) (flashes : List (List ℕ)) (old new : RigState) (result : Result (List OutcomeData) Fault) (honest : old.is_honest)
        (u : Undoable flashes old.device old.journal) (knows : Knows table (now_of old)) (contract : RunContract table commands old new result themselves) where
      -- what a stop leaves, and what the return leaves
      run-checked : is_unfinished_at old.journal ≡ false → (o : Option Fault) → run_refusal (journal_of old.journal) old.device table commands ≡ o
          → ((t : World) → Stops old new t → RunLeft commands flashes (now_of old) t) × RunLeft commands flashes (now_of old) (now_of new)
      run-checked over None is =
          let runs = contract.runs honest flashes u (held-chip table commands flashes old.device old.journal u over knows is) is in
          (λ t left. amid-left commands flashes old t (runs.moments.each t.device t.journal left), amid-left commands flashes old (now_of new) runs.left)
      run-checked over (Some r) is =
          let refused = contract.refused honest (laws.safe flashes old.device old.journal u over) r is in
          (λ t left. unbegun-left commands flashes old t over u (refused.moments.each t.device t.journal left), unbegun-left commands flashes old (now_of new) over u refused.left)

      pub run-left : ((t : World) → Stops old new t → RunLeft commands flashes (now_of old) t) × RunLeft commands flashes (now_of old) (now_of new)
      run-left =
          ⊎_elim
          (λ still_open.
          let unsent = contract.unsent honest faults.Unfinished (waits old u.good_journal still_open) in
          (λ t left. untouched-left commands flashes old t u (unsent.moments.each t.device t.journal left), untouched-left commands flashes old (now_of new) u unsent.left))
          (λ over. run-checked over (run_refusal (journal_of old.journal) old.device table commands) refl)
          (cases_Bool (is_unfinished_at old.journal))

    module _ (commands : List CommandData) (flashes : List (List ℕ)) (old new : RigState) (result : Result (List OutcomeData) Fault) (honest : old.is_honest)
        (u : Undoable flashes old.device old.journal) (knows : Knows table (now_of old)) (contract : RunContract table commands old new result themselves) where
      honest-checked : is_unfinished_at old.journal ≡ false → (o : Option Fault) → run_refusal (journal_of old.journal) old.device table commands ≡ o → new.is_honest
      honest-checked over None is = (contract.runs honest flashes u (held-chip table commands flashes old.device old.journal u over knows is) is).honest
      honest-checked over (Some r) is = (contract.refused honest (laws.safe flashes old.device old.journal u over) r is).honest

      -- another call can begin on the Rig
      pub run-honest : new.is_honest
      run-honest =
          ⊎_elim (λ still_open. (contract.unsent honest faults.Unfinished (waits old u.good_journal still_open)).honest)
          (λ over. honest-checked over (run_refusal (journal_of old.journal) old.device table commands) refl)
          (cases_Bool (is_unfinished_at old.journal))

    run-succeeds : (commands : List CommandData) (flashes : List (List ℕ)) (old new : RigState) (outcomes : List OutcomeData) → old.is_honest → Undoable flashes old.device old.journal → Knows table (now_of old)
        → RunContract table commands old new (Ok outcomes) themselves → is_unfinished_at old.journal ≡ false
        → (o : Option Fault) → run_refusal (journal_of old.journal) old.device table commands ≡ o → RunHolds commands (now_of old) (now_of new)
    run-succeeds commands flashes old new outcomes honest u knows contract over None is =
        let done = (contract.runs honest flashes u (held-chip table commands flashes old.device old.journal u over knows is) is).done in
        record {
          flash = done.flash;
          finished = done.finished;
          segments = depth-is (reverse (flashes_before old.device.chip old.device.flash commands) ++ flashes) new.device new.journal done.undoable
              ∙ omega (
                arith,
                depth-is flashes old.device old.journal u,
                length-append (reverse (flashes_before old.device.chip old.device.flash commands)) flashes,
                length-reverse (flashes_before old.device.chip old.device.flash commands),
                length-before old.device.chip old.device.flash commands,
              );
        }
    run-succeeds commands flashes old new outcomes honest u knows contract over (Some r) is =
        absurd (contract.refused honest (laws.safe flashes old.device old.journal u over) r is).answers

    pub run-holds : (commands : List CommandData) (flashes : List (List ℕ)) (old new : RigState) (outcomes : List OutcomeData) → old.is_honest → Undoable flashes old.device old.journal → Knows table (now_of old)
        → RunContract table commands old new (Ok outcomes) themselves → RunHolds commands (now_of old) (now_of new)
    run-holds commands flashes old new outcomes honest u knows contract =
        ⊎_elim
        (λ still_open. absurd (contract.unsent honest faults.Unfinished (waits old u.good_journal still_open)).answers)
        (λ over. run-succeeds commands flashes old new outcomes honest u knows contract over (run_refusal (journal_of old.journal) old.device table commands) refl)
        (cases_Bool (is_unfinished_at old.journal))

    pub run-begun : (commands : List CommandData) (flashes : List (List ℕ)) (s t : World) → Undoable flashes s.device s.journal → (left : RunLeft commands flashes s t) → grown s t ≡ left.begun
    run-begun commands flashes s t u left =
        let hs = flashes_before s.device.chip s.device.flash (standing_in s commands) in
        omega (
          arith,
          depth-is flashes s.device s.journal u,
          depth-is (reverse (take left.begun hs) ++ flashes) t.device t.journal left.undoable,
          length-added left.begun hs flashes (omega (arith, left.within, length-before s.device.chip s.device.flash (standing_in s commands))),
        )

    pub run-leaves : (commands : List CommandData) (flashes : List (List ℕ)) (s t : World) → Undoable flashes s.device s.journal → RunLeft commands flashes s t → RunLeaves commands s t
    run-leaves commands flashes s t u left e =
        left.finished e ∙ ap (λ (n : ℕ). flash_after_all s.device.chip s.device.flash (take n (changes_of (standing_in s commands)))) (sym (run-begun commands flashes s t u left))

    pub run-starts : (commands : List CommandData) (flashes : List (List ℕ)) (s t : World) → Undoable flashes s.device s.journal → RunLeft commands flashes s t → Undoable (starts_of_run commands s t flashes) t.device t.journal
    run-starts commands flashes s t u left =
        let U : ℕ → Type 0 = λ n. Undoable (reverse (take n (flashes_before s.device.chip s.device.flash (standing_in s commands))) ++ flashes) t.device t.journal in
        subst U (sym (run-begun commands flashes s t u left)) left.undoable
