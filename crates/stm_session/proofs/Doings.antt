-- One command: a change of the flash, or questions.
use Rattle.std.proofs.Common.{◌≡◌, inl, inr, ℕ, ◌+◌, Bool, true, false, List, [], Result, Ok, Err, IsErrAnd, refl, sym, ap, ◌∙◌, subst}
use Rattle.stm_wire.proofs.Names.{ChipData, Device, IsSettled, LeavesOnly, RigState}
use Rattle.stm_wire.specs.lemmas.MomentLaws.{weaker}
use Rattle.stm_journal.specs.declared.entry.Entry.{Entry}
use Rattle.stm_journal.proofs.Names.{IsLoaded, Loaded}
use Rattle.stm_session.proofs.Names.{AddsLines, AmidCommand, AmidOne, answer_on, Asks, before_if, Changes, command_lines, CommandData, depth_at, DoesCommand, Fault, flash_after, flash_left, is_change}
use Rattle.stm_session.proofs.Names.{is_named_at, IsOutsideFault, IsSteady, IsStill, KeepsFlashes, lines_if, OutcomeData, segment_entries, state_at, StepLaws}
use Rattle.stm_session.specs.declared.fault.Fault.TheVariants as faults
use Rattle.stm_session.proofs.Commandings.{changes_as}
use Rattle.stm_session.proofs.Standing.{still_stands}
use Rattle.stm_session.proofs.Texts.{adds_none}
use Rattle.stm_session.proofs.Whole.{same-after}

-- what still holds after questions
module _ (flashes : List (List ℕ)) (l : Loaded) (old new : RigState) (steady : IsSteady flashes l old) where
  pub steady_still : new.is_honest → new.journal ≡ old.journal → new.device ≡ old.device → IsSteady flashes l new
  steady_still honest journal device =
      let L : List ℕ → Type 0 = λ j. IsLoaded l j in
      let S : Device → Type 0 = λ d. IsSettled d in
      let K : List ℕ → Type 0 = λ j. KeepsFlashes flashes old.device (state_at j) in
      let D : Device → Type 0 = λ d. KeepsFlashes flashes d (state_at new.journal) in
      record {
        honest = honest;
        loaded = subst L (sym journal) steady.loaded;
        settled = subst S (sym device) steady.settled;
        keeps = subst D (sym device) (subst K (sym journal) steady.keeps);
      }

-- a change of the flash
module _ (flashes : List (List ℕ)) (c : CommandData) (l2 : Loaded) (old new : RigState) (change : is_change c ≡ true) where
  amid_change : (d : Device) (journal : List ℕ) → AmidCommand (command_lines old c) flashes (flash_left old c) old d journal → AmidOne (is_change c) (command_lines old c) flashes (flash_left old c) old d journal
  amid_change d journal m = let A : Bool → Type 0 = λ b. AmidOne b (command_lines old c) flashes (flash_left old c) old d journal in subst A (sym change) m

  pub change_does : {T U : Type 0} {Done : T → Type 0} (outcome_in : U → OutcomeData) (x : T) (y : U) → Changes flashes (command_lines old c) (flash_left old c) l2 old new (Ok x) Done → new.device.flash ≡ flash_left old c → answer_on old c ≡ Ok (outcome_in y)
      → DoesCommand flashes c l2 old new (Ok y) outcome_in
  change_does outcome_in x y changes flash answer =
      let S : Bool → Type 0 = λ b. IsSteady (before_if b old.device.flash flashes) l2 new in
      record {
        moments = weaker (AmidCommand (command_lines old c) flashes (flash_left old c) old) (AmidOne (is_change c) (command_lines old c) flashes (flash_left old c) old) old new changes.moments amid_change;
        honest = changes.honest;
        fails = tt;
        steady = subst S (sym change) changes.steady;
        lines = changes.lines;
        flash = flash;
        answer = answer;
      }

  pub change_fails : {T U : Type 0} {Done : T → Type 0} (outcome_in : U → OutcomeData) (l3 : Loaded) (e : Fault) (result : Result U Fault) → Changes flashes (command_lines old c) (flash_left old c) l2 old new (Err e) Done → IsErrAnd result (λ z. z ≡ e) → DoesCommand flashes c l3 old new result outcome_in
  change_fails outcome_in l3 e (Ok y) changes is = absurd is
  change_fails outcome_in l3 e (Err y) changes is =
      record {
        moments = weaker (AmidCommand (command_lines old c) flashes (flash_left old c) old) (AmidOne (is_change c) (command_lines old c) flashes (flash_left old c) old) old new changes.moments amid_change;
        honest = changes.honest;
        fails = inl (subst IsOutsideFault (sym is) changes.fails);
        steady = tt;
        lines = tt;
        flash = tt;
        answer = tt;
      }

-- the same change, whose lines and flash are told of the chip by another name
pub change_of_chip : {T : Type 0} {Done : T → Type 0} (flashes : List (List ℕ)) (c : CommandData) (chip : ChipData) (l2 : Loaded) (old new : RigState) (result : Result T Fault) → is_change c ≡ true → old.device.chip ≡ chip
    → Changes flashes (segment_entries (is_named_at old.journal) chip (depth_at old.journal + 1) old.device.flash (flash_after chip old.device.flash c)) (flash_after chip old.device.flash c) l2 old new result Done
    → Changes flashes (command_lines old c) (flash_left old c) l2 old new result Done
change_of_chip {T} {Done} flashes c chip l2 old new result change chip_is changes =
    let k = depth_at old.journal + 1 in
    let of : ChipData → List Entry = λ x. segment_entries (is_named_at old.journal) x k old.device.flash (flash_after x old.device.flash c) in
    let C : ChipData → Type 0 = λ x. Changes {T = T} flashes (of x) (flash_after x old.device.flash c) l2 old new result Done in
    changes_as flashes (of old.device.chip) (command_lines old c) (flash_left old c) l2 old new result (ap (λ (b : Bool). lines_if b (of old.device.chip)) (sym change)) (subst C (sym chip_is) changes)

-- questions
module _ (laws : StepLaws) (flashes : List (List ℕ)) (c : CommandData) (l : Loaded) (old new : RigState) (asks_only : is_change c ≡ false) (steady : IsSteady flashes l old) where
  no_lines : [] ≡ command_lines old c
  no_lines = ap (λ (b : Bool). lines_if b (segment_entries (is_named_at old.journal) old.device.chip (depth_at old.journal + 1) old.device.flash (flash_left old c))) (sym asks_only)

  same_flash_left : flash_left old c ≡ old.device.flash
  same_flash_left = same-after old.device.chip old.device.flash c asks_only

  amid_still : (d : Device) (journal : List ℕ) → IsStill old d journal → AmidOne (is_change c) (command_lines old c) flashes (flash_left old c) old d journal
  amid_still d journal still =
      let A : Bool → Type 0 = λ b. AmidOne b (command_lines old c) flashes (flash_left old c) old d journal in
      subst A (sym asks_only) (still_stands laws (command_lines old c) flashes l old steady d journal still)

  moments_still : LeavesOnly (IsStill old) old new → LeavesOnly (AmidOne (is_change c) (command_lines old c) flashes (flash_left old c) old) old new
  moments_still moments = weaker (IsStill old) (AmidOne (is_change c) (command_lines old c) flashes (flash_left old c) old) old new moments amid_still

  pub asks_does : {T U : Type 0} {Done : T → Type 0} (outcome_in : U → OutcomeData) (x : T) (y : U) → Asks old new (Ok x) Done → answer_on old c ≡ Ok (outcome_in y) → DoesCommand flashes c l old new (Ok y) outcome_in
  asks_does outcome_in x y asks answer =
      let S : Bool → Type 0 = λ b. IsSteady (before_if b old.device.flash flashes) l new in
      let A : List Entry → Type 0 = λ es. AddsLines es old.journal new.journal in
      let J : List ℕ → Type 0 = λ j. AddsLines [] old.journal j in
      record {
        moments = moments_still asks.moments;
        honest = asks.honest;
        fails = tt;
        steady = subst S (sym asks_only) (steady_still flashes l old new steady asks.honest asks.left.journal_same asks.same);
        lines = subst A no_lines (subst J (sym asks.left.journal_same) (adds_none old.journal));
        flash = asks.left.flash ∙ sym same_flash_left;
        answer = answer;
      }

  pub asks_fails : {T U : Type 0} {Done : T → Type 0} (outcome_in : U → OutcomeData) (l3 : Loaded) (e : Fault) (result : Result U Fault) → Asks old new (Err e) Done → IsErrAnd result (λ z. z ≡ e) → DoesCommand flashes c l3 old new result outcome_in
  asks_fails outcome_in l3 e (Ok y) asks is = absurd is
  asks_fails outcome_in l3 e (Err y) asks is =
      record { moments = moments_still asks.moments; honest = asks.honest; fails = inl (subst IsOutsideFault (sym is) asks.fails); steady = tt; lines = tt; flash = tt; answer = tt }

  -- a verify whose image differs
  pub asks_differs : {T U : Type 0} {Done : T → Type 0} (outcome_in : U → OutcomeData) (l3 : Loaded) (x : T) (address : ℕ) → Asks old new (Ok x) Done → answer_on old c ≡ Err address → DoesCommand flashes c l3 old new (Err (faults.Differs address)) outcome_in
  asks_differs outcome_in l3 x address asks answer =
      record {
        moments = moments_still asks.moments;
        honest = asks.honest;
        fails = inr (record { address = address; is = refl; answer = answer; journal_same = asks.left.journal_same; device_same = asks.same });
        steady = tt;
        lines = tt;
        flash = tt;
        answer = tt;
      }
