-- A whole call of the program, in which the device may be asked first which board it is.
use Rattle.std.proofs.Common.{◌≡◌, ◌≢◌, ℕ, Bool, true, false, List, Option, Some, None, Result, Ok}
use Rattle.std.proofs.Common.{Err, MatchResult, if◌then◌else◌, is_some, refl, sym, ◌∙◌, ap, subst}
use Rattle.std.proofs.Common.{⊎_elim}
use Rattle.std.specs.Borrow.{Bor}
use Rattle.std.specs.declared.alloc.AllocError.{AllocError}
use Rattle.std.proofs.lemmas.List.Elements.{All-contains}
use Rattle.stm_wire.proofs.Names.{ChipData, Device, RigState}
use Rattle.stm_chip.specs.Document.{IsChipWith, IsNewId}
use Rattle.stm_journal.specs.declared.fault.JournalFault.{JournalFault}
use Rattle.stm_journal.proofs.Names.{is_unfinished, Loaded, Loads}
use Rattle.stm_session.proofs.Names.{AsksWhich, chip_of_board, fault_of_journal, is_unfinished_at, IsBoardOf, IsSafe, ToldBoardIsTheDevices}
use Rattle.stm_session.specs.declared.asking_board.Board.{Board}
use Rattle.stm_session.specs.declared.fault.Fault.{Fault}
use Rattle.stm_session.specs.declared.fault.Fault.TheVariants.{Unfinished}
use Rattle.stm_words.specs.declared.sequel.Sequel.{Sequel}
use Rattle.stm_work.specs.declared.action.Action.TheVariants as action
use Rattle.stm_work.specs.declared.board.Asking.{Asking}
use Rattle.stm_work.specs.declared.board.Asking.TheVariants.{OfBegun, OfClosed, OfFinished}
use Rattle.stm_work.specs.declared.board.Due.{Due}
use Rattle.stm_work.specs.declared.board.Due.TheVariants.{Asked, Not, OfNamed}
use Rattle.stm_work.specs.declared.board.Question.{Question}
use Rattle.stm_work.specs.declared.content.Content.{Content}
use Rattle.stm_work.specs.declared.failure.Failure.{Failure}
use Rattle.stm_work.specs.declared.failure.Failure.TheVariants.{Memory, Session}
use Rattle.stm_work.specs.declared.steps.Steps.{Steps}
use Rattle.stm_work.specs.declared.work.Work.{Work}
use Rattle.stm_work.specs.declared.work.Work.TheVariants as work
use Rattle.stm_work.specs.Board.{Allows, AsksAndAllows, AsksFirst, AsksIf, IsDue, IsOfBoard}
use Rattle.stm_work.specs.Board.{asking_if, due_beside}
use Rattle.stm_work.specs.OneCall.{CallsEndAsAsked, CanCall, EndsAsAsked}
use Rattle.stm_work.specs.WholeCalls.{CanAsk, SuitsBoard, WholeCallsEndAsAsked, WritesAsAsked}
use Rattle.stm_work.specs.Steps.{TakesAsked, TakesKnown, TakesSteps, TakesTold}

-- answers
abbrev okay : Steps → Result Steps Failure
okay steps = Ok steps

abbrev due-said : Due → Result Due Fault
due-said is = Ok is

-- beside a finished journal, where it is said at all, the device is asked
asked-due : (is_wanted : Bool) (due : Due) (journal : Result Loaded JournalFault)
    → MatchResult journal (λ l. due-said due ≡ due_beside OfFinished is_wanted l.state)
    (λ fault. due-said due ≡ Err (fault_of_journal fault)) → due ≡ Asked
asked-due is_wanted due (Err fault) e = absurd (cc)
asked-due is_wanted due (Ok l) e = by-state (is_unfinished l.state) e
  where
    by-state : (b : Bool) → due-said due ≡ (if b then Err Unfinished else due-said Asked)
        → due ≡ Asked
    by-state true e = absurd (cc)
    by-state false e = cc

-- what is allowed is the board that came
came-is : (wanted : Option (Bor (List ℕ))) (told : Board) (came : Result (Option Board) Failure)
    (board : Option Board) → came ≡ Ok board → Allows told wanted came → board ≡ Some told
came-is None told came board is allows = cc
came-is (Some digits) told (Err failure) board is allows = absurd (cc)
came-is (Some digits) told (Ok own) board is allows = let e : own ≡ Some told = allows.ok.0 in cc

-- the table of a board that its device told has the device's chip
own-known : ToldBoardIsTheDevices → (table own : List ChipData) (chip : ChipData) (board : Board)
    → SuitsBoard table chip → IsBoardOf table chip board → IsOfBoard table board own
    → IsChipWith own chip.id chip
own-known law table own chip board suits told is =
    ⊎_elim
    (λ new. absurd (All-contains (λ (c : ChipData). c.id ≢ board.id) table suits.listed new.0
    suits.is.held (suits.is.id_is ∙ sym told.id)))
    (λ held.
    let (found, with, place) = held in
    let same : found ≡ suits.listed = suits.is.only found with.held (with.id_is ∙ told.id) in
    let listed-is : chip_of_board suits.listed board ≡ chip =
    law table suits.listed chip board suits.places suits.part told in
    let is-own : chip_of_board found board ≡ chip =
    ap (λ (c : ChipData). chip_of_board c board) same ∙ listed-is in
    let old-id : ¬ IsNewId table chip.id =
    λ new. All-contains (λ (c : ChipData). c.id ≢ chip.id) table suits.listed new suits.is.held
    suits.is.id_is in
    let H : ChipData → Type 0 = λ c. (¬ IsNewId table c.id) → IsChipWith own c.id c in
    subst H is-own place.here old-id)
    is

module _ {R : Type 0} (view : R → RigState) (law : ToldBoardIsTheDevices)
    (known : CallsEndAsAsked R view) where
  module _ (table : List ChipData) (content : Content) (sequel : Sequel) (new : R) (steps : Steps)
      (none : steps.failure ≡ None) where
    abbrev does : Work
    does = work.Act (action.WriteAndVerify content)

    -- it ends so, from a Rig with this chip and this flash
    abbrev E : ChipData → List ℕ → Type 0
    E chip flash = (own : List ChipData) × EndsAsAsked view own content sequel chip flash new

    -- the device told its board
    told-ends : (at : R) (board : Board) → (view at).is_honest → IsSafe (view at).device
        → SuitsBoard table (view at).device.chip → IsBoardOf table (view at).device.chip board
        → TakesTold view table board does sequel at new (Ok steps)
        → E (view at).device.chip (view at).device.flash
    told-ends at board honest safe suits told takes = by-own takes.own takes.is_own takes.goes_on
      where
        by-own : (own : Result (List ChipData) AllocError)
            → MatchResult own (λ own. IsOfBoard table board own) (λ (error : AllocError). Unit {0})
            → MatchResult own (λ own. TakesKnown view own
            (Some board) does sequel takes.heard new (Ok steps))
            (λ error. (new ≡ takes.heard) × (okay steps ≡ Err Memory))
            → E (view at).device.chip (view at).device.flash
        by-own (Err error) is (same, failed) = absurd (cc)
        by-own (Ok own) is goes =
            let d : Device = (view at).device in
            let h : Device = (view takes.heard).device in
            let same : h ≡ d = takes.hears.device in
            let chip-known : IsChipWith own d.chip.id d.chip =
            own-known law table own d.chip board suits told is in
            let C : Device → Type 0 = λ x. IsSafe x × IsChipWith own x.chip.id x.chip in
            let c = subst C (sym same) (safe, chip-known) in
            let can : CanCall own (view takes.heard) =
            record { honest = takes.hears.honest.0 honest; safe = c.0; knows = c.1 } in
            let ends = known own (Some board) content sequel takes.heard new steps can none goes in
            let F : Device → Type 0 = λ x. EndsAsAsked view own content sequel x.chip x.flash new in
            (own, subst F same ends)

    -- the device was asked
    asked-ends : (wanted : Option (Bor (List ℕ))) (old mid at : R)
        (came : Result (Option Board) Failure) → CanAsk true table (view old)
        → (view mid).is_honest
        → (view mid).device ≡ (view old).device → (view mid).journal ≡ (view old).journal
        → AsksAndAllows view table wanted mid at came → (board : Option Board)
        → came ≡ Ok board → TakesAsked view table board does sequel at new (Ok steps)
        → E (view old).device.chip (view old).device.flash
    asked-ends wanted old mid at came can honest device journal asks board is takes =
        by-asked asks.asked asks.asks asks.is
      where
        d : Device
        d = (view old).device

        by-asked : (asked : Result Board Fault)
            → AsksWhich table (view mid) (view at) asked
            → MatchResult asked (λ board. Allows board wanted came)
            (λ fault. came ≡ Err (Session fault)) → E d.chip d.flash
        by-asked (Err fault) a failed = absurd (cc)
        by-asked (Ok told) a allows =
            let S : Device → Type 0 = λ x. IsSafe x in
            let finished = ap is_unfinished_at journal ∙ can.finished in
            let asked = a.finished honest finished (subst S (sym device) can.safe) in
            let chip : (view at).device.chip ≡ d.chip = asked.left.make.chip
            ∙ ap (λ (x : Device). x.chip) device in
            let flash : (view at).device.flash ≡ d.flash = asked.left.flash
            ∙ ap (λ (x : Device). x.flash) device in
            let B : Device → Type 0 = λ x. IsBoardOf table x.chip told in
            let is-board : IsBoardOf table d.chip told = subst B device asked.told in
            let P : ChipData → Type 0 = λ c. SuitsBoard table c × IsBoardOf table c told in
            let both = subst P (sym chip) (can.knows, is-board) in
            let named : board ≡ Some told = came-is wanted told came board is allows in
            let T : Option Board → Type 0 =
            λ b. TakesAsked view table b does sequel at new (Ok steps) in
            let ends = told-ends at told asked.honest asked.left.safe both.0 both.1
            (subst T named takes) in
            let E1 : ChipData → Type 0 = λ c. E c (view at).device.flash in
            let E2 : List ℕ → Type 0 = λ f. E d.chip f in
            subst E2 flash (subst E1 chip ends)

    -- the journal was read before that, and is finished
    due-ends : (wanted : Option (Bor (List ℕ))) (is_wanted : Bool) (old mid at : R)
        (due : Result Due Fault) (came : Result (Option Board) Failure) (board : Option Board)
        → CanAsk true table (view old)
        → IsDue OfFinished is_wanted (view old) (view mid) due
        → MatchResult due (λ is. AsksIf view table wanted is mid at came)
        (λ fault. (at ≡ mid) × (came ≡ Err (Session fault))) → came ≡ Ok board
        → TakesAsked view table board does sequel at new (Ok steps)
        → E (view old).device.chip (view old).device.flash
    due-ends wanted is_wanted old mid at (Err fault) came board can reads
        (same, failed) is takes = absurd (cc)
    due-ends wanted is_wanted old mid at (Ok Not) came board can reads asks is takes =
        absurd (not-due (asked-due is_wanted Not reads.journal reads.is))
      where
        not-due : Not ≡ Asked → ⊥
        not-due e = cc
    due-ends wanted is_wanted old mid at
        (Ok (OfNamed unique)) came board can reads asks is takes =
        absurd (not-due (asked-due is_wanted (OfNamed unique) reads.journal reads.is))
      where
        not-due : OfNamed unique ≡ Asked → ⊥
        not-due e = cc
    due-ends wanted is_wanted old mid at (Ok Asked) came board can reads asks is takes =
        by-journal reads.journal (reads.loads can.honest) reads.is
      where
        by-journal : (journal : Result Loaded JournalFault) → Loads (view old) (view mid) journal
            → MatchResult journal (λ l. due-said Asked ≡ due_beside OfFinished is_wanted l.state)
            (λ fault. due-said Asked ≡ Err (fault_of_journal fault))
            → E (view old).device.chip (view old).device.flash
        by-journal (Err fault) loads e = absurd (cc)
        by-journal (Ok l) loads e = asked-ends wanted old mid at came can loads.honest
            loads.same_device loads.journal asks board is takes

    -- a call whose device is asked, or isn't
    ends : (question : Question) (old mid : R) (came : Result (Option Board) Failure)
        (asking : Option Asking) (is_asked : Bool) → question.is_asked ≡ is_asked
        → asking ≡ asking_if is_asked does → CanAsk is_asked table (view old)
        → (wanted : Option (Bor (List ℕ)))
        → AsksFirst view table asking wanted old mid came
        → (board : Option Board) → came ≡ Ok board
        → TakesAsked view table board does sequel mid new (Ok steps)
        → E (view old).device.chip (view old).device.flash
    ends question old mid came (Some OfFinished) true is asking can wanted asks board said takes =
        due-ends wanted (is_some wanted) old asks.mid mid asks.due came board can
        asks.reads asks.is said takes
    ends question old mid came (Some OfBegun) true is asking can wanted asks board said takes =
        absurd (cc)
    ends question old mid came (Some OfClosed) true is asking can wanted asks board said takes =
        absurd (cc)
    ends question old mid came None true is asking can wanted asks board said takes = absurd (cc)
    ends question old mid came (Some other) false is asking can wanted asks board said takes =
        absurd (cc)
    ends question old mid came None false is asking can (Some digits)
        (same, failed) board said takes = absurd (cc)
    ends question old mid came None false is asking can None (same, none-came) board said takes =
        let nothing : board ≡ None = cc in
        let T : R → Option Board → Type 0 =
        λ r b. TakesAsked view table b does sequel r new (Ok steps) in
        let T1 : Option Board → Type 0 = λ b. T mid b in
        let T2 : R → Type 0 = λ r. T r None in
        let can-call : CanCall table (view old) =
        record { honest = can.honest; safe = can.safe; knows = can.knows } in (
          table,
          known table None content sequel old new steps can-call none
              (subst T2 same (subst T1 nothing takes)),
        )

  pub whole-calls-end-as-asked : WholeCallsEndAsAsked R view
  whole-calls-end-as-asked table question content sequel old new steps can none takes =
      by-came takes.came takes.asks takes.goes_on
    where
      d : Device
      d = (view old).device

      by-came : (came : Result (Option Board) Failure)
          → AsksFirst view table takes.asking question.wanted old takes.mid came
          → MatchResult came (λ board. TakesAsked view table board
          (work.Act (action.WriteAndVerify content)) sequel takes.mid new (Ok steps))
          (λ failure. (new ≡ takes.mid) × (okay steps ≡ Err failure))
          → (own : List ChipData) × EndsAsAsked view own content sequel d.chip d.flash new
      by-came (Err failure) asks (same, failed) = absurd (cc)
      by-came (Ok board) asks goes = ends table content sequel new steps none question old takes.mid
          (Ok board) takes.asking question.is_asked refl takes.is_asking can question.wanted asks
          board refl goes

-- the same of one call of what is asked for
pub writes-as-asked : {R : Type 0} (view : R → RigState) → WholeCallsEndAsAsked R view
    → (table : List ChipData) (question : Question) (asked : Work) (sequel : Sequel) (old new : R)
    (result : Result Steps Failure) → TakesSteps view table question asked sequel old new result
    → WritesAsAsked view table question asked sequel old new result
writes-as-asked view law table question asked sequel old new result takes content steps is can said
    none =
    let wrote : Work = work.Act (action.WriteAndVerify content) in
    let T : Work → Type 0 = λ w. TakesSteps view table question w sequel old new result in
    let S : Result Steps Failure → Type 0 =
    λ r. TakesSteps view table question wrote sequel old new r in
    law table question content sequel old new steps can none (subst S said (subst T is takes))
