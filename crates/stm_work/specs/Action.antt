-- Which action a task asks for, and what each does with a device.
use Rattle.std.specs.Prelude.{◌≡◌, ◌≢◌, ℕ, ◌≤◌, Bool, true, false, List, [], ◌∷◌}
use Rattle.std.specs.Prelude.{Option, Some, None}
use Rattle.std.specs.Prelude.{Result, Ok, Err, IfErr, IfOk, IsTrue, OnOk, MatchResult}
use Rattle.stm_image.specs.Pairs.{Pairs}
use Rattle.stm_wire.specs.declared.protection.Protection.{Protection}
use Rattle.stm_wire.specs.declared.protection.Protection.TheVariants.{WriteUnprotect}
use Rattle.stm_wire.specs.Chip.{ChipData, is_inside}
use Rattle.stm_wire.specs.Device.{Device, Gone}
use Rattle.stm_wire.specs.Dialogue.{Turn, GoesOn}
use Rattle.stm_wire.specs.Frames.{command, go_frame, go_turns, protect_turns}
use Rattle.stm_wire.specs.Protection.{protection_code}
use Rattle.stm_wire.specs.Rig.{RigState}
use Rattle.stm_journal.specs.Calls.{AreFetches, IsUntouched}
use Rattle.stm_journal.specs.Journals.{journal_of}
use Rattle.stm_session.specs.declared.fault.Fault.{Fault}
use Rattle.stm_session.specs.declared.fault.Fault.TheVariants.{Memory}
use Rattle.stm_session.specs.declared.contact.Told.{Told}
use Rattle.stm_session.specs.declared.information.Info.{Info}
use Rattle.stm_session.specs.declared.returned.Returned.{Returned}
use Rattle.stm_session.specs.Fault.{HasSessionCause, IsOutsideFault}
use Rattle.stm_session.specs.Leaving.{CanLeave, IsSettledThen, Leaves}
use Rattle.stm_session.specs.Meaning.{erases, verifies, writes}
use Rattle.stm_session.specs.Moments.{IsSafe}
use Rattle.stm_session.specs.ReturnedBytes.{segments_of}
use Rattle.stm_session.specs.Told.{GivesBackTold, UndoStopsToldAs}
use Rattle.stm_session.specs.UndoOrder.{GivesBackInOrder, UndoStops, UndoStopsAs, UndoesInOrder}
use Rattle.stm_session.specs.Unprotecting.{IsUnprotected, IsUnprotecting, UnprotectContract}
use Rattle.stm_session.specs.Promises.{UndoContract}
use Rattle.stm_session.specs.Refusal.{RefusesUnsent, open_refusal}
use Rattle.stm_session.specs.Sending.{IsLeaving, SendsAsUndo, is_whole_at}
use Rattle.stm_words.specs.declared.extent.Extent.{Extent}
use Rattle.stm_words.specs.declared.task.Task.{Task}
use Rattle.stm_words.specs.declared.task.Task.TheVariants as task
use Rattle.stm_work.specs.declared.action.Action.{Action}
use Rattle.stm_work.specs.declared.action.Action.TheVariants as action
use Rattle.stm_work.specs.declared.work.Work.{Work}
use Rattle.stm_work.specs.declared.work.Work.TheVariants as work
use Rattle.stm_work.specs.declared.answer.Answer.{Answer}
use Rattle.stm_work.specs.declared.answer.Answer.TheVariants as answer
use Rattle.stm_work.specs.declared.content.Content.{Content}
use Rattle.stm_work.specs.declared.failure.Failure.{Failure}
use Rattle.stm_work.specs.declared.way_back.WayBack.{WayBack}
use Rattle.stm_work.specs.declared.failure.Failure.TheVariants.{Session}
use Rattle.stm_work.specs.Conduct.{PromisesInfo, AsksThenGoesOn, ErasesAll, Identifies, RunsTold, WritesVerified}
use Rattle.stm_work.specs.Content.{ComeOfFiles, ImageOn, IsCopy}
use Rattle.stm_work.specs.Protections.{protection_of}
use Rattle.stm_work.specs.ReadingFor.{ReadsAsHex, SumsUp}
use Rattle.stm_work.specs.Reading.{ReadsRange}
use Rattle.stm_work.specs.Unprotecting.{UnprotectsBegun}
use Rattle.stm_work.specs.WayBack.{FindsWay, beside_way, undo_of}

-- the action that a task asks for; of an undo the journal says which it is
abbrev pub IsFor : Task → Action → Type 0
IsFor (task.Info is_raw) does = does ≡ action.Info
IsFor (task.Read range out) does = does ≡ action.Read range
IsFor (task.ReadHex range out skips) does = does ≡ action.Read range
IsFor (task.Sum range) does = does ≡ action.Read range
IsFor (task.Write images true) does = (content : Content) × (does ≡ action.WriteAndVerify content)
    × ComeOfFiles images.items content
IsFor (task.Write images false) does = (content : Content) × (does ≡ action.Write content)
    × ComeOfFiles images.items content
IsFor (task.Verify images) does = (content : Content) × (does ≡ action.Verify content)
    × ComeOfFiles images.items content
IsFor (task.Erase true pages) does = does ≡ action.EraseAll
IsFor (task.Erase false pages) does = does ≡ action.Erase pages
IsFor (task.Undo extent is_verified) does = ⊥
IsFor (task.Go address) does = does ≡ action.Go address
IsFor (task.Protect word is_sure true) does =
    (does ≡ action.UnprotectFresh) × (protection_of word.now ≡ Some WriteUnprotect)
IsFor (task.Protect word is_sure false) does = (kind : Protection) × (does ≡ action.Protect kind)
    × (protection_of word.now ≡ Some kind)

-- what takes the write protection off a device that is said to be fresh from reset is else what does
-- so of any device
abbrev pub unless_fresh : Bool → Action → Action
unless_fresh false action.UnprotectFresh = action.UnprotectBegun
unless_fresh is_fresh does = does

abbrev pub work_unless_fresh : Bool → Work → Work
work_unless_fresh is_fresh (work.Act does) = work.Act (unless_fresh is_fresh does)
work_unless_fresh is_fresh does = does

-- what is told of what a device is, and of what it says itself, before tables are looked at
abbrev pub told_info : Info → Answer
told_info info = answer.Told info None

abbrev pub told_itself : Told → Answer
told_itself told = answer.Identified told None

-- what is told of an undo of so many segments, and of one that was verified
abbrev pub told_undone : ℕ → Answer
told_undone count = answer.Undone count None

abbrev pub told_returned : Returned → Answer
told_returned returned = answer.Undone returned.segments (Some returned.bytes)

-- What a session answered is handed on.
abbrev pub HandsOn : {T : Type 0} → (T → Answer) → Result T Fault → Result Answer Failure → Type 0
HandsOn told (Ok x) result = result ≡ Ok (told x)
HandsOn told (Err fault) result = result ≡ Err (Session fault)

-- one call of a session
abbrev pub Calls : {R T : Type 0} → (T → Answer) → (R → R → Result T Fault → Type 0) → R → R
    → Result Answer Failure → Type 0
Calls {R} {T} told Done old new result = (said : Result T Fault) × Done old new said
    × HandsOn told said result

-- The image is placed first; where it can't be, that is the answer, and nothing more is called.
pub record PlacesFirst {R : Type 0} (view : R → RigState) (table : List ChipData)
    (content : Content) (Done : Pairs → R → R → Result Answer Fault → Type 0) (old new : R)
    (result : Result Answer Failure) : Type 0 where
  pub mid : R
  pub image : Result Pairs Failure
  pub places : ImageOn view table content old mid image
  pub goes_on : MatchResult image (λ image. Calls (λ said. said) (Done image) mid new result)
      (λ failure. (new ≡ mid) × (result ≡ Err failure))

-- What `undo` promises.
pub record PromisesUndo (table : List ChipData) (count : ℕ) (old new : RigState)
    (taken : Result ℕ Fault) : Type 0 where
  pub promised : UndoContract table count old new taken
  pub cause : HasSessionCause old new taken
  pub puts : SendsAsUndo table count old new taken
  pub silent : taken ≡ Ok 0 → GoesOn AreFetches old.calls new.calls
  pub order : IfOk taken (λ n. 1 ≤ n → UndoesInOrder table n old new)
  pub stops : IfErr taken (UndoStops table count old new)

-- And `undo_verified`: the same, and that each page that was given back was read again, and held what
-- was written.
pub record UndoesVerified {R : Type 0} (view : R → RigState) (table : List ChipData) (count : ℕ)
    (old new : R) (taken : Result Returned Fault) : Type 0 where
  pub promised : UndoContract table count (view old) (view new) (segments_of taken)
  pub cause : HasSessionCause (view old) (view new) taken
  pub puts : SendsAsUndo table count (view old) (view new) (segments_of taken)
  pub silent : segments_of taken ≡ Ok 0 → GoesOn AreFetches (view old).calls (view new).calls
  pub none : IfOk taken (λ returned. returned.segments ≡ 0 → returned.bytes ≡ 0)
  pub order : IfOk taken (λ returned. 1 ≤ returned.segments
      → GivesBackInOrder true table returned (view old) (view new))
  pub stops : IfErr taken (UndoStopsAs true table count (view old) (view new))
  pub given : IfOk taken (λ returned. 1 ≤ returned.segments
      → GivesBackTold view true table returned (view old) (view new))
  pub given_stops :
      IfErr taken (UndoStopsToldAs view true table count (view old) (view new))

-- What `unprotect_fresh` promises.
pub record Unprotects (old new : RigState) (done : Result (Unit {0}) Fault) : Type 0 where
  pub cause : HasSessionCause old new done
  pub puts : GoesOn IsUnprotecting old.calls new.calls
  pub sent : OnOk done (GoesOn IsUnprotected old.calls new.calls)
  pub silent :
      IfErr done (λ fault. is_whole_at fault ≡ true → GoesOn AreFetches old.calls new.calls)
  pub kept : old.is_honest → new.journal ≡ old.journal
  pub promised : UnprotectContract old new done

-- What `go` and `protect` promise of their frame, on a device that allows it.
pub record Parts (turns : List Turn) (frame : List ℕ) (Allows : Device → Type 0)
    (old new : RigState) (parted : Result (Unit {0}) Fault) : Type 0 where
  pub cause : HasSessionCause old new parted
  pub puts : GoesOn (IsLeaving turns) old.calls new.calls
  pub sent : OnOk parted (GoesOn (IsSettledThen turns) old.calls new.calls)
  pub silent :
      IfErr parted (λ fault. is_whole_at fault ≡ true → GoesOn AreFetches old.calls new.calls)
  pub kept : old.is_honest → new.journal ≡ old.journal
  pub refused : old.is_honest → (fault : Fault) → open_refusal (journal_of old.journal) ≡ Some fault
      → RefusesUnsent (IsUntouched old) fault old new parted
  pub unsent_calls : old.is_honest → (fault : Fault)
      → open_refusal (journal_of old.journal) ≡ Some fault → GoesOn AreFetches old.calls new.calls
  pub leaves : old.is_honest → IsSafe old.device → open_refusal (journal_of old.journal) ≡ None
      → Leaves frame old new parted
  pub goes : old.is_honest → open_refusal (journal_of old.journal) ≡ None → Allows old.device
      → IfErr parted IsOutsideFault
  pub spared : old.is_honest → old.journal ≡ [] → IfErr parted (λ fault. fault ≢ Memory)

-- a device that lets `go` to this address
abbrev pub MayBeLetGo : ℕ → Device → Type 0
MayBeLetGo address d = CanLeave 0x21 d × IsTrue (is_inside d.chip address)

-- What `go` promises: the same, and that such a device has left its bootloader then.
pub record GoesTo (address : ℕ) (old new : RigState)
    (gone : Result (Unit {0}) Fault) : Type 0 where
  pub parts : Parts (go_turns address) (go_frame address) (MayBeLetGo address) old new gone
  pub left : old.is_honest → open_refusal (journal_of old.journal) ≡ None → MayBeLetGo address old.device
      → OnOk gone (new.device.phase ≡ Gone)

-- Each action is the calls of its own, and hands on what they answer.
abbrev pub DoesAction : {R : Type 0} → (R → RigState) → List ChipData → Action → R → R
    → Result Answer Failure → Type 0
DoesAction view table action.Info old new result =
    Calls told_info (λ a b said. PromisesInfo table (view a) (view b) said) old new result
DoesAction view table (action.Read range) old new result =
    Calls (λ said. said) (ReadsRange view table range) old new result
DoesAction view table (action.Write content) old new result =
    PlacesFirst view table content
    (λ image a b said. RunsTold table (writes image ∷ []) (view a) (view b) said) old new result
DoesAction view table (action.WriteAndVerify content) old new result =
    PlacesFirst view table content
    (λ image a b said. WritesVerified table image (view a) (view b) said) old new result
DoesAction view table (action.Verify content) old new result =
    PlacesFirst view table content
    (λ image a b said. RunsTold table (verifies image ∷ []) (view a) (view b) said) old new result
DoesAction view table (action.Erase pages) old new result =
    Calls (λ said. said)
    (λ a b said. RunsTold table (erases pages.items ∷ []) (view a) (view b) said) old new result
DoesAction view table action.EraseAll old new result =
    Calls (λ said. said) (ErasesAll view table) old new result
DoesAction view table (action.Undo count) old new result =
    Calls told_undone (λ a b said. PromisesUndo table count (view a) (view b) said) old new result
DoesAction view table (action.UndoVerified count) old new result =
    Calls told_returned (UndoesVerified view table count) old new result
DoesAction view table (action.Go address) old new result =
    Calls (λ done. answer.Nothing) (λ a b said. GoesTo address (view a) (view b) said)
    old new result
DoesAction view table (action.Protect kind) old new result =
    Calls (λ done. answer.Nothing) (λ a b said. Parts (protect_turns (protection_code kind))
    (command (protection_code kind)) (CanLeave (protection_code kind)) (view a) (view b) said)
    old new result
DoesAction view table action.UnprotectFresh old new result =
    Calls (λ done. answer.Nothing) (λ a b said. Unprotects (view a) (view b) said) old new result
DoesAction view table action.UnprotectBegun old new result =
    Calls (λ done. answer.Nothing) (UnprotectsBegun view table) old new result

-- What an undo answers is handed on, with what the journal said before it.
abbrev pub HandsOnBeside : WayBack → Result Answer Failure → Result Answer Failure → Type 0
HandsOnBeside way (Ok told) result = result ≡ Ok (beside_way way told)
HandsOnBeside way (Err failure) result = result ≡ Err failure

-- The journal is read first, and says how many of the newest segments are undone by an undo that goes
-- back so far. Where it can't be read, nothing more is called.
pub record UndoesBack {R : Type 0} (view : R → RigState) (table : List ChipData) (extent : Extent)
    (verifies : Bool) (old new : R) (result : Result Answer Failure) : Type 0 where
  pub mid : R
  pub found : Result WayBack Fault
  pub finds : FindsWay extent (view old) (view mid) found
  pub goes_on : MatchResult found (λ way. (said : Result Answer Failure)
      × DoesAction view table (undo_of way.count verifies) mid new said
      × HandsOnBeside way said result)
      (λ fault. (new ≡ mid) × (result ≡ Err (Session fault)))

-- What is done on a device: the question that needs no table, an undo as far back as is said, or an
-- action.
abbrev pub Works : {R : Type 0} → (R → RigState) → List ChipData → Work → R → R
    → Result Answer Failure → Type 0
Works view table work.Identify old new result =
    Calls told_itself (λ a b said. Identifies (view a) (view b) said) old new result
Works view table (work.Sum range) old new result =
    (said : Result Answer Fault) × ReadsRange view table range old new said × SumsUp said result
Works view table (work.ReadHex range skips) old new result =
    AsksThenGoesOn view table (λ fault. Session fault) (ReadsAsHex view table range skips) old new result
Works view table (work.Undo extent is_verified) old new result =
    UndoesBack view table extent is_verified old new result
Works view table (work.Act does) old new result = DoesAction view table does old new result

-- What is done again is a write, of the same image; nothing else is.
abbrev pub IsDoneAgain : Work → Option Work → Type 0
IsDoneAgain (work.Act (action.Write content)) again = (copy : Content) × IsCopy content copy
    × (again ≡ Some (work.Act (action.Write copy)))
IsDoneAgain (work.Act (action.WriteAndVerify content)) again = (copy : Content)
    × IsCopy content copy × (again ≡ Some (work.Act (action.WriteAndVerify copy)))
IsDoneAgain other again = again ≡ None
