-- The lines that a run adds: none of them takes a segment off.
use Rattle.std.proofs.Common.{◌≡◌, inl, inr, ℕ, zero, suc, ◌+◌, ◌*◌, ◌/◌, ◌==◌, ◌&&◌, Bool, true, false, if◌then◌else◌, List, [], ◌∷◌, ◌++◌, length, take, drop, sym, subst}
use Rattle.std.specs.Prelude.{bytes_eq, is_none}
use Rattle.std.specs.List.{AllByRecursion}
use Rattle.stm_wire.proofs.Names.{ChipData, erased_byte, page_count, page_size, read_turns}
use Rattle.stm_chip.specs.declared.plan.Frame.{Frame}
use Rattle.stm_chip.specs.Plan.{frames_of}
use Rattle.stm_journal.specs.declared.entry.Entry.TheVariants.{Names, Opens, Keeps, Ends}
use Rattle.stm_journal.proofs.Names.{begin_entries, StateData, version_for}
use Rattle.stm_session.specs.declared.change.Change.{Change}
use Rattle.stm_session.specs.declared.fault.Fault.{Fault}
use Rattle.stm_session.proofs.Names.{Adds, AreBegun, AreDoneInOrder, AreTurned, begins, CommandData, confirmed_at, content, ends, has_companion, is_change, IsBegunIf, IsChangedUnless, IsDoneIf}
use Rattle.stm_session.proofs.Names.{IsReading, IsSaved, IsSavedWith, IsSegmentBegun, IsTurnOf, none, OutcomeData, page_address, page_reads, read_steps, rewrite_steps, Sends, Step, turns, write_steps}
use Rattle.stm_session.specs.ChangeOrder.{more}
use Rattle.stm_session.specs.RunOrder.{none as nothing_done, more as more_done}
use Rattle.stm_session.specs.lemmas.ClosingLaws.{goes_on, looked_by, segment_is_begun}
use Rattle.stm_any_line.specs.Calls.{AllSay, RunSays}
use Rattle.stm_any_line.proofs.Tracking.{say_as, say_front, say_then}

abbrev Plain : List Step → Type 0
Plain steps = AllSay RunSays steps

joined : (xs ys : List Step) → Plain xs → Plain ys → Plain (xs ++ ys)
joined xs ys p q = say_then RunSays xs ys p q

as_these : (xs ys : List Step) → ys ≡ xs → Plain xs → Plain ys
as_these xs ys is p = say_as RunSays xs ys is p

reads_plain : (address blocks : ℕ) (bytes : List ℕ) → Plain (read_steps address blocks bytes)
reads_plain address zero bytes = tt
reads_plain address (suc blocks) bytes =
    let answer = take 256 (drop (256 * blocks) bytes) in
    joined (read_steps address blocks bytes)
    (Sends (read_turns (address + 256 * blocks) answer) ∷ []) (reads_plain address blocks bytes) tt

page_plain : (chip : ChipData) (n : ℕ) (held : List ℕ) → Plain (page_reads chip n held)
page_plain chip n held = reads_plain (page_address chip n) (page_size chip n / 256) held

writes_plain : (chip : ChipData) (n : ℕ) (page : List ℕ) (frames : List Frame)
    → Plain (write_steps chip n page frames)
writes_plain chip n page [] = tt
writes_plain chip n page (f ∷ frames) = writes_plain chip n page frames

rewrite_plain : (chip : ChipData) (n : ℕ) (page : List ℕ) (frames : List Frame)
    → Plain (rewrite_steps chip n page frames)
rewrite_plain chip n page [] = ((tt, tt), tt)
rewrite_plain chip n page (f ∷ frames) =
    ((tt, tt), ((tt, tt), writes_plain chip n page (f ∷ frames)))

saved_with : (both : Bool) (chip : ChipData) (n : ℕ) (held : List ℕ) (steps : List Step)
    → IsSavedWith both chip n held steps → Plain steps
saved_with true chip n held steps saving =
    let first = saving.is_first in
    let line : List Step = Adds (Keeps 257 first.other ∷ []) ∷ [] in
    as_these (saving.first ++ Adds (Keeps n held ∷ []) ∷ []) steps saving.is
    (joined saving.first (Adds (Keeps n held ∷ []) ∷ [])
    (as_these (page_reads chip 257 first.other ++ line) saving.first first.is
    (joined (page_reads chip 257 first.other) line (page_plain chip 257 first.other) ((tt, tt), tt)))
    ((tt, tt), tt))
saved_with false chip n held steps saving =
    as_these (Adds (Keeps n held ∷ []) ∷ []) steps saving ((tt, tt), tt)

saved_unless : (kept : Bool) (chip : ChipData) (n : ℕ) (held : List ℕ) (steps : List Step)
    → IsSaved kept chip n held steps → Plain steps
saved_unless true chip n held steps saving = as_these [] steps saving tt
saved_unless false chip n held steps saving =
    saved_with (n == 1 && has_companion chip) chip n held steps saving

changed_unless : (same kept : Bool) (chip : ChipData) (n : ℕ) (held page : List ℕ)
    (steps : List Step) → IsChangedUnless same kept chip n held page steps → Plain steps
changed_unless true kept chip n held page steps is = as_these [] steps is tt
changed_unless false kept chip n held page steps is =
    let frames = frames_of (erased_byte chip) page (length page / 256) in
    as_these (is.saved ++ rewrite_steps chip n page frames) steps is.is
    (joined is.saved (rewrite_steps chip n page frames)
    (saved_unless kept chip n held is.saved is.is_saved) (rewrite_plain chip n page frames))

turn_plain : (kept : Bool) (chip : ChipData) (c : Change) (n : ℕ) (changed : Bool)
    (steps : List Step) → IsTurnOf kept chip c n changed steps → Plain steps
turn_plain kept chip c n changed steps (inl left) = as_these [] steps left.is tt
turn_plain kept chip c n changed steps (inr turn) =
    let page = content chip c n turn.held in
    as_these (page_reads chip n turn.held ++ turn.later) steps turn.is
    (joined (page_reads chip n turn.held) turn.later (page_plain chip n turn.held)
    (changed_unless (bytes_eq turn.held page) kept chip n turn.held page turn.later
    turn.is_changed))

turned_plain : (chip : ChipData) (c : Change) (n : ℕ) (first : Bool) (steps : List Step)
    → AreTurned chip c n first steps → Plain steps
turned_plain chip c zero false [] none = tt
turned_plain chip c _ _ _ (more n was changed before own are turn) =
    joined before own (turned_plain chip c n was before are)
    (turn_plain (n == 257 && was) chip c n changed own turn)

lines_plain : (chip : ChipData) (s : StateData)
    → Plain (Adds (begin_entries chip.id chip.unique s) ∷ [])
lines_plain chip s = by_none (is_none s.header)
  where
    by_none : (none : Bool)
        → Plain
        (Adds
        (if none
        then Names (version_for chip.unique) chip.id chip.unique ∷ Opens (length s.stack + 1) ∷ []
        else Opens (length s.stack + 1) ∷ [])
        ∷ [])
    by_none true = ((tt, (tt, tt)), tt)
    by_none false = ((tt, tt), tt)

segment_begun : (chip : ChipData) (c : Change) (s : StateData) (steps : List Step)
    → IsSegmentBegun chip c s steps → Plain steps
segment_begun chip c s steps (begins (rest, is)) =
    say_front RunSays steps rest (as_these _ (steps ++ rest) is (lines_plain chip s))
segment_begun chip c s steps (turns pages begun is) =
    let rest = begun.is_begun.0 in
    let turn = begun.is_begun.1 in
    let own =
    turn_plain (begun.page == 257 && begun.first) chip c begun.page turn.0 (begun.own ++ rest)
    turn.1
    in
    as_these _ steps is
    (joined (Adds (begin_entries chip.id chip.unique s) ∷ []) pages (lines_plain chip s)
    (as_these (begun.before ++ begun.own) pages begun.is
    (joined begun.before begun.own
    (turned_plain chip c begun.page begun.first begun.before begun.are_turned)
    (say_front RunSays begun.own rest own))))
segment_begun chip c s steps (ends turned own are part is) =
    let first : List Step = Adds (begin_entries chip.id chip.unique s) ∷ [] in
    let line : List Step = Adds (Ends (length s.stack + 1) ∷ []) ∷ [] in
    let on = goes_on chip line (first ++ turned) own steps part is in
    let looked =
    looked_by Plain (confirmed_at chip) on.0 tt (λ place frame later at look p. p) on.2
    in
    say_front RunSays steps on.1
    (as_these _ (steps ++ on.1) on.3
    (joined first (turned ++ (on.0 ++ line)) (lines_plain chip s)
    (joined turned (on.0 ++ line) (turned_plain chip c (page_count chip) are.0 turned are.1)
    (joined on.0 line looked ((tt, tt), tt)))))

readings_plain : (chip : ChipData) (steps : List Step) → AllByRecursion (IsReading chip) steps
    → Plain steps
readings_plain chip [] are = tt
readings_plain chip (step ∷ steps) (is, are) =
    let P : Step → Type 0 = λ x. Plain (x ∷ []) in
    joined (step ∷ []) steps (subst P (sym is.is) tt) (readings_plain chip steps are)

done_by : (changes : Bool) (chip : ChipData) (c : CommandData) (s : StateData) (steps : List Step)
    → IsDoneIf changes chip c s steps → Plain steps
done_by true chip c s steps (change, is, segment) =
    segment_begun chip change s steps (segment_is_begun chip change s steps segment)
done_by false chip c s steps are = readings_plain chip steps are

pub done_say : (chip : ChipData) (commands : List CommandData) (outcomes : List OutcomeData)
    (s last : StateData) (steps : List Step) → AreDoneInOrder chip commands outcomes s last steps
    → AllSay RunSays steps
done_say chip _ _ _ _ _ (nothing_done s) = tt
done_say chip _ _ _ _ _ (more_done commands c outcomes said s mid last before own are is depth) =
    joined before own (done_say chip commands outcomes s mid before are)
    (done_by (is_change c) chip c mid own is.0)

begun_by : (changes : Bool) (chip : ChipData) (c : CommandData) (s : StateData)
    (steps : List Step) → IsBegunIf changes chip c s steps → Plain steps
begun_by true chip c s steps (change, is, segment) = segment_begun chip change s steps segment
begun_by false chip c s steps are = readings_plain chip steps are

pub begun_say : (fault : Fault) (chip : ChipData) (commands : List CommandData) (s : StateData)
    (steps : List Step) → AreBegun fault chip commands s steps → AllSay RunSays steps
begun_say fault chip commands s steps (inl is) = as_these [] steps is tt
begun_say fault chip commands s steps (inr begun) =
    as_these _ steps begun.is
    (joined begun.before begun.own
    (done_say chip begun.earlier begun.outcomes s begun.mid begun.before begun.are_done)
    (begun_by (is_change begun.command) chip begun.command begun.mid begun.own begun.is_begun))
