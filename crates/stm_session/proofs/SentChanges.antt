-- What the segment of a command puts on any line, whole or cut short: no more than the greatest flash allows.
use Rattle.std.proofs.Common.{◌≡◌, inl, inr, ℕ, zero, suc, ◌+◌, ◌*◌, ◌/◌, ◌<◌, ◌≤◌, ◌==◌, ◌&&◌, nat_lt, Bool, true, false, if◌then◌else◌, List, [], ◌∷◌, ◌++◌, length, Some, Result, refl, ◌∙◌, ap, arith}
use Rattle.std.specs.Prelude.{IfOk, bytes_eq}
use Rattle.std.proofs.lemmas.Bool.{and_parts}
use Rattle.std.proofs.lemmas.Bool.Decides.{nat_tests}
use Rattle.std.proofs.lemmas.List.Sums.{sum_by_more}
use Rattle.stm_image.specs.Lay.{lay}
use Rattle.stm_image.specs.Pairs.{Pairs}
use Rattle.stm_wire.specs.declared.chip.EraseKind.{EraseKind}
use Rattle.stm_wire.specs.declared.chip.EraseKind.TheVariants.{Page, Extended}
use Rattle.stm_wire.proofs.Names.{ChipData, erased_byte, flash_size, GoesOn, IsChip, IsPart, page_count, page_limit, page_offset, page_size, RigState}
use Rattle.stm_wire.specs.lemmas.PageLaws.{offset_within, page_within}
use Rattle.stm_chip.specs.Plan.{frames_of}
use Rattle.stm_journal.specs.declared.entry.Entry.TheVariants.{Keeps, Ends}
use Rattle.stm_journal.proofs.Names.{begin_entries, Loaded, StateData}
use Rattle.stm_session.proofs.Names.{Adds, AreTurned, begins, Change, CommandData, content, ends, erase_steps, Fault, FaultEnds, Follows, has_companion, is_whole, IsBegunIf, IsChangedUnless, IsDoneIf}
use Rattle.stm_session.proofs.Names.{IsSaved, IsSavedWith, IsSegmentBegun, IsTurnOf, most_of_closing, most_of_command, none, page_reads, program_steps, rewrite_steps, Step, turns}
use Rattle.stm_session.specs.ChangeOrder.{more}
use Rattle.stm_session.specs.lemmas.ClosingLaws.{goes_on, segment_is_begun}
use Rattle.stm_session.proofs.KeptRuns.{length-content}
use Rattle.stm_session.specs.lemmas.FramesInside.{frames-few, frames_inside}
use Rattle.stm_session.proofs.LookingAgain.{put_looked}
use Rattle.stm_session.proofs.Savings.{is_first}
use Rattle.stm_session.proofs.SentPages.{put_erase, put_page, put_program}
use Rattle.stm_session.proofs.SentSteps.{PutFew, put_as, put_front, put_none, put_then, steps_put}

-- page 257 is read with page 1
abbrev companion : ChipData → ℕ → ℕ
companion chip n = if n == 1 then 2 * flash_size chip else 0

put_saved_with : (both : Bool) (chip : ChipData) (n : ℕ) (held : List ℕ) (steps : List Step) → (n == 1 && has_companion chip) ≡ both → IsSavedWith both chip n held steps → PutFew (Some chip) (companion chip n) steps
put_saved_with true chip n held steps both saved =
    let has = and_parts (n == 1) (has_companion chip) both in
    let exists : 257 < page_count chip = grind (arith, nat_tests, has.1) in
    let first = saved.is_first in
    let lines : List Step = Adds (Keeps n held ∷ []) ∷ [] in
    let own : List Step = page_reads chip 257 first.other ++ Adds (Keeps 257 first.other ∷ []) ∷ [] in
    let two : companion chip n ≡ 2 * flash_size chip = ap (λ (m : ℕ). companion chip m) (is_first n (has_companion chip) both) in
    let line : (entries : List _) → PutFew (Some chip) 0 (Adds entries ∷ []) = λ entries. record { sent = tt; few = omega arith } in
    let reads = put_then (Some chip) (2 * page_size chip 257) 0 (page_reads chip 257 first.other) (Adds (Keeps 257 first.other ∷ []) ∷ []) (put_page chip 257 exists first.other first.size) (line (Keeps 257 first.other ∷ [])) in
    put_as (Some chip) _ (companion chip n) (own ++ lines) steps (omega (arith, two, page_within chip.sizes 257)) (saved.is ∙ ap (λ (xs : List Step). xs ++ lines) first.is)
    (put_then (Some chip) (2 * page_size chip 257 + 0) 0 own lines reads (line (Keeps n held ∷ [])))
put_saved_with false chip n held steps both saved = put_as (Some chip) 0 (companion chip n) (Adds (Keeps n held ∷ []) ∷ []) steps (omega arith) saved (record { sent = tt; few = omega arith })

put_saved : (kept : Bool) (chip : ChipData) (n : ℕ) (held : List ℕ) (steps : List Step) → IsSaved kept chip n held steps → PutFew (Some chip) (companion chip n) steps
put_saved true chip n held steps saved = put_as (Some chip) 0 (companion chip n) [] steps (omega arith) saved (put_none (Some chip) 0)
put_saved false chip n held steps saved = put_saved_with (n == 1 && has_companion chip) chip n held steps refl saved

-- one page, and the pages below one
abbrev most_of : ChipData → ℕ → ℕ
most_of chip n = 4 * page_size chip n + 9 + companion chip n

abbrev below : ChipData → ℕ → ℕ
below chip n = 4 * page_offset chip n + 9 * n + (if nat_lt 1 n then 2 * flash_size chip else 0)

below_next : (chip : ChipData) (n : ℕ) → n < page_count chip → below chip n + most_of chip n ≤ below chip (n + 1)
below_next chip n lt =
    let next : page_offset chip (n + 1) ≡ page_offset chip n + page_size chip n = sum_by_more (λ x. x) chip.sizes n 0 lt in
    omega (arith, next, extra (2 * flash_size chip) n)
  where
    extra : (most n : ℕ) → (if nat_lt 1 n then most else 0) + (if n == 1 then most else 0) ≤ (if nat_lt 1 (n + 1) then most else 0)
    extra most zero = omega arith
    extra most (suc zero) = omega arith
    extra most (suc (suc n)) = grind (arith, nat_tests)

below_all : (chip : ChipData) → IsChip chip → (n : ℕ) → n ≤ page_count chip → below chip n + most_of_closing ≤ most_of_command
below_all chip limits n le = omega (arith, le, limits.size, limits.last_page, pages chip.kind, offset_within chip.sizes n, either (nat_lt 1 n) (2 * flash_size chip))
  where
    pages : (kind : EraseKind) → page_limit kind ≤ 512
    pages Page = omega arith
    pages Extended = omega arith

    either : (b : Bool) (most : ℕ) → (if b then most else 0) ≤ most
    either true most = omega arith
    either false most = omega arith

-- a page is rewritten
pub put_rewritten : (chip : ChipData) (n : ℕ) (page : List ℕ) → n < page_count chip
    → length page ≡ page_size chip n → PutFew (Some chip) (9 + 2 * length page)
    (rewrite_steps chip n page (frames_of (erased_byte chip) page (length page / 256)))
put_rewritten chip n page exists size =
    let erased = erased_byte chip in
    let blocks = length page / 256 in
    let frames = frames_of erased page blocks in
    let inside = frames_inside (length page) erased page blocks (omega arith) in
    put_then (Some chip) 9 (2 * length page) (erase_steps chip n) (program_steps chip n page frames)
    (put_erase chip n exists)
    (put_program chip n exists page size frames inside
    (omega (arith, frames-few erased page blocks)))

put_changed : (same kept : Bool) (chip : ChipData) (n : ℕ) (held page : List ℕ) (steps : List Step) → n < page_count chip → length page ≡ page_size chip n → IsChangedUnless same kept chip n held page steps
    → PutFew (Some chip) (companion chip n + (9 + 2 * page_size chip n)) steps
put_changed true kept chip n held page steps exists size is = put_as (Some chip) 0 (companion chip n + (9 + 2 * page_size chip n)) [] steps (omega arith) is (put_none (Some chip) 0)
put_changed false kept chip n held page steps exists size is =
    let more = 9 + 2 * length page in
    put_as (Some chip) (companion chip n + more) (companion chip n + (9 + 2 * page_size chip n)) (is.saved ++ _) steps (omega (arith, size)) is.is
    (put_then (Some chip) (companion chip n) more is.saved _
    (put_saved kept chip n held is.saved is.is_saved) (put_rewritten chip n page exists size))

module _ (lengths : (set : Pairs) (address : ℕ) (bytes : List ℕ) → length (lay set address bytes) ≡ length bytes) (chip : ChipData) (limits : IsChip chip) where
  put_turn : (kept : Bool) (c : Change) (n : ℕ) (changed : Bool) (steps : List Step) → n < page_count chip → IsTurnOf kept chip c n changed steps → PutFew (Some chip) (most_of chip n) steps
  put_turn kept c n changed steps exists (inl left) = put_as (Some chip) 0 (most_of chip n) [] steps (omega arith) left.is (put_none (Some chip) 0)
  put_turn kept c n changed steps exists (inr turn) =
      let page = content chip c n turn.held in
      let reads = 2 * page_size chip n in
      let more = companion chip n + (9 + 2 * page_size chip n) in
      put_as (Some chip) (reads + more) (most_of chip n) (page_reads chip n turn.held ++ turn.later) steps (omega arith) turn.is
      (put_then (Some chip) reads more (page_reads chip n turn.held) turn.later (put_page chip n exists turn.held turn.size)
      (put_changed (bytes_eq turn.held page) kept chip n turn.held page turn.later exists (length-content lengths chip c n turn.held turn.size) turn.is_changed))

  put_turned : (c : Change) (n : ℕ) (first : Bool) (steps : List Step) → n ≤ page_count chip → AreTurned chip c n first steps → PutFew (Some chip) (below chip n) steps
  put_turned c zero false [] le none = put_none (Some chip) (below chip 0)
  put_turned c _ _ _ le (more n was changed before own are turn) =
      let exists : n < page_count chip = omega (arith, le) in
      put_as (Some chip) (below chip n + most_of chip n) (below chip (n + 1)) (before ++ own) (before ++ own) (below_next chip n exists) refl
      (put_then (Some chip) (below chip n) (most_of chip n) before own (put_turned c n was before (omega (arith, le)) are) (put_turn (n == 257 && was) c n changed own exists turn))

  -- a beginning of a segment
  put_begun : (c : Change) (s : StateData) (steps : List Step) → IsSegmentBegun chip c s steps → PutFew (Some chip) most_of_command steps
  put_begun c s steps (begins (rest, is)) = put_front (Some chip) most_of_command steps rest (put_as (Some chip) 0 most_of_command (Adds (begin_entries chip.id chip.unique s) ∷ []) (steps ++ rest) (omega arith) is (record { sent = tt; few = omega arith }))
  put_begun c s steps (turns pages begun is) =
      let n = begun.page in
      let before = put_turned c n begun.first begun.before (omega (arith, begun.exists)) begun.are_turned in
      let own = put_turn (n == 257 && begun.first) c n begun.is_begun.1.0 (begun.own ++ begun.is_begun.0) begun.exists begun.is_begun.1.1 in
      let all = put_then (Some chip) (below chip n) (most_of chip n) begun.before begun.own before (put_front (Some chip) (most_of chip n) begun.own begun.is_begun.0 own) in
      let some = put_as (Some chip) (below chip n + most_of chip n) most_of_command (begun.before ++ begun.own) pages (omega (arith, below_next chip n begun.exists, below_all chip limits (n + 1) (omega (arith, begun.exists)))) begun.is all in
      put_as (Some chip) most_of_command most_of_command (Adds (begin_entries chip.id chip.unique s) ∷ pages) steps (omega arith) is (record { sent = some.sent; few = some.few })
  put_begun c s steps (ends turned own are part is) =
      let first : Step = Adds (begin_entries chip.id chip.unique s) in
      let line : List Step = Adds (Ends (length s.stack + 1) ∷ []) ∷ [] in
      let on = goes_on chip line (first ∷ turned) own steps part is in
      let pages = put_turned c (page_count chip) are.0 turned (omega arith) are.1 in
      let last = put_then (Some chip) most_of_closing 0 on.0 line (put_looked chip limits on.0 on.2) (record { sent = tt; few = omega arith }) in
      let all = put_then (Some chip) (below chip (page_count chip)) (most_of_closing + 0) turned (on.0 ++ line) pages last in
      put_front (Some chip) most_of_command steps on.1
      (put_as (Some chip) most_of_command most_of_command (first ∷ (turned ++ (on.0 ++ line))) (steps ++ on.1) (omega arith) on.3
      (record { sent = all.sent; few = omega (arith, all.few, below_all chip limits (page_count chip) (omega arith)) }))

  -- a command that changes the flash
  pub change_puts : {T : Type 0} (c : CommandData) (Told : T → List Step → Type 0) (l l2 : Loaded) (a b : RigState) (result : Result T Fault) → IfOk result (λ x. Follows (λ xs. IsDoneIf true chip c l.state xs × Told x xs) l l2 a b)
      → FaultEnds (IsBegunIf true chip c l.state) l.is_torn a b result → GoesOn (IsPart (Some chip) (is_whole result) most_of_command) a.calls b.calls
  change_puts c Told l l2 a b result =
      steps_put (Some chip) most_of_command (λ x xs. IsDoneIf true chip c l.state xs × Told x xs) (IsBegunIf true chip c l.state) l l2 a b result
      (λ x xs done. put_begun done.0.0 l.state xs (segment_is_begun chip done.0.0 l.state xs done.0.2)) (λ xs begun. put_begun begun.0 l.state xs begun.2)
