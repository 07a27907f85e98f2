-- The steps of a run: each page is kept as it was read, before it is changed.
use Rattle.std.proofs.Common.{◌≡◌, inl, inr, ℕ, zero, ◌+◌, ◌/◌, ◌<◌, ◌≤◌, ◌==◌, ◌&&◌, Bool, true, false, not, if◌then◌else◌, List, [], ◌∷◌, ◌++◌, length, refl, sym, ◌∙◌, subst, arith}
use Rattle.std.specs.Prelude.{⊤, bytes_eq, is_none}
use Rattle.std.specs.List.{AllByRecursion, list_any}
use Rattle.std.proofs.lemmas.Bool.{and_parts, false≢true}
use Rattle.std.proofs.lemmas.List.{length-replicate}
use Rattle.stm_image.specs.Lay.{lay}
use Rattle.stm_image.specs.Pairs.{Pairs}
use Rattle.stm_wire.proofs.Names.{ChipData, erased_byte, erased_page, page_count, page_offset, page_size}
use Rattle.stm_journal.specs.declared.entry.Entry.TheVariants.{Names, Opens, Keeps, Ends}
use Rattle.stm_journal.proofs.Names.{begin_entries, StateData, version_for}
use Rattle.stm_session.specs.declared.change.Change.{Change}
use Rattle.stm_session.specs.declared.change.Change.TheVariants as change
use Rattle.stm_session.specs.declared.fault.Fault.{Fault}
use Rattle.stm_session.proofs.Names.{Adds, AreBegun, AreDoneInOrder, AreTurned, begins, CommandData, confirmed_at, content, ends, has_companion, is_change, IsBegunIf, IsChangedUnless, IsDoneIf}
use Rattle.stm_session.proofs.Names.{IsLookedAgain, IsReading, IsSaved, IsSavedWith, IsSegmentBegun, IsTurnOf, looks, none, OutcomeData, page_address, page_reads, Sends, Step, turns}
use Rattle.stm_session.specs.ChangeOrder.{more}
use Rattle.stm_session.specs.RunOrder.{none as nothing_done, more as more_done}
use Rattle.stm_session.specs.Kept.{reads}
use Rattle.stm_session.specs.lemmas.ClosingLaws.{goes_on, looked_by, segment_is_begun}
use Rattle.stm_any_line.specs.Segments.{IsNewest, saved, segments_behind_steps, with_saved_page}
use Rattle.stm_any_line.specs.Tracks.{IsJustRead, sends, SendReads, Tracks}
use Rattle.stm_any_line.proofs.Tracking.{Segments, IsBegun, behind-append, begun-more, just_read, just_then, newest-more, newest-new, reads-then, tracks_as, tracks_front, tracks_then}
use Rattle.stm_any_line.proofs.Pieces.{reads_leave, reads_only, reads_track, rewrite_stays}

-- steps in a segment that is begun, behind which it keeps what it kept
record Leaves (chip : ChipData) (s : Segments) (b steps : List Step) (P : Segments → Type 0) : Type 0 where
  tracks : Tracks chip s b steps
  begun : IsBegun (segments_behind_steps s steps)
  still : (m : ℕ) → IsNewest m s → IsNewest m (segments_behind_steps s steps)
  holds : P (segments_behind_steps s steps)

leaves_nothing : (chip : ChipData) (s : Segments) (b : List Step) (P : Segments → Type 0) → IsBegun s → P s → Leaves chip s b [] P
leaves_nothing chip s b P begun p = record { tracks = tt; begun = begun; still = λ m is. is; holds = p }

leaves_as : (chip : ChipData) (s : Segments) (b xs ys : List Step) (P : Segments → Type 0) → ys ≡ xs → Leaves chip s b xs P → Leaves chip s b ys P
leaves_as chip s b xs ys P is p = let Q : List Step → Type 0 = λ zs. Leaves chip s b zs P in subst Q (sym is) p

leaves_one : (chip : ChipData) (s : Segments) (b : List Step) (n : ℕ) (held : List ℕ) (P : Segments → Type 0) → IsBegun s → IsJustRead chip n held b → P (with_saved_page (saved n held) s) → Leaves chip s b (Adds (Keeps n held ∷ []) ∷ []) P
leaves_one chip s b n held P begun just p =
    record { tracks = ((just, tt), tt); begun = begun-more s (saved n held) begun; still = λ m is. newest-more s (saved n held) m is; holds = p }

leaves_same : (chip : ChipData) (s : Segments) (b steps : List Step) (P : Segments → Type 0) → IsBegun s → Tracks chip s b steps → segments_behind_steps s steps ≡ s → P s → Leaves chip s b steps P
leaves_same chip s b steps P begun tracks same p =
    record {
      tracks = tracks;
      begun = subst IsBegun (sym same) begun;
      still = λ m is. let Q : Segments → Type 0 = λ t. IsNewest m t in subst Q (sym same) is;
      holds = subst P (sym same) p;
    }

leaves_then : (chip : ChipData) (s : Segments) (b xs ys : List Step) (P Q : Segments → Type 0) → Leaves chip s b xs P
    → ((t : Segments) → IsBegun t → ((m : ℕ) → IsNewest m s → IsNewest m t) → P t → Leaves chip t (b ++ xs) ys Q) → Leaves chip s b (xs ++ ys) Q
leaves_then chip s b xs ys P Q p next =
    let mid : Segments = segments_behind_steps s xs in
    let q = next mid p.begun p.still p.holds in
    let same = sym (behind-append s xs ys) in
    record {
      tracks = tracks_then chip s b xs ys p.tracks q.tracks;
      begun = subst IsBegun same q.begun;
      still = λ m is. let R : Segments → Type 0 = λ t. IsNewest m t in subst R same (q.still m (p.still m is));
      holds = subst Q same q.holds;
    }

leaves_reads : (chip : ChipData) (s : Segments) (b : List Step) (n : ℕ) (held : List ℕ) (P : Segments → Type 0) → IsBegun s → P s → Leaves chip s b (page_reads chip n held) P
leaves_reads chip s b n held P begun p =
    leaves_same chip s b (page_reads chip n held) P begun (reads_track chip s b (page_address chip n) (page_size chip n / 256) held) (reads_leave s (page_address chip n) (page_size chip n / 256) held) p

-- page n is kept, and page 257 where page 1 is
abbrev Has : ChipData → ℕ → Segments → Type 0
Has chip n s = IsNewest n s × (n ≡ 1 → has_companion chip ≡ true → IsNewest 257 s)

saved_with : (both : Bool) (chip : ChipData) (n : ℕ) (held : List ℕ) (s : Segments) (b steps : List Step) → (n == 1 && has_companion chip) ≡ both → IsBegun s → IsJustRead chip n held b → IsSavedWith both chip n held steps
    → Leaves chip s b steps (Has chip n)
saved_with true chip n held s b steps both begun just saving =
    let first = saving.is_first in
    let read : List Step = page_reads chip 257 first.other in
    let line : List Step = Adds (Keeps 257 first.other ∷ []) ∷ [] in
    let Q : Segments → Type 0 = λ t. IsNewest 257 t in
    let only : SendReads (read ++ line) = reads-then read line (reads_only (page_address chip 257) (page_size chip 257 / 256) first.other) tt in
    let J : List Step → Type 0 = λ l. IsJustRead chip n held (b ++ l) in
    leaves_as chip s b (saving.first ++ Adds (Keeps n held ∷ []) ∷ []) steps (Has chip n) saving.is
    (leaves_then chip s b saving.first (Adds (Keeps n held ∷ []) ∷ []) Q (Has chip n)
    (leaves_as chip s b (read ++ line) saving.first Q first.is
    (leaves_then chip s b read line (λ _. ⊤) Q (leaves_reads chip s b 257 first.other (λ _. ⊤) begun tt)
    (λ t begun2 still _. leaves_one chip t (b ++ read) 257 first.other Q begun2 (just_read chip 257 first.other b first.size) (newest-new t 257 first.other begun2))))
    (λ t begun2 still is.
    leaves_one chip t (b ++ saving.first) n held (Has chip n) begun2 (subst J (sym first.is) (just_then chip n held b (read ++ line) just only))
    (newest-new t n held begun2, λ one has. newest-more t (saved n held) 257 is)))
saved_with false chip n held s b steps both begun just saving =
    leaves_as chip s b (Adds (Keeps n held ∷ []) ∷ []) steps (Has chip n) saving
    (leaves_one chip s b n held (Has chip n) begun just (newest-new s n held begun, λ one has. absurd (alone one has both)))
  where
    alone : n ≡ 1 → has_companion chip ≡ true → (n == 1 && has_companion chip) ≡ false → ⊥
    alone one has is =
        let yes : (1 == 1 && true) ≡ false = subst (λ (c : Bool). (1 == 1 && c) ≡ false) has (subst (λ (m : ℕ). (m == 1 && has_companion chip) ≡ false) one is) in
        false≢true (sym yes)

saved_unless : (kept : Bool) (chip : ChipData) (n : ℕ) (held : List ℕ) (s : Segments) (b steps : List Step) → IsBegun s → IsJustRead chip n held b → (kept ≡ true → Has chip n s) → IsSaved kept chip n held steps → Leaves chip s b steps (Has chip n)
saved_unless true chip n held s b steps begun just already saving = leaves_as chip s b [] steps (Has chip n) saving (leaves_nothing chip s b (Has chip n) begun (already refl))
saved_unless false chip n held s b steps begun just already saving = saved_with (n == 1 && has_companion chip) chip n held s b steps refl begun just saving

-- behind a turn, page 257 is kept where page 1 was changed
abbrev Behind : ChipData → ℕ → Bool → Segments → Type 0
Behind chip n changed s = n ≡ 1 → changed ≡ true → has_companion chip ≡ true → IsNewest 257 s

changed_unless : (same kept : Bool) (chip : ChipData) (n : ℕ) (held page : List ℕ) (s : Segments) (b : List Step) (changed : Bool) (steps : List Step) → changed ≡ not same → length page ≡ page_size chip n
    → IsBegun s → IsJustRead chip n held b → (kept ≡ true → Has chip n s) → IsChangedUnless same kept chip n held page steps → Leaves chip s b steps (Behind chip n changed)
changed_unless true kept chip n held page s b changed steps counts size begun just already is =
    leaves_as chip s b [] steps (Behind chip n changed) is (leaves_nothing chip s b (Behind chip n changed) begun (λ one yes has. absurd (false≢true (sym counts ∙ yes))))
changed_unless false kept chip n held page s b changed steps counts size begun just already is =
    leaves_as chip s b (is.saved ++ _) steps (Behind chip n changed) is.is
    (leaves_then chip s b is.saved _ (Has chip n) (Behind chip n changed) (saved_unless kept chip n held s b is.saved begun just already is.is_saved)
    (λ t begun2 still has.
    let own = rewrite_stays chip n t (b ++ is.saved) page has.0 size in
    leaves_same chip t (b ++ is.saved) _ (Behind chip n changed) begun2 own.tracks own.same (λ one yes companion. has.1 one companion)))

module _ (lengths : (set : Pairs) (address : ℕ) (bytes : List ℕ) → length (lay set address bytes) ≡ length bytes) where
  length-content : (chip : ChipData) (c : Change) (n : ℕ) (held : List ℕ) → length held ≡ page_size chip n → length (content chip c n held) ≡ page_size chip n
  length-content chip (change.Write image) n held size = lengths image.now (chip.base + page_offset chip n) held ∙ size
  length-content chip (change.Erase pages) n held size = by_named (list_any (λ m. m == n) pages.now)
    where
      by_named : (named : Bool) → length (if named then erased_page chip n else held) ≡ page_size chip n
      by_named true = length-replicate {A = ℕ} (page_size chip n) (erased_byte chip)
      by_named false = size

  turn_leaves : (kept : Bool) (chip : ChipData) (c : Change) (n : ℕ) (changed : Bool) (s : Segments) (b steps : List Step) → IsBegun s → (kept ≡ true → Has chip n s) → IsTurnOf kept chip c n changed steps
      → Leaves chip s b steps (Behind chip n changed)
  turn_leaves kept chip c n changed s b steps begun already (inl left) =
      leaves_as chip s b [] steps (Behind chip n changed) left.is (leaves_nothing chip s b (Behind chip n changed) begun (λ one yes has. absurd (false≢true (sym left.unchanged ∙ yes))))
  turn_leaves kept chip c n changed s b steps begun already (inr turn) =
      let read : List Step = page_reads chip n turn.held in
      leaves_as chip s b (read ++ turn.later) steps (Behind chip n changed) turn.is
      (leaves_then chip s b read turn.later (λ t. kept ≡ true → Has chip n t) (Behind chip n changed) (leaves_reads chip s b n turn.held (λ t. kept ≡ true → Has chip n t) begun already)
      (λ t begun2 still has.
      changed_unless (bytes_eq turn.held (content chip c n turn.held)) kept chip n turn.held (content chip c n turn.held) t (b ++ read) changed turn.later turn.counts (length-content chip c n turn.held turn.size) begun2 (just_read chip n turn.held b turn.size) has
      turn.is_changed))

  -- what was kept before page 257
  before_turn : (chip : ChipData) (n : ℕ) (was : Bool) (s : Segments) → n < page_count chip → (was ≡ true → has_companion chip ≡ true → IsNewest 257 s) → (n == 257 && was) ≡ true → Has chip n s
  before_turn chip n was s here kept is =
      let parts = and_parts (n == 257) was is in
      let number : n ≡ 257 = grind (arith, parts.0) in
      let has : has_companion chip ≡ true = grind (arith, number, here) in
      let P : ℕ → Type 0 = λ m. Has chip m s in
      subst P (sym number) (kept parts.1 has, λ one companion. kept parts.1 has)

  abbrev Turned : ChipData → Bool → Segments → Type 0
  Turned chip first s = first ≡ true → has_companion chip ≡ true → IsNewest 257 s

  turned_leave : (chip : ChipData) (c : Change) (n : ℕ) (first : Bool) (s : Segments) (b steps : List Step) → n ≤ page_count chip → IsBegun s → AreTurned chip c n first steps → Leaves chip s b steps (Turned chip first)
  turned_leave chip c zero false s b [] le begun none = leaves_nothing chip s b (Turned chip false) begun (λ yes has. absurd (false≢true yes))
  turned_leave chip c _ _ s b _ le begun (more n was changed before own are turn) =
      let so_far = turned_leave chip c n was s b before (omega (arith, le)) begun are in
      let here : n < page_count chip = omega (arith, le) in
      let first = if n == 1 then changed else was in
      leaves_then chip s b before own (Turned chip was) (Turned chip first) so_far
      (λ t begun2 still kept.
      let own_leaves = turn_leaves (n == 257 && was) chip c n changed t (b ++ before) own begun2 (before_turn chip n was t here kept) turn in
      record { tracks = own_leaves.tracks; begun = own_leaves.begun; still = own_leaves.still; holds = by_first n was changed _ (λ yes has. own_leaves.still 257 (kept yes has)) own_leaves.holds })
    where
      by_first : (n : ℕ) (was changed : Bool) (t : Segments) → Turned chip was t → Behind chip n changed t → Turned chip (if n == 1 then changed else was) t
      by_first n was changed t kept behind = at (n == 1) refl
        where
          at : (one : Bool) → (n == 1) ≡ one → Turned chip (if one then changed else was) t
          at true is = behind (grind (arith, is))
          at false is = kept

  -- the first lines of a segment
  record Begins (chip : ChipData) (s : Segments) (b steps : List Step) : Type 0 where
    tracks : Tracks chip s b steps
    same : segments_behind_steps s steps ≡ [] ∷ s

  begun_lines : (chip : ChipData) (s : StateData) (t : Segments) (b : List Step) → Begins chip t b (Adds (begin_entries chip.id chip.unique s) ∷ [])
  begun_lines chip s t b = by_none (is_none s.header)
    where
      by_none : (none : Bool) → Begins chip t b (Adds (if none then Names (version_for chip.unique) chip.id chip.unique ∷ Opens (length s.stack + 1) ∷ [] else Opens (length s.stack + 1) ∷ []) ∷ [])
      by_none true = record { tracks = ((tt, (tt, tt)), tt); same = refl }
      by_none false = record { tracks = ((tt, tt), tt); same = refl }

  -- steps that come behind these first lines
  in_segment : (chip : ChipData) (s : StateData) (t : Segments) (b pages : List Step) → ((u : Segments) → IsBegun u → Tracks chip u (b ++ Adds (begin_entries chip.id chip.unique s) ∷ []) pages)
      → Tracks chip t b (Adds (begin_entries chip.id chip.unique s) ∷ pages)
  in_segment chip s t b pages next =
      let first : List Step = Adds (begin_entries chip.id chip.unique s) ∷ [] in
      let lines = begun_lines chip s t b in
      tracks_then chip t b first pages lines.tracks (next (segments_behind_steps t first) (subst IsBegun (sym lines.same) tt))

  -- the question behind the last frame
  looked_tracks : (chip : ChipData) (s : Segments) (steps : List Step) → IsLookedAgain (confirmed_at chip) steps → (b : List Step) → Tracks chip s b steps
  looked_tracks chip s steps =
      looked_by (λ xs. (b : List Step) → Tracks chip s b xs) (confirmed_at chip) steps (λ b. tt) (λ place frame later at look p b. (sends (looks place look), p (b ++ Sends frame ∷ [])))

  -- a beginning of a segment
  segment_begun : (chip : ChipData) (c : Change) (s : StateData) (t : Segments) (b steps : List Step) → IsSegmentBegun chip c s steps → Tracks chip t b steps
  segment_begun chip c s t b steps (begins (rest, is)) = tracks_front chip t b steps rest (tracks_as chip t b _ (steps ++ rest) is (begun_lines chip s t b).tracks)
  segment_begun chip c s t b steps (turns pages begun is) =
      tracks_as chip t b _ steps is
      (in_segment chip s t b pages (λ u opened.
      tracks_as chip u _ (begun.before ++ begun.own) pages begun.is
      (let turned = turned_leave chip c begun.page begun.first u _ begun.before (omega (arith, begun.exists)) opened begun.are_turned in
      let mid : Segments = segments_behind_steps u begun.before in
      let already = before_turn chip begun.page begun.first mid begun.exists turned.holds in
      let rest = begun.is_begun.0 in
      let turn = begun.is_begun.1 in
      let own = turn_leaves (begun.page == 257 && begun.first) chip c begun.page turn.0 mid _ (begun.own ++ rest) turned.begun already turn.1 in
      tracks_then chip u _ begun.before begun.own turned.tracks (tracks_front chip mid _ begun.own rest own.tracks))))
  segment_begun chip c s t b steps (ends turned own are part is) =
      let line : List Step = Adds (Ends (length s.stack + 1) ∷ []) ∷ [] in
      let on = goes_on chip line (Adds (begin_entries chip.id chip.unique s) ∷ turned) own steps part is in
      tracks_front chip t b steps on.1
      (tracks_as chip t b _ (steps ++ on.1) on.3
      (in_segment chip s t b (turned ++ (on.0 ++ line)) (λ u begun.
      let pages = turned_leave chip c (page_count chip) are.0 u _ turned (omega arith) begun are.1 in
      tracks_then chip u _ turned _ pages.tracks (tracks_then chip _ _ on.0 line (looked_tracks chip _ on.0 on.2 _) ((tt, tt), tt)))))

  -- frames that read
  readings_track : (chip : ChipData) (t : Segments) (b steps : List Step) → AllByRecursion (IsReading chip) steps → Tracks chip t b steps
  readings_track chip t b [] are = tt
  readings_track chip t b (step ∷ steps) (is, are) =
      let P : Step → Type 0 = λ x. Tracks chip t b (x ∷ []) in
      tracks_then chip t b (step ∷ []) steps (subst P (sym is.is) (sends (reads is.address is.answer refl), tt)) (readings_track chip (segments_behind_steps t (step ∷ [])) (b ++ step ∷ []) steps are)

  -- commands
  done_by : (changes : Bool) (chip : ChipData) (c : CommandData) (s : StateData) (t : Segments) (b steps : List Step) → IsDoneIf changes chip c s steps → Tracks chip t b steps
  done_by true chip c s t b steps (change, is, segment) = segment_begun chip change s t b steps (segment_is_begun chip change s steps segment)
  done_by false chip c s t b steps are = readings_track chip t b steps are

  pub done_tracks : (chip : ChipData) (commands : List CommandData) (outcomes : List OutcomeData) (s last : StateData) (t : Segments) (b steps : List Step) → AreDoneInOrder chip commands outcomes s last steps → Tracks chip t b steps
  done_tracks chip _ _ _ _ t b _ (nothing_done s) = tt
  done_tracks chip _ _ _ _ t b _ (more_done commands c outcomes said s mid last before own are is depth) =
      tracks_then chip t b before own (done_tracks chip commands outcomes s mid t b before are) (done_by (is_change c) chip c mid _ _ own is.0)

  begun_by : (changes : Bool) (chip : ChipData) (c : CommandData) (s : StateData) (t : Segments) (b steps : List Step) → IsBegunIf changes chip c s steps → Tracks chip t b steps
  begun_by true chip c s t b steps (change, is, segment) = segment_begun chip change s t b steps segment
  begun_by false chip c s t b steps are = readings_track chip t b steps are

  pub begun_track : (fault : Fault) (chip : ChipData) (commands : List CommandData) (s : StateData) (t : Segments) (b steps : List Step) → AreBegun fault chip commands s steps → Tracks chip t b steps
  begun_track fault chip commands s t b steps (inl is) = tracks_as chip t b [] steps is tt
  begun_track fault chip commands s t b steps (inr begun) =
      tracks_as chip t b _ steps begun.is
      (tracks_then chip t b begun.before begun.own (done_tracks chip begun.earlier begun.outcomes s begun.mid t b begun.before begun.are_done)
      (begun_by (is_change begun.command) chip begun.command begun.mid _ _ begun.own begun.is_begun))
