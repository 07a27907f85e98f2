-- What the steps of an undo put on any line, whole or cut short: what the greatest flash allows for each segment, and for the pages at work.
use Rattle.std.proofs.Common.{◌≡◌, ℕ, zero, suc, ◌+◌, ◌*◌, ◌/◌, ◌<◌, ◌≤◌, ◌==◌, ◌&&◌, Bool, true, false, if◌then◌else◌, List, [], ◌∷◌, ◌++◌, length, take, drop, Option, Some, None, refl, sym, ◌∙◌, ap, subst, arith, append_assoc, eqb-true, length-take}
use Rattle.std.specs.Prelude.{bytes_eq}
use Rattle.std.proofs.lemmas.List.{length-drop}
use Rattle.std.proofs.lemmas.List.Elements.{All-get_or}
use Rattle.stm_wire.specs.declared.intent.Intent.{Intent}
use Rattle.stm_wire.specs.declared.places.UniquePlace.{UniquePlace}
use Rattle.stm_wire.proofs.Names.{ChipData, erased_byte, IsChip, IsFrame, IsPageSize, page_count, page_size, read_frame, read_turns}
use Rattle.stm_wire.specs.lemmas.DialogueLaws.{length-read_turns, read_sends}
use Rattle.stm_chip.specs.Plan.{frames_of}
use Rattle.stm_journal.specs.declared.entry.Entry.TheVariants.{Undoes}
use Rattle.stm_journal.specs.declared.kept.Kept.{Kept}
use Rattle.stm_journal.proofs.Names.{AllFit, AllKeptFit, AllOnce, intent_of, intent_page, IsSound, keeps, newest_has, newest_keeps, pages_of_segments, SegmentData, StateData}
use Rattle.stm_journal.specs.lemmas.FitsLaws.{fits-exists}
use Rattle.stm_session.proofs.Names.{Adds, AreAllUndone, AreGivenBack, AreRewritten, AreSegmentsUndone, BeginTold, closing, closing_steps, confirmed_at, elsewhere, EndsOtherwise, IsAsked, IsGivenBack}
use Rattle.stm_session.proofs.Names.{IsLookedAgain, IsRewritten, misread, most_of_command, most_of_undo, OrMisread, page_address, page_reads, pages_at_work, pages_of_intent, read_steps, return_steps}
use Rattle.stm_session.proofs.Names.{rewrite_steps, Sends, so_far, Step, such, Tells, tells_behind}
use Rattle.stm_session.specs.lemmas.ClosingLaws.{closing_is_looked, place_known}
use Rattle.stm_session.proofs.AskingBoards.{refused_length}
use Rattle.stm_session.proofs.LookingAgain.{put_looked}
use Rattle.stm_session.proofs.PageSums.{kept_size, kept_within}
use Rattle.stm_session.proofs.SentChanges.{put_rewritten}
use Rattle.stm_session.proofs.SentPages.{put_page}
use Rattle.stm_session.proofs.SentSteps.{AreSent, PutFew, count-append, count_of, put_as, put_front, put_none, put_then, sent_parts, sent_then}
use Rattle.stm_session.proofs.Work.{both_within, newest_exists}

-- other bytes may come by the same frames
alike : (chip : ChipData) (address blocks : ℕ) (bytes other : List ℕ) → length other ≡ length bytes
    → (AreSent (Some chip) (read_steps address blocks bytes) → AreSent (Some chip) (read_steps address blocks other)) × (count_of (read_steps address blocks other) ≡ count_of (read_steps address blocks bytes))
alike chip address zero bytes other same = (λ sent. sent, refl)
alike chip address (suc blocks) bytes other same =
    let from = 256 * blocks in
    let at = address + from in
    let xs = take 256 (drop from bytes) in
    let ys = take 256 (drop from other) in
    let long : length xs ≡ length ys = omega (arith, length-take 256 (drop from bytes), length-take 256 (drop from other), length-drop from bytes, length-drop from other, same) in
    let own : List Step = Sends (read_turns at xs) ∷ [] in
    let came : List Step = Sends (read_turns at ys) ∷ [] in
    let before = alike chip address blocks bytes other same in
    let F : List ℕ → Type 0 = λ frame. IsFrame (Some chip) frame in
    let frame = read_sends at xs ∙ ap (λ (n : ℕ). read_frame at n) long ∙ sym (read_sends at ys) in (
      λ sent.
          let parts = sent_parts (Some chip) (read_steps address blocks bytes) own sent in
          sent_then (Some chip) (read_steps address blocks other) came (before.0 parts.0) (subst F frame parts.1.0, tt),
      omega (arith, before.1, count-append (read_steps address blocks bytes) own, count-append (read_steps address blocks other) came, length-read_turns at xs, length-read_turns at ys, long),
    )

-- nor does another answer to the question behind the last frame put more
looked_count : (chip : ChipData) (o : Option UniquePlace) (steps : List Step) → confirmed_at chip ≡ o → IsLookedAgain o steps → count_of steps ≤ count_of (closing_steps o chip)
looked_count chip None steps at is = omega (arith, ap count_of is)
looked_count chip (Some place) steps at (high, low, (own, is, (came, asked))) =
    let long = eqb-true (length chip.unique) place.length (place_known chip.places.unique chip.unique place at).1 in
    omega (arith, ap count_of is, long, length-read_turns place.address chip.unique, last came asked)
  where
    last : (came : Option (List ℕ)) → IsAsked place.address place.length came own → count_of own ≤ 12 + place.length
    last (Some bytes) (size, same) = omega (arith, ap count_of same, size, length-read_turns place.address bytes)
    last None (frame, turns, refused, same) = omega (arith, ap count_of same, refused_length place.address place.length frame turns refused)

-- what came otherwise put no more
put_otherwise : (chip : ChipData) (most : ℕ) (P Comes : List Step → Type 0) (due steps : List Step) → ((xs : List Step) → P xs → PutFew (Some chip) most xs) → ((xs : List Step) → Comes xs → AreSent (Some chip) due → PutFew (Some chip) (count_of due) xs) → EndsOtherwise P due Comes steps
    → PutFew (Some chip) most steps
put_otherwise chip most P Comes due steps few comes o =
    let all = few (o.before ++ due) o.own in
    let parts = sent_parts (Some chip) o.before due all.sent in
    let rest = o.begun.0 in
    let came : List Step = o.came ++ rest in
    let other = comes came o.begun.1 parts.1 in
    let whole : PutFew (Some chip) most (o.before ++ came) = record {
      sent = sent_then (Some chip) o.before came parts.0 other.sent;
      few = omega (arith, all.few, other.few, count-append o.before due, count-append o.before came);
    } in
    put_front (Some chip) most steps rest (put_as (Some chip) most most (o.before ++ came) (steps ++ rest) (omega arith) (ap (λ (l : List Step). l ++ rest) o.is ∙ append_assoc o.before o.came rest) whole)

module _ (chip : ChipData) (limits : IsChip chip) where
  put_nothing : (most : ℕ) (steps : List Step) → steps ≡ [] → PutFew (Some chip) most steps
  put_nothing most steps is = put_as (Some chip) most most [] steps (omega arith) is (put_none (Some chip) most)

  -- a page is rewritten
  put_one : (Told : Tells) (n : ℕ) (steps : List Step) → n < page_count chip → IsRewritten chip Told n steps → PutFew (Some chip) (3 * page_size chip n) steps
  put_one Told n steps exists is =
      let some = All-get_or IsPageSize chip.sizes n 0 exists limits.sizes in
      put_as (Some chip) (9 + 2 * length is.page) (3 * page_size chip n) _ steps (omega (arith, is.size, some.0)) is.is (put_rewritten chip n is.page exists is.size)

  -- or given back, and read again or not
  put_given : (again : Bool) (Told : Tells) (n : ℕ) (steps : List Step) → n < page_count chip → IsGivenBack again chip Told n steps → PutFew (Some chip) (7 * page_size chip n) steps
  put_given again Told n steps exists given =
      let size = page_size chip n in
      put_as (Some chip) (2 * size + 5 * size) (7 * size) _ steps (omega arith) given.is
      (put_then (Some chip) (2 * size) (5 * size) (page_reads chip n given.held) _ (put_page chip n exists given.held given.held_size) (returned again))
    where
      some : IsPageSize (page_size chip n)
      some = All-get_or IsPageSize chip.sizes n 0 exists limits.sizes

      gave : (same : Bool) → PutFew (Some chip) (3 * page_size chip n) (if same then [] else rewrite_steps chip n given.page (frames_of (erased_byte chip) given.page (length given.page / 256)))
      gave true = put_none (Some chip) (3 * page_size chip n)
      gave false = put_as (Some chip) (9 + 2 * length given.page) (3 * page_size chip n) _ _ (omega (arith, given.size, some.0)) refl (put_rewritten chip n given.page exists given.size)

      returned : (b : Bool) → PutFew (Some chip) (5 * page_size chip n) (return_steps b chip n given.held given.page)
      returned false = put_as (Some chip) (3 * page_size chip n) (5 * page_size chip n) _ _ (omega arith) refl (gave (bytes_eq given.held given.page))
      returned true =
          let size = page_size chip n in
          put_as (Some chip) (3 * size + 2 * size) (5 * size) _ _ (omega arith) refl (put_then (Some chip) (3 * size) (2 * size) _ (page_reads chip n given.page) (gave (bytes_eq given.held given.page)) (put_page chip n exists given.page given.size))

  -- the pages of a segment,
  put_pages : (again : Bool) (Told : Tells) (pages : List Kept) (steps : List Step) → AllKeptFit chip pages → AreGivenBack again chip Told pages steps → PutFew (Some chip) (7 * kept_size chip pages) steps
  put_pages again Told [] steps fit is = put_nothing 0 steps is
  put_pages again Told (kept ∷ pages) steps (fits, fit) (first, rest, is, one, more) =
      let own = 7 * page_size chip kept.page in
      let others = 7 * kept_size chip pages in
      put_as (Some chip) (own + others) (7 * kept_size chip (kept ∷ pages)) (first ++ rest) steps (omega arith) is
      (put_then (Some chip) own others first rest (put_given again Told kept.page first (fits-exists chip kept fits) one) (put_pages again (tells_behind first Told) pages rest fit more))

  -- and of some
  put_segments : (again : Bool) (Told : Tells) (taken : ℕ) (stack : List SegmentData) (steps : List Step) → AllOnce stack → AllFit chip stack → AreSegmentsUndone again chip Told taken (pages_of_segments stack) steps
      → PutFew (Some chip) (taken * most_of_command) steps
  put_segments again Told zero stack steps once fits is = put_nothing 0 steps is
  put_segments again Told (suc taken) [] steps once fits none = absurd none
  put_segments again Told (suc taken) (segment ∷ below) steps once fits (first, rest, is, one, more) =
      let last : List Step = Adds (Undoes (length (pages_of_segments below) + 1) ∷ []) ∷ [] in
      let size = kept_size chip segment.pages in
      let line : PutFew (Some chip) 0 last = record { sent = tt; few = omega arith } in
      let own = put_as (Some chip) (7 * size + (51 + 0)) 27262976 _ first (omega (arith, kept_within chip segment.pages once.0 fits.0, limits.size)) one.is
      (put_then (Some chip) (7 * size) (51 + 0) one.returns _ (put_pages again Told segment.pages one.returns fits.0 one.are_returns) (put_then (Some chip) 51 0 (closing chip) last (put_looked chip limits (closing chip) (closing_is_looked chip)) line)) in
      put_as (Some chip) (27262976 + taken * 27262976) (suc taken * most_of_command) (first ++ rest) steps (omega arith) is
      (put_then (Some chip) 27262976 (taken * 27262976) first rest own (put_segments again (tells_behind first Told) taken below rest once.1 fits.1 more))

  -- of a journal: the pages at work exist,
  module _ (s : StateData) (sound : IsSound s) (fits : AllFit chip s.stack) where
    put_beside : (one kept : Bool) (Told : Tells) (steps : List Step) → (kept ≡ true → 257 < page_count chip) → AreRewritten chip Told (if one && kept then 257 ∷ [] else []) steps → PutFew (Some chip) (if one then 3 * page_size chip 257 else 0) steps
    put_beside true true Told steps exists (first, rest, is, one, none) =
        let most = 3 * page_size chip 257 in
        put_as (Some chip) (most + 0) most (first ++ rest) steps (omega arith) is (put_then (Some chip) most 0 first rest (put_one Told 257 first (exists refl) one) (put_nothing 0 rest none))
    put_beside true false Told steps exists is = put_nothing (3 * page_size chip 257) steps is
    put_beside false kept Told steps exists is = put_nothing 0 steps is

    put_work : (Told : Tells) (steps : List Step) → AreRewritten chip Told (pages_at_work s.stack) steps → PutFew (Some chip) 6291456 steps
    put_work Told steps = by_intent (intent_of s) sound.intended
      where
        by_intent : (o : Option Intent) → ((i : Intent) → o ≡ Some i → newest_keeps (intent_page i) s ≡ true) → AreRewritten chip Told (pages_of_intent o (newest_has (λ segment. keeps segment 257) s.stack)) steps → PutFew (Some chip) 6291456 steps
        by_intent None own is = put_nothing 6291456 steps is
        by_intent (Some i) own (first, rest, is, one, more) =
            let n = intent_page i in
            let size = 3 * page_size chip n in
            let other : ℕ = if n == 1 then 3 * page_size chip 257 else 0 in
            put_as (Some chip) (size + other) 6291456 (first ++ rest) steps (omega (arith, both_within chip n, limits.size)) is
            (put_then (Some chip) size other first rest (put_one Told n first (newest_exists chip s.stack n fits (own i refl)) one)
            (put_beside (n == 1) (newest_has (λ segment. keeps segment 257) s.stack) (tells_behind first Told) rest (newest_exists chip s.stack 257 fits) more))

    -- and each undo puts few
    pub put_undone : (again : Bool) (Told : Tells) (taken : ℕ) (steps : List Step) → AreAllUndone again chip Told (pages_at_work s.stack) taken (pages_of_segments s.stack) steps → PutFew (Some chip) (most_of_undo taken) steps
    put_undone again Told taken steps all =
        put_as (Some chip) (6291456 + taken * 27262976) (most_of_undo taken) (all.first ++ all.back) steps (omega arith) all.is
        (put_then (Some chip) 6291456 (taken * 27262976) all.first all.back (put_work Told all.first all.is_first) (put_segments again (tells_behind all.first Told) taken s.stack all.back sound.once fits all.are_back))

    put_begun : (again : Bool) (Told : Tells) (taken : ℕ) (steps : List Step) → BeginTold (λ T. AreAllUndone again chip T (pages_at_work s.stack) taken (pages_of_segments s.stack)) Told steps → PutFew (Some chip) (most_of_undo taken) steps
    put_begun again Told taken steps begun = put_front (Some chip) (most_of_undo taken) steps begun.0 (put_undone again (so_far (length steps) Told) taken (steps ++ begun.0) begun.1)

    pub put_undone_in_part : (again : Bool) (Told : Tells) (taken : ℕ) (steps : List Step) → OrMisread again chip (BeginTold (λ T. AreAllUndone again chip T (pages_at_work s.stack) taken (pages_of_segments s.stack)) Told) steps → PutFew (Some chip) (most_of_undo taken) steps
    put_undone_in_part again Told taken steps (such begun) = put_begun again Told taken steps begun
    put_undone_in_part again Told taken steps (elsewhere o) = put_otherwise chip (most_of_undo taken) _ _ (closing chip) steps (put_begun again Told taken)
        (λ xs looked sent. record { sent = (put_looked chip limits xs looked).sent; few = looked_count chip (confirmed_at chip) xs refl looked }) o
    put_undone_in_part again Told taken steps (misread is n page size o) =
        put_otherwise chip (most_of_undo taken) _ _ (page_reads chip n page) steps (put_begun again Told taken)
        (λ xs read sent.
        let blocks = page_size chip n / 256 in
        let like = alike chip (page_address chip n) blocks page read.held (read.size ∙ sym size) in
        put_as (Some chip) (count_of (page_reads chip n page)) (count_of (page_reads chip n page)) (page_reads chip n read.held) xs (omega arith) read.is (record { sent = like.0 sent; few = omega (arith, like.1) })) o
