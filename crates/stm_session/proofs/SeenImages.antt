-- Each byte of an image that a verified write is of was read after the last change to its page: byte by byte.
use Rattle.std.proofs.Common.{◌≡◌, inl, inr, ℕ, ◌+◌, ◌-◌, ◌*◌, ◌/◌, ◌<◌, ◌≤◌, Bool, true, false, not, IsTrue, List, [], ◌∷◌, ◌++◌, length, take, drop, replicate, slice_index, Some, refl, sym, ap, ◌∙◌, subst, arith, append_assoc, append-nil}
use Rattle.std.specs.Prelude.{Contains, bytes_eq}
use Rattle.std.specs.List.{AllByRecursion}
use Rattle.std.proofs.lemmas.List.{get_or-drop, get_or-replicate, get_or-take, length-drop, length-replicate, length-take}
use Rattle.std.proofs.lemmas.List.Elements.{All-get_or}
use Rattle.std.proofs.lemmas.Slice.Eq.{bytes_eq-Decides}
use Rattle.stm_image.specs.Lay.{lay, laid_byte}
use Rattle.stm_image.specs.Pairs.{Pairs, byte_at}
use Rattle.stm_wire.proofs.Names.{ChipData, erase_turns, erased_byte, InPage, IsPageSize, page_count, page_size, read_turns}
use Rattle.stm_chip.specs.Plan.{frames_of}
use Rattle.stm_journal.specs.declared.entry.Entry.TheVariants.{Ends, Erases}
use Rattle.stm_journal.proofs.Names.{begin_entries, newest_keeps, StateData}
use Rattle.stm_session.proofs.Names.{Adds, Change, closing, command_of, content, IsByteSeen, IsChangedUnless, IsOneSegment, IsTurnOf, IsWrittenAndSeen, KeepsErased, OutcomeData, page_address}
use Rattle.stm_session.proofs.Names.{page_reads, program_steps, Sends, SparesPage, Step}
use Rattle.stm_session.specs.declared.change.Change.TheVariants as change
use Rattle.stm_session.specs.Meaning.{writes}
use Rattle.stm_session.proofs.KeptErased.{each_readings, each_then}
use Rattle.stm_session.proofs.KeptParts.{place_inside}
use Rattle.stm_session.proofs.SeenBytes.{HasTurn, alone_end, alone_read, block_at, byte_here, page_here, place_at, turn_at}

-- what is so of all steps is so of one
at_step : (P : Step → Type 0) (xs : List Step) (x : Step) (ys : List Step) → AllByRecursion P (xs ++ x ∷ ys) → P x
at_step P [] x ys (first, p) = first
at_step P (y ∷ xs) x ys (first, p) = at_step P xs x ys p

read_block : (b : Step) (before front : List Step) (x : Step) (back later ends read : List Step)
    → (b ∷ ((before ++ ((front ++ x ∷ back) ++ later)) ++ ends)) ++ read ≡ (b ∷ (before ++ front)) ++ x ∷ (back ++ (later ++ (ends ++ read)))
read_block b before front x back later ends read = simp append_assoc

erased_line : (b : Step) (before front saved : List Step) (x : Step) (back later ends : List Step)
    → b ∷ ((before ++ ((front ++ (saved ++ x ∷ back)) ++ later)) ++ ends) ≡ (b ∷ (before ++ (front ++ saved))) ++ x ∷ (back ++ (later ++ ends))
erased_line b before front saved x back later ends = simp append_assoc

module _ (lengths : (set : Pairs) (address : ℕ) (bytes : List ℕ) → length (lay set address bytes) ≡ length bytes)
    (each : (set : Pairs) (address : ℕ) (bytes : List ℕ) (i : ℕ) → i < length bytes → slice_index (lay set address bytes) i ≡ laid_byte (byte_at set (address + i)) (slice_index bytes i)) where
  -- a byte of what was laid
  laid_here : (set : Pairs) (address : ℕ) (bytes : List ℕ) (p : ℕ × ℕ) → byte_at set p.0 ≡ Some p.1 → address ≤ p.0 → p.0 - address < length bytes → slice_index (lay set address bytes) (p.0 - address) ≡ p.1
  laid_here set address bytes p is from within =
      let k = p.0 - address in
      let at : address + k ≡ p.0 = omega (arith, from) in
      each set address bytes k within ∙ ap (λ o. laid_byte o (slice_index bytes k)) (ap (byte_at set) at ∙ is)

  module _ (chip : ChipData) (image part : Pairs) (outcomes : List OutcomeData) (s last : StateData) (steps : List Step) (seen : IsWrittenAndSeen chip image part outcomes s last steps) (p : ℕ × ℕ) (held : Contains image p)
      (n : ℕ) (exists : n < page_count chip) (low : page_address chip n ≤ p.0) (high : p.0 < page_address chip n + page_size chip n) where
    is_there : byte_at image p.0 ≡ Some p.1
    is_there = byte_here image p seen.image_is.rises held

    in_page : InPage chip n p.0 1
    in_page = record { exists = exists; begins = low; ends = omega (arith, high) }

    abbrev ends : List Step
    ends = closing chip ++ Adds (Ends (length s.stack + 1) ∷ []) ∷ []

    abbrev begins : Step
    begins = Adds (begin_entries chip.id chip.unique s)

    -- a page that was changed was read again
    again : IsTrue (newest_keeps n last) → IsByteSeen chip p steps
    again keeps =
        let has = seen.has_kept n exists keeps p (record { held = held; from = low; within = high }) in
        let agree = seen.is_read.1 in
        let below = agree.1 p has in
        let found = place_at chip n part p chip.base agree.0 seen.read seen.part_is.rises has (omega (arith, low)) below seen.is_read.0 agree.2 in
        record {
          page = n;
          in_page = in_page;
          before = seen.written ++ found.before;
          address = found.address;
          answer = found.answer;
          from = found.from;
          within = found.within;
          came = found.came;
          later = found.later;
          alone = found.alone;
          is = seen.is ∙ ap (λ (l : List Step). seen.written ++ l) found.is ∙ sym (append_assoc seen.written found.before _);
        }

    -- one that wasn't was right when it was read
    before_it : (turned : List Step) (c : Change) (found : HasTurn chip n c turned) (block : List ℕ) → length block ≡ page_size chip n → found.own ≡ page_reads chip n block → slice_index block (p.0 - page_address chip n) ≡ p.1
        → steps ≡ (begins ∷ (turned ++ ends)) ++ seen.read → IsByteSeen chip p steps
    before_it turned c found block size own right is =
        let k = p.0 - page_address chip n in
        let i = k / 256 in
        let sized : IsPageSize (page_size chip n) = All-get_or IsPageSize chip.sizes n 0 exists seen.limits.sizes in
        let whole = sized.1 in
        let b = block_at chip n (page_address chip n) (page_size chip n / 256) i block (omega (arith, low, high, whole)) in
        let answer = take 256 (drop (256 * i) block) in
        let long = length-take 256 (drop (256 * i) block) in
        let dropped = length-drop (256 * i) block in
        let j = p.0 - (page_address chip n + 256 * i) in
        let place : 256 * i + j ≡ k = omega (arith, low) in
        let later = b.later ++ (found.later ++ (ends ++ seen.read)) in
        let all : steps ≡ (begins ∷ (found.before ++ b.before)) ++ Sends (read_turns (page_address chip n + 256 * i) answer) ∷ later =
        is ∙ ap (λ (t : List Step). (begins ∷ (t ++ ends)) ++ seen.read) (found.is ∙ ap (λ (o : List Step). found.before ++ (o ++ found.later)) (own ∙ b.is))
        ∙ read_block begins found.before b.before (Sends (read_turns (page_address chip n + 256 * i) answer)) b.later found.later ends seen.read in
        record {
          page = n;
          in_page = in_page;
          before = begins ∷ (found.before ++ b.before);
          address = page_address chip n + 256 * i;
          answer = answer;
          from = omega (arith, low);
          within = omega (arith, low, high, whole, size, long, dropped);
          came = get_or-take 256 (drop (256 * i) block) j 0 (omega (arith, low)) ∙ get_or-drop (256 * i) block j 0 ∙ ap (slice_index block) place ∙ right;
          later = later;
          alone = each_then (SparesPage chip n) b.later _ b.alone (each_then (SparesPage chip n) found.later _ found.alone (each_then (SparesPage chip n) ends seen.read (alone_end chip n (length s.stack + 1)) (each_readings (SparesPage chip n) chip (alone_read chip n) seen.read seen.is_read.0)));
          is = all;
        }

    -- by what its turn did
    by_turn : (turned : List Step) (c : Change) (is : steps ≡ (begins ∷ (turned ++ ends)) ++ seen.read) (written : seen.written ≡ begins ∷ (turned ++ ends)) (made : (block : List ℕ) → content chip c n block ≡ lay image (page_address chip n) block)
        → (found : HasTurn chip n c turned) → IsTurnOf found.kept chip c n found.changed found.own → IsByteSeen chip p steps
    by_turn turned c is written made found (inl left) =
        let size = page_size chip n in
        let k = p.0 - page_address chip n in
        let other : List ℕ = replicate size (p.1 + 1) in
        let long : length other ≡ size = length-replicate {A = ℕ} size (p.1 + 1) in
        let kept : lay image (page_address chip n) other ≡ other = sym (made other) ∙ left.same other long in
        let right = laid_here image (page_address chip n) other p is_there low (omega (arith, low, high, long)) in
        let wrong : slice_index other k ≡ p.1 + 1 = get_or-replicate size k (p.1 + 1) 0 (omega (arith, low, high)) in
        let both : p.1 + 1 ≡ p.1 = sym wrong ∙ ap (λ (l : List ℕ). slice_index l k) (sym kept) ∙ right in
        absurd (omega (arith, both))
    by_turn turned c is written made found (inr turn) = unless (bytes_eq turn.held (content chip c n turn.held)) refl turn.is_changed
      where
        unless : (same : Bool) → bytes_eq turn.held (content chip c n turn.held) ≡ same → IsChangedUnless same found.kept chip n turn.held (content chip c n turn.held) turn.later → IsByteSeen chip p steps
        unless true e nothing =
            let block = turn.held in
            let k = p.0 - page_address chip n in
            let same : block ≡ lay image (page_address chip n) block = (bytes_eq-Decides block (content chip c n block)).0 e ∙ made block in
            let right = ap (λ (l : List ℕ). slice_index l k) same ∙ laid_here image (page_address chip n) block p is_there low (omega (arith, low, high, turn.size)) in
            before_it turned c found block turn.size (turn.is ∙ ap (λ (l : List Step). page_reads chip n block ++ l) nothing ∙ append-nil (page_reads chip n block)) right is
        unless false e given =
            let page = content chip c n turn.held in
            let line : Step = Adds (Erases n ∷ []) in
            let tail : List Step = Sends (erase_turns chip.kind n) ∷ program_steps chip n page (frames_of (erased_byte chip) page (length page / 256)) in
            let own : found.own ≡ page_reads chip n turn.held ++ (given.saved ++ line ∷ tail) = turn.is ∙ ap (λ (l : List Step). page_reads chip n turn.held ++ l) given.is in
            let all : seen.written ≡ (begins ∷ (found.before ++ (page_reads chip n turn.held ++ given.saved))) ++ line ∷ (tail ++ (found.later ++ ends)) =
            written ∙ ap (λ (t : List Step). begins ∷ (t ++ ends)) (found.is ∙ ap (λ (o : List Step). found.before ++ (o ++ found.later)) own)
            ∙ erased_line begins found.before (page_reads chip n turn.held) given.saved line tail found.later ends in
            let K : List Step → Type 0 = λ xs. AllByRecursion (KeepsErased last) xs in
            again (at_step (KeepsErased last) (begins ∷ (found.before ++ (page_reads chip n turn.held ++ given.saved))) line (tail ++ (found.later ++ ends)) (subst K all seen.keeps) n refl)

    by_change : (c : Change) → command_of c ≡ writes image → IsOneSegment chip c s seen.written → IsByteSeen chip p steps
    by_change (change.Write i) is segment =
        let same : i.now ≡ image = cc in
        let made : (block : List ℕ) → content chip (change.Write i) n block ≡ lay image (page_address chip n) block = λ block. ap (λ (set : Pairs). lay set (page_address chip n) block) same in
        let found = turn_at chip n lengths (change.Write i) (page_count chip) segment.are_turned.0 segment.turned exists segment.are_turned.1 in
        by_turn segment.turned (change.Write i) (seen.is ∙ ap (λ (w : List Step). w ++ seen.read) segment.is) segment.is made found found.turn
    by_change (change.Erase pages) is segment = cc

  pub sees_byte : (chip : ChipData) (image part : Pairs) (outcomes : List OutcomeData) (s last : StateData) (steps : List Step) → IsWrittenAndSeen chip image part outcomes s last steps → (p : ℕ × ℕ) → Contains image p → IsByteSeen chip p steps
  sees_byte chip image part outcomes s last steps seen p held =
      let at = page_here chip p.0 (place_inside chip image p held seen.fits) in
      let by = seen.is_written.0 in
      by_change chip image part outcomes s last steps seen p held at.0 at.1 at.2 at.3 by.0 by.1 by.2
