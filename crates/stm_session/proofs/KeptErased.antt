-- The newest segment keeps each page that a command erased.
use Rattle.std.proofs.Common.{◌≡◌, inl, inr, ℕ, zero, suc, ◌+◌, ◌/◌, ◌==◌, ◌&&◌, Bool, true, false, not, if◌then◌else◌, IsTrue, List, [], ◌∷◌, ◌++◌, length, Option, Some, None, Result, Ok, Err, IfOk, refl, sym, ◌∙◌, ap, subst}
use Rattle.std.specs.Prelude.{bytes_eq, is_none}
use Rattle.std.specs.List.{AllByRecursion}
use Rattle.stm_wire.specs.declared.places.UniquePlace.{UniquePlace}
use Rattle.stm_wire.proofs.Names.{ChipData, erased_byte, page_size, read_turns, RigState, Turn}
use Rattle.stm_chip.specs.declared.plan.Frame.{Frame}
use Rattle.stm_chip.specs.Plan.{frames_of}
use Rattle.stm_journal.specs.declared.entry.Entry.TheVariants.{Ends, Keeps, Names, Opens}
use Rattle.stm_journal.proofs.Names.{begin_entries, Loaded, newest_keeps, StateData, version_for}
use Rattle.stm_session.proofs.Names.{Adds, Change, closing, closing_steps, confirmed_at, content, Fault, Follows, has_companion, IsChangedUnless, IsReading, IsSaved, IsSavedWith, IsTurnOf, Keeping}
use Rattle.stm_session.proofs.Names.{KeepsErased, page_address, page_reads, program_steps, read_steps, rewrite_steps, Sends, Step, write_steps}

-- steps that are such are others
pub follows_as : (P Q : List Step → Type 0) (l l2 : Loaded) (a b : RigState) → ((xs : List Step) → P xs → Q xs) → Follows P l l2 a b → Follows Q l l2 a b
follows_as P Q l l2 a b weaker (steps, are, does) = (steps, weaker steps are, does)

pub done_only : {T : Type 0} (s : StateData) (P : T → List Step → Type 0) (l l2 : Loaded) (a b : RigState) (r : Result T Fault) → IfOk r (λ x. Follows (Keeping s (P x)) l l2 a b) → IfOk r (λ x. Follows (P x) l l2 a b)
done_only s P l l2 a b (Ok x) done = follows_as (Keeping s (P x)) (P x) l l2 a b (λ xs p. p.0) done
done_only s P l l2 a b (Err e) done = tt

-- Steps each of which is such.
module _ (P : Step → Type 0) where
  abbrev pub Each : List Step → Type 0
  Each xs = AllByRecursion P xs

  pub each_then : (xs ys : List Step) → Each xs → Each ys → Each (xs ++ ys)
  each_then [] ys p q = q
  each_then (x ∷ xs) ys (first, p) q = (first, each_then xs ys p q)

  module _ (chip : ChipData) (read : (address : ℕ) (bytes : List ℕ) → P (Sends (read_turns address bytes))) where
    pub each_readings : (xs : List Step) → AllByRecursion (IsReading chip) xs → Each xs
    each_readings [] are = tt
    each_readings (x ∷ xs) (is, are) = (subst P (sym is.is) (read is.address is.answer), each_readings xs are)

    each_read : (address blocks : ℕ) (bytes : List ℕ) → Each (read_steps address blocks bytes)
    each_read address zero bytes = tt
    each_read address (suc blocks) bytes = each_then (read_steps address blocks bytes) _ (each_read address blocks bytes) (read _ _, tt)

    each_page : (n : ℕ) (held : List ℕ) → Each (page_reads chip n held)
    each_page n held = each_read (page_address chip n) (page_size chip n / 256) held

    module _ (keeps : (k : ℕ) (held : List ℕ) → P (Adds (Keeps k held ∷ []))) (n : ℕ) where
      each_saved : (kept : Bool) (held : List ℕ) (xs : List Step) → IsSaved kept chip n held xs → Each xs
      each_saved true held xs is = subst Each (sym is) tt
      each_saved false held xs is = by_pair (n == 1 && has_companion chip) is
        where
          by_pair : (both : Bool) → IsSavedWith both chip n held xs → Each xs
          by_pair false is = subst Each (sym is) (keeps n held, tt)
          by_pair true both =
              let other = both.is_first.other in
              let first = subst Each (sym both.is_first.is) (each_then (page_reads chip 257 other) (Adds (Keeps 257 other ∷ []) ∷ []) (each_page 257 other) (keeps 257 other, tt)) in
              subst Each (sym both.is) (each_then both.first (Adds (Keeps n held ∷ []) ∷ []) first (keeps n held, tt))

      -- a page's turn, where those are such by which it is rewritten
      pub each_turn : (kept : Bool) (c : Change) (changed : Bool) (xs : List Step)
          → ((held : List ℕ) → length held ≡ page_size chip n → changed ≡ true → let page = content chip c n held in
          Each (rewrite_steps chip n page (frames_of (erased_byte chip) page (length page / 256))))
          → IsTurnOf kept chip c n changed xs → Each xs
      each_turn kept c changed xs rewritten (inl left) = subst Each (sym left.is) tt
      each_turn kept c changed xs rewritten (inr turn) =
          let page = content chip c n turn.held in
          subst Each (sym turn.is) (each_then (page_reads chip n turn.held) turn.later (each_page n turn.held) (unless (bytes_eq turn.held page) refl turn.is_changed))
        where
          unless : (same : Bool) → bytes_eq turn.held (content chip c n turn.held) ≡ same → IsChangedUnless same kept chip n turn.held (content chip c n turn.held) turn.later → Each turn.later
          unless true is none = subst Each (sym none) tt
          unless false is given =
              let page = content chip c n turn.held in
              let steps = rewrite_steps chip n page (frames_of (erased_byte chip) page (length page / 256)) in
              subst Each (sym given.is) (each_then given.saved steps (each_saved kept turn.held given.saved given.is_saved) (rewritten turn.held turn.size (turn.counts ∙ ap (λ (b : Bool). not b) is)))

abbrev pub Keep : StateData → List Step → Type 0
Keep s steps = AllByRecursion (KeepsErased s) steps

-- what is kept stays
pub keep_still : (s s2 : StateData) (xs : List Step) → ((m : ℕ) → IsTrue (newest_keeps m s) → IsTrue (newest_keeps m s2)) → Keep s xs → Keep s2 xs
keep_still s s2 [] still p = tt
keep_still s s2 (x ∷ xs) still (first, p) = (λ n is. still n (first n is), keep_still s s2 xs still p)

-- what is sent erases nothing by a line, and nor do other lines
sent : (s : StateData) (turns : List Turn) → KeepsErased s (Sends turns)
sent s turns n is = cc

keep_write : (s : StateData) (chip : ChipData) (n : ℕ) (page : List ℕ) (frames : List Frame) → Keep s (write_steps chip n page frames)
keep_write s chip n page [] = tt
keep_write s chip n page (f ∷ frames) = (sent s _, keep_write s chip n page frames)

keep_program : (s : StateData) (chip : ChipData) (n : ℕ) (page : List ℕ) (frames : List Frame) → Keep s (program_steps chip n page frames)
keep_program s chip n page [] = tt
keep_program s chip n page (f ∷ frames) = (λ m is. cc, keep_write s chip n page (f ∷ frames))

-- a page's turn
pub keep_turn : (s : StateData) (kept : Bool) (chip : ChipData) (c : Change) (n : ℕ) (changed : Bool) (xs : List Step) → (changed ≡ true → IsTrue (newest_keeps n s)) → IsTurnOf kept chip c n changed xs → Keep s xs
keep_turn s kept chip c n changed xs keeps turn =
    each_turn (KeepsErased s) chip (λ address bytes. sent s _) (λ k held m is. cc) n kept c changed xs
    (λ held size yes.
    let page = content chip c n held in
    (λ m is. let same : n ≡ m = cc in subst (λ (k : ℕ). IsTrue (newest_keeps k s)) same (keeps yes), (sent s _, keep_program s chip n page (frames_of (erased_byte chip) page (length page / 256))))) turn

-- a verify and a read
pub reads_kept : {T : Type 0} (chip : ChipData) (l : Loaded) (P : T → List Step → Type 0) (a b : RigState) (r : Result T Fault) → IfOk r (λ x. Follows (λ xs. AllByRecursion (IsReading chip) xs × P x xs) l l a b)
    → IfOk r (λ x. Follows (Keeping l.state (λ xs. AllByRecursion (IsReading chip) xs × P x xs)) l l a b)
reads_kept chip l P a b (Ok x) done = follows_as _ _ l l a b (λ xs p. (p, each_readings (KeepsErased l.state) chip (λ address bytes. sent l.state _) xs p.0)) done
reads_kept chip l P a b (Err e) done = tt

-- the lines around a segment
pub keep_begin : (s s2 : StateData) (chip : ChipData) → Keep s (Adds (begin_entries chip.id chip.unique s2) ∷ [])
keep_begin s s2 chip = by_none (is_none s2.header)
  where
    by_none : (none : Bool) → Keep s (Adds (if none then Names (version_for chip.unique) chip.id chip.unique ∷ Opens (length s2.stack + 1) ∷ [] else Opens (length s2.stack + 1) ∷ []) ∷ [])
    by_none true = (λ m is. cc, tt)
    by_none false = (λ m is. cc, tt)

pub keep_end : (s : StateData) (chip : ChipData) (k : ℕ) → Keep s (closing chip ++ Adds (Ends k ∷ []) ∷ [])
keep_end s chip k = by_place (confirmed_at chip)
  where
    by_place : (o : Option UniquePlace) → Keep s (closing_steps o chip ++ Adds (Ends k ∷ []) ∷ [])
    by_place None = (λ m is. cc, tt)
    by_place (Some place) = (sent s _, (sent s _, (λ m is. cc, tt)))
