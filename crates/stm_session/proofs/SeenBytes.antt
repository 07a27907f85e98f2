-- Each byte of an image that a verified write is of was read after the last change to its page.
use Rattle.std.proofs.Common.{◌≡◌, ◌≢◌, inl, inr, ℕ, zero, suc, ◌+◌, ◌-◌, ◌*◌, ◌/◌, ◌%◌, ◌<◌, ◌≤◌, ◌==◌, ◌&&◌, nat_le, nat_lt, Bool, true, if◌then◌else◌, List, [], ◌∷◌, ◌++◌, length, take, drop, get_or, slice_index, sum, Option, Some, None, refl, sym, ap, ◌∙◌, subst, arith, append_assoc, append-nil}
use Rattle.std.specs.Prelude.{Contains}
use Rattle.std.specs.List.{AllByRecursion}
use Rattle.std.proofs.lemmas.Bool.{and_parts, cases_eq, cases_lt, eq-eqb, ne_eqb}
use Rattle.std.proofs.lemmas.Bool.Decides.{nat_tests}
use Rattle.std.proofs.lemmas.List.{take_all}
use Rattle.std.proofs.lemmas.List.Sums.{sum_by_more}
use Rattle.stm_image.specs.Lay.{lay}
use Rattle.stm_image.specs.Pairs.{Pairs, AddressesRise, byte_at}
use Rattle.stm_wire.proofs.Names.{ChipData, erased_byte, flash_size, is_inside, page_count, page_offset, page_size, read_turns}
use Rattle.stm_wire.specs.declared.places.UniquePlace.{UniquePlace}
use Rattle.stm_chip.specs.declared.plan.Frame.{Frame}
use Rattle.stm_journal.specs.declared.entry.Entry.TheVariants.{Ends}
use Rattle.stm_chip.specs.Plan.{frames_of}
use Rattle.stm_session.proofs.Names.{Adds, AgreeInBlocks, AreTurned, Change, closing, closing_steps, confirmed_at, content, IsReading, IsTurnOf, looks, names, none, page_address, program_steps}
use Rattle.stm_session.proofs.Names.{read_steps, Sends, SparesPage, Step, write_steps}
use Rattle.stm_session.specs.declared.change.Change.TheVariants as change
use Rattle.stm_session.specs.ChangeOrder.{more}
use Rattle.stm_session.specs.Kept.{reads, erases, writes}
use Rattle.stm_session.specs.lemmas.FramesInside.{AreInside, bytes_inside, frames_inside}
use Rattle.stm_session.proofs.Differences.{no-difference-agrees}
use Rattle.stm_session.proofs.KeptErased.{each_readings, each_then, each_turn}
use Rattle.stm_session.proofs.KeptRuns.{length-content}

-- the byte of a set at one of its places
pub byte_here : (set : Pairs) (p : ℕ × ℕ) → AddressesRise set → Contains set p → byte_at set p.0 ≡ Some p.1
byte_here [] p rises held = absurd (omega (arith, held.1))
byte_here ((x, y) ∷ set) p rises (zero, lt, is) =
    ap (λ (t : Bool). if t then Some y else byte_at set p.0) (eq-eqb x p.0 (ap (λ (q : ℕ × ℕ). q.0) is)) ∙ ap (λ (q : ℕ × ℕ). Some q.1) is
byte_here ((x, y) ∷ set) p rises (suc i, lt, is) =
    let up = rises zero (suc i) p (omega arith) (omega (arith, lt)) in
    let same : (get_or set i p).0 ≡ p.0 = ap (λ (q : ℕ × ℕ). q.0) is in
    ap (λ (t : Bool). if t then Some y else byte_at set p.0) (ne_eqb x p.0 (λ e. omega (arith, e, up, same)))
    ∙ byte_here set p (λ i j d lt within. rises (suc i) (suc j) d (omega (arith, lt)) (omega (arith, within))) (i, omega (arith, lt), is)

-- the page of an address
page_below : (chip : ChipData) (a k : ℕ) → k ≤ page_count chip → chip.base ≤ a → a < chip.base + page_offset chip k
    → (n : ℕ) × (n < k) × (page_address chip n ≤ a) × (a < page_address chip n + page_size chip n)
page_below chip a zero le low high = absurd (omega (arith, low, high))
page_below chip a (suc k) le low high =
    let two : suc k ≡ k + 1 = omega arith in
    let one : page_offset chip (k + 1) ≡ page_offset chip k + page_size chip k = sum_by_more (λ x. x) chip.sizes k 0 (omega (arith, le)) in
    let next : page_offset chip (suc k) ≡ page_offset chip k + page_size chip k = ap (page_offset chip) two ∙ one in
    elim (cases_lt a (chip.base + page_offset chip k)) [
      | inl less ↦ let found = page_below chip a k (omega (arith, le)) low less in (found.0, omega (arith, found.1), found.2, found.3)
      | inr other ↦ (k, omega arith, other, omega (arith, high, next))
    ]

pub page_here : (chip : ChipData) (a : ℕ) → is_inside chip a ≡ true → (n : ℕ) × (n < page_count chip) × (page_address chip n ≤ a) × (a < page_address chip n + page_size chip n)
page_here chip a inside =
    let parts = and_parts (nat_le chip.base a) (nat_lt a (chip.base + flash_size chip)) inside in
    let low : chip.base ≤ a = grind (arith, nat_tests, parts.0) in
    let high : a < chip.base + flash_size chip = grind (arith, nat_tests, parts.1) in
    let all : page_offset chip (page_count chip) ≡ flash_size chip = ap (λ (xs : List ℕ). sum xs) (take_all (length chip.sizes) chip.sizes (omega arith)) in
    page_below chip a (page_count chip) (omega arith) low (omega (arith, high, all))

-- Steps that leave a page alone.
module _ (chip : ChipData) (n : ℕ) where
  abbrev pub Alone : List Step → Type 0
  Alone xs = AllByRecursion (SparesPage chip n) xs

  pub alone_read : (address : ℕ) (bytes : List ℕ) → SparesPage chip n (Sends (read_turns address bytes))
  alone_read address bytes = reads address bytes refl

  alone_writes : (m : ℕ) (page : List ℕ) (frames : List Frame) → m ≢ n → length page ≡ page_size chip m → AreInside (length page) frames → Alone (write_steps chip m page frames)
  alone_writes m page [] other size inside = tt
  alone_writes m page (f ∷ frames) other size (first, inside) =
      let bytes = take f.length (drop f.offset page) in
      let within = bytes_inside page f.offset f.length first.0 first.1 in
      (writes m f.offset bytes other within.0 (subst (λ (s : ℕ). f.offset + length bytes ≤ s) size within.1) refl, alone_writes m page frames other size inside)

  alone_program : (m : ℕ) (page : List ℕ) (frames : List Frame) → m ≢ n → length page ≡ page_size chip m → AreInside (length page) frames → Alone (program_steps chip m page frames)
  alone_program m page [] other size inside = tt
  alone_program m page (f ∷ frames) other size inside = (tt, alone_writes m page (f ∷ frames) other size inside)

  -- the turn of another page
  alone_turn : ((set : Pairs) (address : ℕ) (bytes : List ℕ) → length (lay set address bytes) ≡ length bytes) → (kept : Bool) (c : Change) (m : ℕ) (changed : Bool) (xs : List Step) → m ≢ n → IsTurnOf kept chip c m changed xs → Alone xs
  alone_turn lengths kept c m changed xs other turn =
      each_turn (SparesPage chip n) chip alone_read (λ k held. tt) m kept c changed xs
      (λ held size yes.
      let page = content chip c m held in
      let inside = frames_inside (length page) (erased_byte chip) page (length page / 256) (omega arith) in
      (tt, (erases m other refl, alone_program m page (frames_of (erased_byte chip) page (length page / 256)) other (length-content lengths chip c m held size) inside))) turn

  -- the end of a segment
  pub alone_end : (k : ℕ) → Alone (closing chip ++ Adds (Ends k ∷ []) ∷ [])
  alone_end k = by_place (confirmed_at chip)
    where
      by_place : (o : Option UniquePlace) → Alone (closing_steps o chip ++ Adds (Ends k ∷ []) ∷ [])
      by_place None = (tt, tt)
      by_place (Some place) = (looks place (names (chip.id / 256) (chip.id % 256) refl), (reads place.address chip.unique refl, (tt, tt)))

  -- its own turn, and those behind it
  pub record HasTurn (c : Change) (xs : List Step) : Type 0 where
    pub before : List Step
    pub own : List Step
    pub later : List Step
    pub kept : Bool
    pub changed : Bool
    pub turn : IsTurnOf kept chip c n changed own
    pub alone : Alone later
    pub is : xs ≡ before ++ (own ++ later)

  pub turn_at : ((set : Pairs) (address : ℕ) (bytes : List ℕ) → length (lay set address bytes) ≡ length bytes) → (c : Change) (k : ℕ) (first : Bool) (xs : List Step) → n < k → AreTurned chip c k first xs → HasTurn c xs
  turn_at lengths c _ _ _ lt none = absurd (omega (arith, lt))
  turn_at lengths c _ _ _ lt (more m was changed before own are turn) =
      elim (cases_eq m n) [
        | inl same ↦
            let T : ℕ → Type 0 = λ k. IsTurnOf (m == 257 && was) chip c k changed own in
            record { before = before; own = own; later = []; kept = m == 257 && was; changed = changed; turn = subst T same turn; alone = tt; is = ap (λ (l : List Step). before ++ l) (sym (append-nil own)) }
        | inr other ↦
            let found = turn_at lengths c m was before (omega (arith, lt, other)) are in
            record {
              before = found.before;
              own = found.own;
              later = found.later ++ own;
              kept = found.kept;
              changed = found.changed;
              turn = found.turn;
              alone = each_then (SparesPage chip n) found.later own found.alone (alone_turn lengths (m == 257 && was) c m changed own other turn);
              is = ap (λ (l : List Step). l ++ own) found.is ∙ append_assoc found.before (found.own ++ found.later) own ∙ ap (λ (l : List Step). found.before ++ l) (append_assoc found.own found.later own);
            }
      ]

  -- a block of a page that is read
  pub record HasBlock (address i : ℕ) (bytes : List ℕ) (xs : List Step) : Type 0 where
    pub before : List Step
    pub later : List Step
    pub alone : Alone later
    pub is : xs ≡ before ++ Sends (read_turns (address + 256 * i) (take 256 (drop (256 * i) bytes))) ∷ later

  pub block_at : (address blocks i : ℕ) (bytes : List ℕ) → i < blocks → HasBlock address i bytes (read_steps address blocks bytes)
  block_at address zero i bytes lt = absurd (omega (arith, lt))
  block_at address (suc blocks) i bytes lt =
      let one : List Step = Sends (read_turns (address + 256 * blocks) (take 256 (drop (256 * blocks) bytes))) ∷ [] in
      let read : Alone one = (alone_read _ _, tt) in
      elim (cases_eq i blocks) [
        | inl same ↦
            let B : ℕ → Type 0 = λ k. HasBlock address k bytes (read_steps address blocks bytes ++ one) in
            subst B (sym same) (record { before = read_steps address blocks bytes; later = []; alone = tt; is = refl })
        | inr other ↦
            let found = block_at address blocks i bytes (omega (arith, lt, other)) in
            record {
              before = found.before;
              later = found.later ++ one;
              alone = each_then (SparesPage chip n) found.later one found.alone read;
              is = ap (λ (l : List Step). l ++ one) found.is ∙ append_assoc found.before _ one;
            }
      ]

  -- a block of a verify in which a place comes
  pub record HasPlace (p : ℕ × ℕ) (xs : List Step) : Type 0 where
    pub before : List Step
    pub address : ℕ
    pub answer : List ℕ
    pub from : address ≤ p.0
    pub within : p.0 < address + length answer
    pub came : slice_index answer (p.0 - address) ≡ p.1
    pub later : List Step
    pub alone : Alone later
    pub is : xs ≡ before ++ Sends (read_turns address answer) ∷ later

  pub place_at : (part : Pairs) (p : ℕ × ℕ) (from to : ℕ) (xs : List Step) → AddressesRise part → Contains part p → from ≤ p.0 → p.0 < to → AllByRecursion (IsReading chip) xs → AgreeInBlocks part from to xs → HasPlace p xs
  place_at part p from to [] rises held low high are agree = absurd (omega (arith, low, high, agree))
  place_at part p from to (Adds entries ∷ xs) rises held low high are agree = absurd agree
  place_at part p from to (Sends turns ∷ xs) rises held low high (is, are) (next, answer, is_next, sent, agrees, rest) =
      let least = is_next.least p held low in
      elim (cases_lt p.0 (next.0 + length answer)) [
        | inl here ↦
            let agree = no-difference-agrees part next.0 answer agrees p.0 in
            let came : slice_index answer (p.0 - next.0) ≡ p.1 = elim (cases_eq (slice_index answer (p.0 - next.0)) p.1) [
              | inl same ↦ same
              | inr other ↦ absurd (agree (record { byte = p.1; held = byte_here part p rises held; from = least; within = here; differs = other }))
            ] in
            record { before = []; address = next.0; answer = answer; from = least; within = here; came = came; later = xs; alone = each_readings (SparesPage chip n) chip alone_read xs are; is = ap (λ t. Sends t ∷ xs) sent }
        | inr behind ↦
            let found = place_at part p (next.0 + length answer) to xs rises held behind high are rest in
            record { before = Sends turns ∷ found.before; address = found.address; answer = found.answer; from = found.from; within = found.within; came = found.came; later = found.later; alone = found.alone; is = ap (λ (l : List Step). Sends turns ∷ l) found.is }
      ]
