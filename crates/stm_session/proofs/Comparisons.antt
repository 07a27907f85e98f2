-- Comparing an image with the flash, block by block.
use Rattle.std.proofs.Common.{◌≡◌, ℕ, zero, suc, ◌+◌, ◌-◌, ◌*◌, ◌≤◌, Bool, true, false, IsTrue, List, [], ◌∷◌, ◌++◌, length, take, drop, Option, Some, None, is_some, MatchOption, Result, Ok, refl, sym, ◌∙◌, ap, ap₂, subst, arith, if◌then◌else◌}
use Rattle.std.specs.List.{AllByRecursion}
use Rattle.std.proofs.lemmas.Bool.{true≢false}
use Rattle.std.proofs.lemmas.List.{drop-drop, length-take}
use Rattle.stm_image.specs.Lay.{AgreesWith, IsFirstDifference}
use Rattle.stm_image.specs.Pairs.{Pairs, IsNext, byte_at}
use Rattle.stm_wire.proofs.Names.{ChipData, fits_inside, flash_size, GoesOn, InPage, IsPart, IsSettled, read_turns, RigState}
use Rattle.stm_wire.specs.lemmas.PartLaws.{part_longer, parts_join}
use Rattle.stm_session.proofs.Names.{AgreeInBlocks, Asks, Begin, Block, bytes_at, CameFor, Cause, Fault, first_difference, has_byte, IsNextBlock, IsReading, IsReadOf, OneDiffers, OnlyReads}
use Rattle.stm_session.proofs.Names.{ReadsBlock, Sends, Step, StopsBy}
use Rattle.stm_session.proofs.Arrivals.{agree_more}
use Rattle.stm_session.proofs.Asking.{asks_then, settled_still}
use Rattle.stm_session.proofs.Differences.{first-difference-is-first, no-difference-agrees}
use Rattle.stm_session.proofs.Ranges.{block_read, block_stop, end-fits}
use Rattle.stm_session.proofs.Sending.{block_in_page}

-- where all agree, no difference is told
pub agrees_none : (image : Pairs) (address : ℕ) (bytes : List ℕ) → AgreesWith image address bytes → first_difference image address bytes ≡ None
agrees_none image address bytes agrees = by_told (first_difference image address bytes) refl
  where
    by_told : (told : Option ℕ) → first_difference image address bytes ≡ told → told ≡ None
    by_told None is = refl
    by_told (Some place) is = absurd (agrees place (first-difference-is-first image address bytes place is).here)

-- and the first difference is told
pub first_told : (image : Pairs) (address : ℕ) (bytes : List ℕ) (place : ℕ) → IsFirstDifference image address bytes place → first_difference image address bytes ≡ Some place
first_told image address bytes place first = by_told (first_difference image address bytes) refl
  where
    by_told : (told : Option ℕ) → first_difference image address bytes ≡ told → told ≡ Some place
    by_told None is = absurd (no-difference-agrees image address bytes is place first.here)
    by_told (Some other) is =
        let least = first-difference-is-first image address bytes other is in
        ap (λ (p : ℕ). Some p) (omega (arith, least.first place first.here, first.first other least.here))

pub told_is : (image : Pairs) (address : ℕ) (bytes : List ℕ) (told : Option ℕ) → MatchOption told (AgreesWith image address bytes) (IsFirstDifference image address bytes) → told ≡ first_difference image address bytes
told_is image address bytes None agrees = sym (agrees_none image address bytes agrees)
told_is image address bytes (Some place) first = sym (first_told image address bytes place first)

-- the first of two
abbrev or_else : Option ℕ → Option ℕ → Option ℕ
or_else None later = later
or_else (Some place) later = Some place

-- the first difference of bytes lies in their front, or behind it
front_first : (image : Pairs) (n address : ℕ) (bytes : List ℕ)
    → first_difference image address bytes ≡ or_else (first_difference image address (take n bytes)) (first_difference image (address + n) (drop n bytes))
front_first image zero address bytes = ap (λ (a : ℕ). first_difference image a bytes) (omega arith)
front_first image (suc n) address [] = refl
front_first image (suc n) address (byte ∷ bytes) = by_test (has_byte (byte_at image address) byte) (front_first image n (address + 1) bytes)
  where
    by_test : (b : Bool) → first_difference image (address + 1) bytes ≡ or_else (first_difference image (address + 1) (take n bytes)) (first_difference image (address + 1 + n) (drop n bytes))
        → (if b then first_difference image (address + 1) bytes else Some address)
        ≡ or_else (if b then first_difference image (address + 1) (take n bytes) else Some address) (first_difference image (address + suc n) (drop n bytes))
    by_test true later = later ∙ ap (λ (a : ℕ). or_else (first_difference image (address + 1) (take n bytes)) (first_difference image a (drop n bytes))) (omega arith)
    by_test false later = refl

-- nothing differs in the front: what is behind it tells
behind : (image : Pairs) (n address : ℕ) (bytes : List ℕ) → first_difference image address (take n bytes) ≡ None → first_difference image address bytes ≡ first_difference image (address + n) (drop n bytes)
behind image n address bytes none = front_first image n address bytes ∙ ap (λ (o : Option ℕ). or_else o (first_difference image (address + n) (drop n bytes))) none

-- something does: it is told
before_all : (image : Pairs) (n address place : ℕ) (bytes : List ℕ) → first_difference image address (take n bytes) ≡ Some place → first_difference image address bytes ≡ Some place
before_all image n address place bytes some = front_first image n address bytes ∙ ap (λ (o : Option ℕ). or_else o (first_difference image (address + n) (drop n bytes))) some

abbrev pub AgreesBefore : Type 0
AgreesBefore = (image : Pairs) (address : ℕ) (bytes : List ℕ) (next : ℕ × ℕ) → IsNext image address next → address + length bytes ≤ next.0 → first_difference image address bytes ≡ None

-- the places before the image's next one are passed over
skipped : AgreesBefore → (image : Pairs) (address n : ℕ) (next : ℕ × ℕ) (bytes : List ℕ) → IsNext image address next → address + n ≡ next.0 → first_difference image address bytes ≡ first_difference image next.0 (drop n bytes)
skipped law image address n next bytes is at =
    let few : length (take n bytes) ≤ n = simp length-take (omega arith) in
    behind image n address bytes (law image address (take n bytes) next is (omega (arith, at, few)))
    ∙ ap (λ (a : ℕ). first_difference image a (drop n bytes)) at

-- how far the flash was compared: what is behind tells
pub record IsComparedSoFar (chip : ChipData) (image : Pairs) (done : ℕ) (old new : RigState) : Type 0 where
  pub within : done ≤ flash_size chip
  pub line : new.line_failures ≡ old.line_failures
  pub journal : new.journal_failures ≡ old.journal_failures
  pub stays : old.is_honest → new.is_honest
  pub parts : GoesOn (IsPart (Some chip) true (13 * done)) old.calls new.calls
  pub reads : OnlyReads chip (AgreeInBlocks image chip.base (chip.base + done)) old new
  pub honest : old.is_honest → IsSettled old.device → old.device.chip ≡ chip
      → Asks {T = Unit {0}} old new (Ok tt) (λ x. first_difference image chip.base old.device.flash ≡ first_difference image (chip.base + done) (drop done old.device.flash))

-- the next block
module _ (chip : ChipData) (image : Pairs) (done : ℕ) (block : Block) (old mid new : RigState) (so_far : IsComparedSoFar chip image done old mid) (is : IsNextBlock chip image done block) where
  -- how many bytes lie before it
  abbrev pub offset : ℕ
  offset = block.address - chip.base

  low : chip.base + done ≤ block.address
  low = is.next.after

  pub block_within : offset + block.size ≤ flash_size chip
  block_within = omega (arith, low, is.inside, is.size.cut)

  pub block_inside : IsTrue (fits_inside chip block.address block.size)
  block_inside = end-fits chip block.address block.size (omega (arith, low)) (omega (arith, low, is.inside, is.size.cut))

  pub compared_part : (whole : Bool) → ((page : ℕ) → InPage chip page block.address block.size → GoesOn (IsPart (Some chip) whole (12 + block.size)) mid.calls new.calls)
      → GoesOn (IsPart (Some chip) whole (13 * (offset + block.size))) old.calls new.calls
  compared_part whole puts =
      let (page, within) = block_in_page chip block.address (flash_size chip - offset) block.size is.size in
      part_longer (Some chip) whole (13 * done + (12 + block.size)) (13 * (offset + block.size)) old.calls new.calls (omega (arith, low, is.inside, is.size.cut, is.size.is_rest.some))
      (parts_join (Some chip) whole (13 * done) (12 + block.size) old.calls mid.calls new.calls so_far.parts (puts page within))

  pub compared_reads : (Q : List Step → Type 0) (answer : List ℕ) → ReadsBlock block.address block.size answer mid new
      → ((xs : List Step) → AgreeInBlocks image chip.base (chip.base + done) xs → Q (xs ++ Sends (read_turns block.address answer) ∷ [])) → OnlyReads chip Q old new
  compared_reads Q answer reads longer =
      block_read chip (AgreeInBlocks image chip.base (chip.base + done)) Q block.address (flash_size chip - offset) block.size answer old mid new longer (omega (arith, low, is.inside)) is.size so_far.reads reads

  -- it agrees
  pub reads_agree : (found : Option ℕ) (answer : List ℕ) (to : ℕ) → to ≡ chip.base + (offset + block.size) → is_some found ≡ false → found ≡ first_difference image block.address answer → ReadsBlock block.address block.size answer mid new
      → OnlyReads chip (AgreeInBlocks image chip.base to) old new
  reads_agree (Some place) answer to at none is_found reads = absurd (true≢false none)
  reads_agree None answer to at none is_found reads =
      let end : block.address + length answer ≡ to = omega (arith, at, low, reads.size) in
      compared_reads (AgreeInBlocks image chip.base to) answer reads
      (λ xs agree.
      let own : List Step = Sends (read_turns block.address answer) ∷ [] in
      let P : ℕ → Type 0 = λ m. AgreeInBlocks image chip.base m (xs ++ own) in
      subst P end (agree_more image chip.base (chip.base + done) (block.address, is.byte) answer xs agree is.next (sym is_found)))

  -- or it differs
  pub reads_differ : (found : Option ℕ) (answer : List ℕ) → is_some found ≡ true → found ≡ first_difference image block.address answer → ReadsBlock block.address block.size answer mid new → OnlyReads chip (CameFor image chip.base found) old new
  reads_differ None answer some is_found reads = absurd (true≢false (sym some))
  reads_differ (Some place) answer some is_found reads =
      compared_reads (OneDiffers image chip.base place) answer reads
      (λ xs agree.
      record { to = chip.base + done; before = xs; agree = agree; next = (block.address, is.byte); is_next = is.next; answer = answer; differs = sym is_found; is = refl })

  pub compared_stop : (cause : Cause) → ((torn : Bool) → StopsBy (Begin (IsReadOf block.address block.size)) cause torn mid new) → (torn : Bool) → StopsBy (AllByRecursion (IsReading chip)) cause torn old new
  compared_stop cause stops = block_stop chip (AgreeInBlocks image chip.base (chip.base + done)) block.address (flash_size chip - offset) block.size cause old mid new (omega (arith, low, is.inside)) is.size so_far.reads stops

  module _ (law : AgreesBefore) (honest : old.is_honest) (settled : IsSettled old.device) (chip_is : old.device.chip ≡ chip) where
    past : Asks {T = Unit {0}} old mid (Ok tt) (λ x. first_difference image chip.base old.device.flash ≡ first_difference image (chip.base + done) (drop done old.device.flash))
    past = so_far.honest honest settled chip_is

    pub compare_asks : {T U : Type 0} (x : Result T Fault) {P : T → Type 0} (second : Result U Fault) (Q : U → Type 0)
        → (mid.is_honest → IsSettled mid.device → mid.device.chip ≡ chip → IsTrue (fits_inside chip block.address block.size) → Asks mid new x P)
        → (Asks mid new x P → Asks mid new second Q) → Asks old new second Q
    compare_asks x second Q asks as_second =
        asks_then old mid new (tt {0}) second past (as_second (asks past.honest (settled_still old mid (tt {0}) settled past) (past.left.make.chip ∙ chip_is) block_inside)) (λ y q. q)

    -- the first difference is that of the block, or behind it
    from_block : first_difference image chip.base old.device.flash ≡ first_difference image block.address (drop offset old.device.flash)
    from_block =
        let flash = old.device.flash in
        let n : ℕ = block.address - (chip.base + done) in
        let at : (chip.base + done) + n ≡ block.address = omega (arith, low) in
        let both : done + n ≡ offset = omega (arith, low) in
        past.done ∙ skipped law image (chip.base + done) n (block.address, is.byte) (drop done flash) is.next at
        ∙ ap (λ (bytes : List ℕ). first_difference image block.address bytes) (drop-drop n done flash ∙ ap (λ (k : ℕ). drop k flash) both)

    differs_at : (place : ℕ) → Some place ≡ first_difference image block.address (bytes_at chip mid.device.flash block.address block.size) → Some place ≡ first_difference image chip.base old.device.flash
    differs_at place told =
        let here : first_difference image block.address (take block.size (drop offset old.device.flash)) ≡ Some place =
        sym (told ∙ ap (λ (flash : List ℕ). first_difference image block.address (bytes_at chip flash block.address block.size)) past.left.flash) in
        sym (from_block ∙ before_all image block.size block.address place (drop offset old.device.flash) here)

    agrees_all : None ≡ first_difference image block.address (bytes_at chip mid.device.flash block.address block.size)
        → first_difference image chip.base old.device.flash ≡ first_difference image (chip.base + (offset + block.size)) (drop (offset + block.size) old.device.flash)
    agrees_all told =
        let flash = old.device.flash in
        let here : first_difference image block.address (take block.size (drop offset flash)) ≡ None =
        sym (told ∙ ap (λ (f : List ℕ). first_difference image block.address (bytes_at chip f block.address block.size)) past.left.flash) in
        let at : block.address + block.size ≡ chip.base + (offset + block.size) = omega (arith, low) in
        from_block ∙ behind image block.size block.address (drop offset flash) here
        ∙ ap₂ (λ (a : ℕ) (bytes : List ℕ). first_difference image a bytes) at (drop-drop block.size offset flash)

    -- what the block tells, where it tells something, and where it doesn't
    pub block_differs : (found : Option ℕ) → is_some found ≡ true → found ≡ first_difference image block.address (bytes_at chip mid.device.flash block.address block.size)
        → found ≡ first_difference image chip.base old.device.flash
    block_differs None some told = absurd (true≢false (sym some))
    block_differs (Some place) some told = differs_at place told

    pub block_agrees : (found : Option ℕ) → is_some found ≡ false → found ≡ first_difference image block.address (bytes_at chip mid.device.flash block.address block.size)
        → first_difference image chip.base old.device.flash ≡ first_difference image (chip.base + (offset + block.size)) (drop (offset + block.size) old.device.flash)
    block_agrees None none told = agrees_all told
    block_agrees (Some place) none told = absurd (true≢false none)
