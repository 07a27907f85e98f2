-- Parts of a flash: that they lie inside it, and how a part grows by the block after it.
use Rattle.std.proofs.Common.{◌≡◌, ℕ, zero, suc, Bool, ◌+◌, ◌-◌, ◌%◌, ◌/◌, ◌<◌, ◌≤◌, ◌||◌, ◌==◌, ◌⊎◌, inl, inr, IsTrue, List, [], ◌∷◌, ◌++◌, length, length-append, take, drop, subst, Result, Ok, Some, true, ◌*◌, sym, ◌∙◌, ap, ap₂, arith}
use Rattle.std.specs.List.{AllByRecursion}
use Rattle.std.proofs.lemmas.Bool.{cases_order}
use Rattle.std.proofs.lemmas.Bool.Decides.{nat_tests}
use Rattle.std.proofs.lemmas.List.{drop-drop}
use Rattle.std.proofs.Math.Seq.{take-add}
use Rattle.stm_wire.proofs.Names.{ChipData, fits_inside, flash_size, GoesOn, InPage, IsChip, IsPart, IsSettled, page_count, page_offset, page_size, read_turns, RigState}
use Rattle.stm_wire.specs.lemmas.PageLaws.{page_end}
use Rattle.stm_wire.specs.lemmas.PartLaws.{part_longer, parts_join}
use Rattle.stm_session.proofs.Names.{AreReadsOf, Asks, Begin, bytes_at, Cause, ComeInBlocks, Fault, IsBlock, IsInOrder, IsPageRest, IsReading, IsReadOf, OnlyReads, read_steps, ReadsBlock, Sends, Step}
use Rattle.stm_session.proofs.Names.{StopsBy}
use Rattle.stm_session.proofs.Asking.{asks_then, settled_still}
use Rattle.stm_session.proofs.CutShort.{order_stops, reads_begun}
use Rattle.stm_session.proofs.Orders.{blocks_next, torn-reads}
use Rattle.stm_session.proofs.RunOrders.{reads_more, reads_stop}
use Rattle.stm_session.proofs.Sending.{block_in_page}

-- bytes within the flash, where there are any
pub within-end : (chip : ChipData) (start size : ℕ) → 0 < size → IsTrue (size == 0 || fits_inside chip start size) → (chip.base ≤ start) × (start + size ≤ chip.base + flash_size chip)
within-end chip start size some h = grind (arith, nat_tests)

pub end-fits : (chip : ChipData) (address size : ℕ) → chip.base ≤ address → address + size ≤ chip.base + flash_size chip → IsTrue (fits_inside chip address size)
end-fits chip address size low high = grind (arith, nat_tests)

-- a part of the flash, and the block after it
pub bytes_at-more : (chip : ChipData) (flash : List ℕ) (start done size : ℕ) → chip.base ≤ start → bytes_at chip flash start (done + size) ≡ bytes_at chip flash start done ++ bytes_at chip flash (start + done) size
bytes_at-more chip flash start done size low =
    let from : (start - chip.base) + done ≡ (start + done) - chip.base = omega arith in
    take-add done size (drop (start - chip.base) flash)
    ∙ ap (λ rest. bytes_at chip flash start done ++ take size rest) (drop-drop done (start - chip.base) flash ∙ ap (λ n. drop n flash) from)

-- blocks of 256 bytes are read, rising
pub record AreBlocksRead (start done : ℕ) (bytes : List ℕ) (torn : Bool) (old new : RigState) : Type 0 where
  pub blocks : ℕ
  pub is : done ≡ 256 * blocks
  pub many : length bytes ≡ done
  pub steps : GoesOn (IsInOrder torn (read_steps start blocks bytes)) old.calls new.calls

-- how far the bytes of a range are read
pub record IsReadSoFar (chip : ChipData) (start size done : ℕ) (bytes : List ℕ) (old new : RigState) : Type 0 where
  pub within : done ≤ size
  pub line : new.line_failures ≡ old.line_failures
  pub journal : new.journal_failures ≡ old.journal_failures
  pub stays : old.is_honest → new.is_honest
  pub parts : GoesOn (IsPart (Some chip) true (13 * done)) old.calls new.calls
  pub reads : OnlyReads chip (ComeInBlocks start bytes) old new
  pub order : (page : ℕ) → InPage chip page start size → size % 256 ≡ 0 → (torn : Bool) → AreBlocksRead start done bytes torn old new
  pub honest : old.is_honest → IsSettled old.device → old.device.chip ≡ chip
      → Asks {T = Unit {0}} old new (Ok tt) (λ x. bytes ≡ bytes_at chip old.device.flash start done)

-- the next block lies inside the flash
pub block_fits : (chip : ChipData) (start size done block : ℕ) → done < size → IsTrue (size == 0 || fits_inside chip start size) → IsBlock chip (start + done) (size - done) block
    → IsTrue (fits_inside chip (start + done) block)
block_fits chip start size done block more within is =
    let e = within-end chip start size (omega arith) within in
    end-fits chip (start + done) block (omega (arith, e.0)) (omega (arith, e.1, is.cut, more))

-- a block is read of the device as it was at first
module _ (chip : ChipData) (start size done block : ℕ) (before : List ℕ) (old mid new : RigState) (so_far : IsReadSoFar chip start size done before old mid)
    (more : done < size) (within : IsTrue (size == 0 || fits_inside chip start size)) (is : IsBlock chip (start + done) (size - done) block)
    (honest : old.is_honest) (settled : IsSettled old.device) (chip_is : old.device.chip ≡ chip) where
  past : Asks {T = Unit {0}} old mid (Ok tt) (λ x. before ≡ bytes_at chip old.device.flash start done)
  past = so_far.honest honest settled chip_is

  pub block_asks : {T U : Type 0} (x : Result T Fault) {P : T → Type 0} (second : Result U Fault) (Q : U → Type 0)
      → (mid.is_honest → IsSettled mid.device → mid.device.chip ≡ chip → IsTrue (fits_inside chip (start + done) block) → Asks mid new x P)
      → (Asks mid new x P → Asks mid new second Q) → Asks old new second Q
  block_asks x second Q reads as_second =
      asks_then old mid new (tt {0}) second past
      (as_second (reads past.honest (settled_still old mid (tt {0}) settled past) (past.left.make.chip ∙ chip_is) (block_fits chip start size done block more within is))) (λ y q. q)

  pub block_adds : (after : List ℕ) → after ≡ before ++ bytes_at chip mid.device.flash (start + done) block → after ≡ bytes_at chip old.device.flash start (done + block)
  block_adds after e =
      let low = (within-end chip start size (omega (arith, more)) within).0 in
      e ∙ ap₂ (λ xs flash. xs ++ bytes_at chip flash (start + done) block) past.done past.left.flash ∙ sym (bytes_at-more chip old.device.flash start done block low)

-- a range is no longer than the greatest flash
pub size-limit : (chip : ChipData) (start size : ℕ) → IsChip chip → IsTrue (size == 0 || fits_inside chip start size) → size ≤ 2097152
size-limit chip start zero is within = omega arith
size-limit chip start (suc size) is within = omega (arith, (within-end chip start (suc size) (omega arith) within).1, (within-end chip start (suc size) (omega arith) within).0, is.size)

-- the next block is a part of one page
pub block_part : (chip : ChipData) (start size done block : ℕ) (before : List ℕ) (old mid new : RigState) (whole : Bool) → done < size → IsReadSoFar chip start size done before old mid
    → IsBlock chip (start + done) (size - done) block → ((page : ℕ) → InPage chip page (start + done) block → GoesOn (IsPart (Some chip) whole (12 + block)) mid.calls new.calls)
    → GoesOn (IsPart (Some chip) whole (13 * (done + block))) old.calls new.calls
block_part chip start size done block before old mid new whole more so_far is reads =
    let (page, within) = block_in_page chip (start + done) (size - done) block is in
    part_longer (Some chip) whole (13 * done + (12 + block)) (13 * (done + block)) old.calls new.calls (omega (arith, more, is.cut, is.is_rest.some))
    (parts_join (Some chip) whole (13 * done) (12 + block) old.calls mid.calls new.calls so_far.parts (reads page within))

-- what is left of the page that holds an address of this one is what is left of this one
rest_of_page : (chip : ChipData) (page address rest : ℕ) → page < page_count chip → chip.base + page_offset chip page ≤ address → address < chip.base + page_offset chip page + page_size chip page → IsPageRest chip address rest
    → address + rest ≡ chip.base + page_offset chip page + page_size chip page
rest_of_page chip page address rest here low high is = by_order (cases_order is.page page)
  where
    by_order : (is.page ≡ page) ⊎ ((is.page < page) ⊎ (page < is.page)) → address + rest ≡ chip.base + page_offset chip page + page_size chip page
    by_order (inl same) = is.ends ∙ ap (λ (p : ℕ). chip.base + page_offset chip p + page_size chip p) same
    by_order (inr (inl lt)) = absurd (omega (arith, is.ends, is.some, low, page_end chip.sizes is.page page lt is.exists))
    by_order (inr (inr gt)) = absurd (omega (arith, is.begins, high, page_end chip.sizes page is.page gt here))

-- one block of 256 bytes more
module _ (chip : ChipData) (start size done block page : ℕ) (torn : Bool) (bytes : List ℕ) (old mid new : RigState) (more : done < size) (so_far : AreBlocksRead start done bytes torn old mid) (is : IsBlock chip (start + done) (size - done) block)
    (within : InPage chip page start size) (even : size % 256 ≡ 0) where
  rest_is : start + done + is.rest ≡ chip.base + page_offset chip page + page_size chip page
  rest_is = rest_of_page chip page (start + done) is.rest within.exists (omega (arith, within.begins)) (omega (arith, within.ends, more)) is.is_rest

  left_is : done + 256 ≤ size
  left_is = omega (arith, so_far.is, even, more)

  whole_block : block ≡ 256
  whole_block = omega (arith, left_is, is.cut, rest_is, within.ends)

  at : start + done ≡ start + 256 * so_far.blocks
  at = omega (arith, so_far.is)

  pub blocks_more : (after answer : List ℕ) → after ≡ bytes ++ answer → ReadsBlock (start + done) block answer mid new → AreBlocksRead start (done + block) after torn old new
  blocks_more after answer longer reads =
      let P : ℕ → Type 0 = λ k. GoesOn (IsInOrder torn (Sends (read_turns k answer) ∷ [])) mid.calls new.calls in
      let Q : List ℕ → Type 0 = λ xs. GoesOn (IsInOrder torn (read_steps start (suc so_far.blocks) xs)) old.calls new.calls in
      record {
        blocks = suc so_far.blocks;
        is = omega (arith, so_far.is, whole_block);
        many = ap length longer ∙ length-append bytes answer ∙ omega (arith, so_far.many, reads.size);
        steps = subst Q (sym longer) (blocks_next torn start so_far.blocks bytes answer old.calls mid.calls new.calls (so_far.many ∙ so_far.is) (reads.size ∙ whole_block) so_far.steps (subst P at (reads.sent torn)));
      }

  -- or a block that is begun
  pub blocks_stop : (cause : Cause) → StopsBy (Begin (IsReadOf (start + done) block)) cause torn mid new → StopsBy (Begin (AreReadsOf start size)) cause torn old new
  blocks_stop cause stops =
      let reads = read_steps start so_far.blocks bytes in
      let P : Bool → Type 0 = λ t. StopsBy (Begin (IsReadOf (start + done) block)) cause t mid new in
      let Q : ℕ → Type 0 = λ k. (ys : List Step) → Begin (IsReadOf k 256) ys → Begin (AreReadsOf start size) (reads ++ ys) in
      let R : ℕ → Type 0 = λ z. (ys : List Step) → Begin (IsReadOf (start + done) z) ys → Begin (AreReadsOf start size) (reads ++ ys) in
      let room : 256 * suc so_far.blocks ≤ size = omega (arith, left_is, so_far.is) in
      order_stops (Begin (IsReadOf (start + done) block)) (Begin (AreReadsOf start size)) cause torn reads
      (subst R (sym whole_block) (subst Q (sym at) (λ ys begun. reads_begun start so_far.blocks size bytes ys (so_far.many ∙ so_far.is) room even begun))) old mid new so_far.steps (subst P (sym (torn-reads torn start so_far.blocks bytes)) stops)

-- all of them
pub blocks_all : (start size done : ℕ) (bytes : List ℕ) (torn : Bool) (old new : RigState) → done ≡ size → AreBlocksRead start done bytes torn old new → GoesOn (IsInOrder torn (read_steps start (size / 256) bytes)) old.calls new.calls
blocks_all start size done bytes torn old new all read =
    let is : read.blocks ≡ size / 256 = omega (arith, read.is, all) in
    let P : ℕ → Type 0 = λ k. GoesOn (IsInOrder torn (read_steps start k bytes)) old.calls new.calls in
    subst P is read.steps

-- the next block is read, which lies in one page
pub block_read : (chip : ChipData) (P Q : List Step → Type 0) (address left size : ℕ) (answer : List ℕ) (a b c : RigState) → ((xs : List Step) → P xs → Q (xs ++ Sends (read_turns address answer) ∷ [])) → 1 ≤ left → IsBlock chip address left size
    → OnlyReads chip P a b → ReadsBlock address size answer b c → OnlyReads chip Q a c
block_read chip P0 Q address left size answer a b c longer some is before reads =
    let (page, within) = block_in_page chip address left size is in
    let P : ℕ → Type 0 = λ n. (1 ≤ n) × (n ≤ 256) × InPage chip page address n in
    let fits = subst P (sym reads.size) (omega (arith, some, is.cut, is.is_rest.some), omega (arith, is.cut), within) in
    reads_more chip P0 Q page address answer a b c longer fits.0 fits.1 fits.2 before reads.sent

-- or begun
pub block_stop : (chip : ChipData) (P : List Step → Type 0) (address left size : ℕ) (cause : Cause) (a b c : RigState) → 1 ≤ left → IsBlock chip address left size → OnlyReads chip P a b
    → ((torn : Bool) → StopsBy (Begin (IsReadOf address size)) cause torn b c) → (torn : Bool) → StopsBy (AllByRecursion (IsReading chip)) cause torn a c
block_stop chip P address left size cause a b c some is before stops =
    let (page, within) = block_in_page chip address left size is in
    reads_stop chip P page address size cause a b c (omega (arith, some, is.cut, is.is_rest.some)) (omega (arith, is.cut)) within before stops
