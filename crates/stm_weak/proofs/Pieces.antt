-- Reads, and a page's new bytes, step by step.
use Rattle.std.proofs.Common.{◌≡◌, ℕ, zero, suc, ◌+◌, ◌*◌, ◌/◌, ◌≤◌, Bool, true, false}
use Rattle.std.proofs.Common.{if◌then◌else◌, List, [], ◌∷◌, length, take, drop, Option, Some}
use Rattle.std.proofs.Common.{refl, sym, subst, arith}
use Rattle.std.specs.Prelude.{bytes_eq}
use Rattle.stm_wire.specs.declared.intent.Intent.{Intent}
use Rattle.stm_wire.specs.declared.intent.Intent.TheVariants.{Erase, Program}
use Rattle.stm_wire.proofs.Names.{ChipData, erase_turns, erased_byte, page_size, read_turns, write_turns}
use Rattle.stm_chip.specs.declared.plan.Frame.{Frame}
use Rattle.stm_chip.specs.Plan.{frames_of}
use Rattle.stm_session.specs.lemmas.FramesInside.{AreInside, bytes_inside, frames_inside}
use Rattle.stm_session.proofs.Names.{give_back_steps, page_address, page_reads, read_steps, return_steps, rewrite_steps, Sends, write_steps}
use Rattle.stm_weak.specs.Weak.{does, weak_after}
use Rattle.stm_weak.specs.Believed.{AreAtWork, reads, erases, writes}
use Rattle.stm_weak.proofs.Walking.{Goes, Free, free_nothing, free_then, past, still}

-- reads
pub free_reads : (chip : ChipData) (both : Bool) (address blocks : ℕ) (bytes : List ℕ)
    → Free chip both (read_steps address blocks bytes)
free_reads chip both address zero bytes = free_nothing chip both
free_reads chip both address (suc blocks) bytes =
    let answer = take 256 (drop (256 * blocks) bytes) in
    free_then chip both (read_steps address blocks bytes)
    (Sends (read_turns (address + 256 * blocks) answer) ∷ [])
    (free_reads chip both address blocks bytes)
    (λ W o none. (reads (address + 256 * blocks) answer none refl, tt))

pub free_page : (chip : ChipData) (both : Bool) (n : ℕ) (held : List ℕ)
    → Free chip both (page_reads chip n held)
free_page chip both n held = free_reads chip both (page_address chip n)
    (page_size chip n / 256) held

-- frames that write it, under its intent
writes_go : (chip : ChipData) (both : Bool) (n : ℕ) (page : List ℕ) (frames : List Frame)
    (W : ℕ → Type 0) → length page ≡ page_size chip n → AreInside (length page) frames
    → Goes chip both W (Some (Program n)) (write_steps chip n page frames)
writes_go chip both n page [] W size inside = tt
writes_go chip both n page (f ∷ frames) W size (first, inside) =
    let bytes = take f.length (drop f.offset page) in
    let within = bytes_inside page f.offset f.length first.0 first.1 in
    let fits = subst (λ (k : ℕ). f.offset + length bytes ≤ k) size within.1 in
    let sent = write_turns (page_address chip n + f.offset) bytes in (
      writes n f.offset bytes refl within.0 fits refl,
      writes_go chip both n page frames (weak_after chip W (does (Sends sent))) size inside,
    )

-- the frames of a page's new bytes
pub all_frames_inside : (chip : ChipData) (page : List ℕ)
    → AreInside (length page) (frames_of (erased_byte chip) page (length page / 256))
all_frames_inside chip page =
    frames_inside (length page) (erased_byte chip) page (length page / 256) (omega arith)

-- A page is erased and written, where each page that may be weak is at work with it, or beside it.
pub rewrite_goes : (chip : ChipData) (both : Bool) (n : ℕ) (page : List ℕ) (frames : List Frame)
    (W : ℕ → Type 0) (o : Option Intent) → AreAtWork both W (Some (Erase n))
    → length page ≡ page_size chip n → AreInside (length page) frames
    → Goes chip both W o (rewrite_steps chip n page frames)
rewrite_goes chip both n page [] W o own size inside =
    ((own, tt), (erases n refl refl, tt))
rewrite_goes chip both n page (f ∷ frames) W o own size inside =
    let after : ℕ → Type 0 = weak_after chip W (does (Sends (erase_turns chip.kind n))) in
    let still_own : AreAtWork both after (Some (Program n)) = λ m w. own m w.0 in (
      (own, tt),
      (
        erases n refl refl,
        (
          (still_own, tt),
          writes_go chip both n page
              (f ∷ frames) after size inside,
        ),
      ),
    )

-- Behind that it isn't weak.
pub rewritten : (chip : ChipData) (n : ℕ) (page : List ℕ) (frames : List Frame) (W : ℕ → Type 0)
    (m : ℕ) → past chip W (rewrite_steps chip n page frames) m → m ≡ n → ⊥
rewritten chip n page [] W m w same =
    w.1 (let P : ℕ → Type 0 = λ k. erase_turns chip.kind n ≡ erase_turns chip.kind k in subst P
    (sym same) refl)
rewritten chip n page (f ∷ frames) W m w same =
    let after : ℕ → Type 0 = weak_after chip W (does (Sends (erase_turns chip.kind n))) in
    let was = still chip after (write_steps chip n page (f ∷ frames)) m w in
    was.1 (let P : ℕ → Type 0 = λ k. erase_turns chip.kind n ≡ erase_turns chip.kind k in subst P
    (sym same) refl)

-- where no page may be weak
pub free_rewrite : (chip : ChipData) (both : Bool) (n : ℕ) (page : List ℕ)
    → length page ≡ page_size chip n
    → Free chip both
    (rewrite_steps chip n page (frames_of (erased_byte chip) page (length page / 256)))
free_rewrite chip both n page size W o none =
    rewrite_goes chip both n page (frames_of (erased_byte chip) page (length page / 256)) W o
    (λ m w. absurd (none m w)) size (all_frames_inside chip page)

pub free_restore : (chip : ChipData) (both : Bool) (n : ℕ) (held page : List ℕ)
    → length page ≡ page_size chip n → Free chip both (give_back_steps chip n held page)
free_restore chip both n held page size = by_same (bytes_eq held page)
  where
    by_same : (same : Bool)
        → Free chip both
        (if same then []
        else rewrite_steps chip n page (frames_of (erased_byte chip) page (length page / 256)))
    by_same true = free_nothing chip both
    by_same false = free_rewrite chip both n page size

pub free_return : (again : Bool) (chip : ChipData) (both : Bool) (n : ℕ) (held page : List ℕ)
    → length page ≡ page_size chip n → Free chip both (return_steps again chip n held page)
free_return false chip both n held page size = free_restore chip both n held page size
free_return true chip both n held page size =
    free_then chip both (give_back_steps chip n held page) (page_reads chip n page)
    (free_restore chip both n held page size) (free_page chip both n page)
