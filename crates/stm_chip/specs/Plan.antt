-- How a page of flash comes to hold new bytes.
use Rattle.std.specs.Prelude.{ℕ, zero, suc, ◌≡◌, ◌≢◌, ◌+◌, ◌*◌, ◌/◌, ◌%◌, ◌≤◌, ◌==◌, if◌then◌else◌}
use Rattle.std.specs.Prelude.{List, [], ◌∷◌, ◌++◌, length, take, drop, replicate}
use Rattle.stm_wire.specs.Chip.{with_bytes}
use Rattle.stm_chip.specs.declared.plan.Frame.{Frame}
use Rattle.stm_chip.specs.declared.plan.PagePlan.{PagePlan}
use Rattle.stm_chip.specs.declared.plan.PagePlan.TheVariants.{Same, Erase}

-- one byte before some others of which this many are used
abbrev pub used_before : ℕ → ℕ → ℕ → ℕ
used_before erased byte used = if used == 0 then (if byte == erased then 0 else 1) else used + 1

-- how many bytes of a block there are up to its last that isn't the erased one
unfoldable pub used_length : ℕ → List ℕ → ℕ
used_length erased [] = 0
used_length erased (byte ∷ bytes) = used_before erased byte (used_length erased bytes)

-- how many bytes of a block are written: those, rounded up to a multiple of 4
abbrev pub cut_length : ℕ → List ℕ → ℕ
cut_length erased block = (used_length erased block + 3) / 4 * 4

-- the frame of so many bytes, from this offset of its page on
abbrev pub frame_with : ℕ → ℕ → Frame
frame_with offset length = record { offset = offset; length = length }

-- the frame of a block at this offset; none where each byte is the erased one
abbrev pub frame_of : ℕ → ℕ → List ℕ → List Frame
frame_of erased offset block =
    if used_length erased block == 0 then [] else frame_with offset (cut_length erased block) ∷ []

-- block n of a page, counted from the page's start
abbrev pub block_of : List ℕ → ℕ → List ℕ
block_of page n = take 256 (drop (256 * n) page)

-- the frames of a page's first n blocks
unfoldable pub frames_of : ℕ → List ℕ → ℕ → List Frame
frames_of erased page zero = []
frames_of erased page (suc n) =
    frames_of erased page n ++ frame_of erased (256 * n) (block_of page n)

-- a page on which these frames' bytes of a new page were written, one frame after another
unfoldable pub written : List ℕ → List Frame → List ℕ → List ℕ
written new [] page = page
written new (frame ∷ frames) page =
    written new frames (with_bytes frame.offset (take frame.length (drop frame.offset new)) page)

-- the plan from an old page to a new one
abbrev pub IsPlan : ℕ → List ℕ → List ℕ → PagePlan → Type 0
IsPlan erased old new Same = old ≡ new
IsPlan erased old new (Erase frames) =
    (old ≢ new) × (frames.items ≡ frames_of erased new (length new / 256))

-- the page, after this plan
abbrev pub planned : ℕ → List ℕ → List ℕ → PagePlan → List ℕ
planned erased old new Same = old
planned erased old new (Erase frames) = written new frames.items (replicate (length old) erased)

-- the frames of a plan
abbrev pub frames_in : PagePlan → List Frame
frames_in Same = []
frames_in (Erase frames) = frames.items

-- 4 to 256 bytes, a multiple of 4, at the start of a block of 256 bytes that lies from this place
-- on in a page of this size
pub record IsFrameOfPlan (from size : ℕ) (frame : Frame) : Type 0 where
  pub aligned : frame.offset % 256 ≡ 0
  pub after : from ≤ frame.offset
  pub inside : frame.offset + 256 ≤ size
  pub some : 4 ≤ frame.length
  pub limit : frame.length ≤ 256
  pub words : frame.length % 4 ≡ 0

-- each of these frames has a block of its own, by rising offset, from this place
-- on in a page of this size
abbrev pub AreFrames : ℕ → ℕ → List Frame → Type 0
AreFrames from size [] = Unit {0}
AreFrames from size (frame ∷ frames) =
    IsFrameOfPlan from size frame × AreFrames (frame.offset + 256) size frames
