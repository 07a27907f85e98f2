-- Reads, and a page's new bytes, step by step.
use Rattle.std.proofs.Common.{◌≡◌, ℕ, zero, suc, ◌+◌, ◌-◌, ◌*◌, ◌/◌, ◌≤◌, List, [], ◌∷◌, ◌++◌, length, take, drop, refl, ◌∙◌, subst, arith}
use Rattle.stm_wire.proofs.Names.{ChipData, erased_byte, page_size, read_turns, write_turns}
use Rattle.stm_chip.specs.declared.plan.Frame.{Frame}
use Rattle.stm_chip.specs.Plan.{frames_of}
use Rattle.stm_session.specs.lemmas.FramesInside.{AreInside, bytes_inside, frames_inside}
use Rattle.stm_session.specs.Kept.{reads, erases, writes}
use Rattle.stm_session.proofs.Names.{page_address, read_steps, rewrite_steps, Sends, Step, write_steps}
use Rattle.stm_any_line.specs.Segments.{IsNewest, segments_behind_steps}
use Rattle.stm_any_line.specs.Tracks.{sends, SendReads, Tracks}
use Rattle.stm_any_line.proofs.Tracking.{Segments, behind-append, reads-then, tracks_then}

-- reads
pub reads_track : (chip : ChipData) (s : Segments) (b : List Step) (address blocks : ℕ)
    (bytes : List ℕ) → Tracks chip s b (read_steps address blocks bytes)
reads_track chip s b address zero bytes = tt
reads_track chip s b address (suc blocks) bytes =
    let answer = take 256 (drop (256 * blocks) bytes) in
    tracks_then chip s b (read_steps address blocks bytes)
    (Sends (read_turns (address + 256 * blocks) answer) ∷ [])
    (reads_track chip s b address blocks bytes)
    (sends (reads (address + 256 * blocks) answer refl), tt)

pub reads_leave : (s : Segments) (address blocks : ℕ) (bytes : List ℕ)
    → segments_behind_steps s (read_steps address blocks bytes) ≡ s
reads_leave s address zero bytes = refl
reads_leave s address (suc blocks) bytes =
    let answer = take 256 (drop (256 * blocks) bytes) in
    behind-append s (read_steps address blocks bytes)
    (Sends (read_turns (address + 256 * blocks) answer) ∷ [])
    ∙ reads_leave s address blocks bytes

pub reads_only : (address blocks : ℕ) (bytes : List ℕ) → SendReads (read_steps address blocks bytes)
reads_only address zero bytes = tt
reads_only address (suc blocks) bytes =
    let answer = take 256 (drop (256 * blocks) bytes) in
    reads-then (read_steps address blocks bytes)
    (Sends (read_turns (address + 256 * blocks) answer) ∷ []) (reads_only address blocks bytes)
    ((address + 256 * blocks, answer, refl), tt)

-- such steps, which keep no page more
pub record Stays (chip : ChipData) (s : Segments) (b steps : List Step) : Type 0 where
  pub tracks : Tracks chip s b steps
  pub same : segments_behind_steps s steps ≡ s

writes_stay : (chip : ChipData) (n : ℕ) (s : Segments) (page : List ℕ)
    (frames : List Frame) (b : List Step) → IsNewest n s → length page ≡ page_size chip n
    → AreInside (length page) frames → Stays chip s b (write_steps chip n page frames)
writes_stay chip n s page [] b is size inside = record { tracks = tt; same = refl }
writes_stay chip n s page (f ∷ frames) b is size (first, inside) =
    let bytes = take f.length (drop f.offset page) in
    let within = bytes_inside page f.offset f.length first.0 first.1 in
    let fits = subst (λ (k : ℕ). f.offset + length bytes ≤ k) size within.1 in
    let sent = write_turns (page_address chip n + f.offset) bytes in
    let rest = writes_stay chip n s page frames (b ++ Sends sent ∷ []) is size inside in
    record {
      tracks = (sends (writes n f.offset bytes is within.0 fits refl), rest.tracks);
      same = rest.same;
    }

-- a page that is kept is erased and written
pub rewrite_stays : (chip : ChipData) (n : ℕ) (s : Segments) (b : List Step) (page : List ℕ)
    → IsNewest n s → length page ≡ page_size chip n
    → Stays chip s b
    (rewrite_steps chip n page (frames_of (erased_byte chip) page (length page / 256)))
rewrite_stays chip n s b page is size =
    with_frames (frames_of (erased_byte chip) page (length page / 256))
    (frames_inside (length page) (erased_byte chip) page (length page / 256) (omega arith))
  where
    with_frames : (frames : List Frame) → AreInside (length page) frames
        → Stays chip s b (rewrite_steps chip n page frames)
    with_frames [] inside =
        record { tracks = ((is, tt), (sends (erases n is refl), tt)); same = refl }
    with_frames (f ∷ frames) inside =
        let written = writes_stay chip n s page (f ∷ frames) _ is size inside in
        record {
          tracks = ((is, tt), (sends (erases n is refl), ((is, tt), written.tracks)));
          same = written.same;
        }
