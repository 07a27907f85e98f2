-- What the steps on a page put: it is read, erased and written.
use Rattle.std.proofs.Common.{◌≡◌, ℕ, zero, suc, ◌+◌, ◌*◌, ◌/◌, ◌<◌, ◌≤◌, List, [], ◌∷◌, length, take, drop, Some, refl, arith, length-take}
use Rattle.std.proofs.lemmas.List.{length-drop}
use Rattle.stm_wire.proofs.Names.{ChipData, erase, InPage, page_count, page_size, read_turns, write}
use Rattle.stm_wire.specs.lemmas.DialogueLaws.{erase_sends, length-erase_turns, length-read_turns, length-write_turns, read_sends, write_sends}
use Rattle.stm_wire.specs.SentList.{read}
use Rattle.stm_chip.specs.declared.plan.Frame.{Frame}
use Rattle.stm_session.proofs.Names.{erase_steps, page_address, page_reads, program_steps, read_steps, Sends, write_steps}
use Rattle.stm_session.specs.lemmas.FramesInside.{AreInside, bytes_inside}
use Rattle.stm_session.proofs.SentSteps.{PutFew, put_as, put_none, put_then}

-- a page, of the chip's
module _ (chip : ChipData) (n : ℕ) (exists : n < page_count chip) where
  put_reads : (blocks : ℕ) (bytes : List ℕ) → 256 * blocks ≤ page_size chip n → length bytes ≡ page_size chip n → PutFew (Some chip) (268 * blocks) (read_steps (page_address chip n) blocks bytes)
  put_reads zero bytes le size = put_none (Some chip) 0
  put_reads (suc blocks) bytes le size =
      let address = page_address chip n + 256 * blocks in
      let answer = take 256 (drop (256 * blocks) bytes) in
      let many : length answer ≡ 256 = omega (arith, length-take 256 (drop (256 * blocks) bytes), length-drop (256 * blocks) bytes, le, size) in
      let within : InPage chip n address (length answer) = record { exists = exists; begins = omega arith; ends = omega (arith, many, le) } in
      put_as (Some chip) (268 * blocks + 268) (268 * suc blocks) _ _ (omega arith) refl
      (put_then (Some chip) (268 * blocks) 268 (read_steps (page_address chip n) blocks bytes) (Sends (read_turns address answer) ∷ []) (put_reads blocks bytes (omega (arith, le)) size)
      (record {
        sent = (read chip n address (length answer) refl (omega (arith, many)) (omega (arith, many)) within (read_sends address answer), tt);
        few = omega (arith, length-read_turns address answer, many);
      }))

  pub put_page : (held : List ℕ) → length held ≡ page_size chip n → PutFew (Some chip) (2 * page_size chip n) (page_reads chip n held)
  put_page held size =
      put_as (Some chip) (268 * (page_size chip n / 256)) (2 * page_size chip n) _ _ (omega arith) refl (put_reads (page_size chip n / 256) held (omega arith) size)

  -- and its new bytes
  module _ (page : List ℕ) (size : length page ≡ page_size chip n) where
    put_frame : (f : Frame) → (f.offset + 256 ≤ length page) × (4 ≤ f.length) × (f.length ≤ 256) → PutFew (Some chip) 268 (write_steps chip n page (f ∷ []))
    put_frame f is =
        let sent = take f.length (drop f.offset page) in
        let inside = bytes_inside page f.offset f.length is.0 is.1 in
        let few : length sent ≤ 256 = omega (arith, length-take f.length (drop f.offset page), is.2) in
        let address = page_address chip n + f.offset in
        let within : InPage chip n address (length sent) = record { exists = exists; begins = omega arith; ends = omega (arith, inside.1, size) } in
        record { sent = (write chip n address sent refl inside.0 few within (write_sends address sent), tt); few = omega (arith, length-write_turns address sent, few) }

    put_writes : (frames : List Frame) → AreInside (length page) frames → PutFew (Some chip) (268 * length frames) (write_steps chip n page frames)
    put_writes [] inside = put_none (Some chip) 0
    put_writes (f ∷ frames) (first, inside) =
        put_as (Some chip) (268 + 268 * length frames) (268 * length (f ∷ frames)) _ _ (omega arith) refl
        (put_then (Some chip) 268 (268 * length frames) (write_steps chip n page (f ∷ [])) (write_steps chip n page frames) (put_frame f first) (put_writes frames inside))

    -- with the intent's line before them
    pub put_program : (frames : List Frame) → AreInside (length page) frames → 256 * length frames ≤ length page → PutFew (Some chip) (2 * length page) (program_steps chip n page frames)
    put_program [] inside few = put_none (Some chip) (2 * length page)
    put_program (f ∷ frames) inside few = let p = put_writes (f ∷ frames) inside in record { sent = p.sent; few = omega (arith, p.few, few) }

  pub put_erase : PutFew (Some chip) 9 (erase_steps chip n)
  put_erase = record { sent = (erase chip n refl exists (erase_sends chip.kind n), tt); few = omega (arith, length-erase_turns chip.kind n) }
