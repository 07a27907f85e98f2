-- Worked exchanges, computed: bytes in hexadecimal, each with the section of AN3155 that it comes
-- from.
use Rattle.std.specs.Prelude.{◌≡◌, ℕ, List, [], ◌∷◌, replicate, Some, None, refl}
use Rattle.stm_wire.specs.declared.chip.EraseKind.TheVariants.{Page, Extended}
use Rattle.stm_wire.specs.Chip.{ChipData, at_places, chip_of, of_board}
use Rattle.stm_wire.specs.declared.verdict.Verdict.TheVariants.{Done, Refused, Loose}
use Rattle.stm_wire.specs.Telling.{can_read, is_readable}
use Rattle.stm_wire.specs.Exchange.{verdict}
use Rattle.stm_wire.specs.Effect.{change_of, ErasePages, EraseAll, Write}
use Rattle.stm_wire.specs.Reply.{reply}
use Rattle.stm_wire.specs.Frames.{read_frame, write_frame, erase_frame}

-- 32 pages of 1 KiB, erased by 43
abbrev pub medium_chip : ChipData
medium_chip = chip_of 0x412 0x08000000 (replicate 32 1024) Page 0xFF

abbrev pub medium_codes : List ℕ
medium_codes = 0x00 ∷ 0x02 ∷ 0x11 ∷ 0x21 ∷ 0x31 ∷ 0x43 ∷ 0x73 ∷ 0x82 ∷ 0x92 ∷ []

-- 256 pages of 256 bytes, erased by 44
abbrev pub extended_chip : ChipData
extended_chip = chip_of 0xA01 0x08000000 (replicate 256 256) Extended 0xFF

-- 512 pages of 256 bytes, erased by 44
abbrev pub large_chip : ChipData
large_chip = chip_of 0xA02 0x08000000 (replicate 512 256) Extended 0xFF

abbrev pub extended_codes : List ℕ
extended_codes = 0x00 ∷ 0x02 ∷ 0x11 ∷ 0x21 ∷ 0x31 ∷ 0x44 ∷ 0x73 ∷ 0x82 ∷ 0x92 ∷ []

abbrev pub some_flash : List ℕ
some_flash = 1 ∷ 2 ∷ 3 ∷ 4 ∷ 5 ∷ []

-- Get, 3.1: how many codes, the version, the codes
get : reply medium_chip 0x22 medium_codes [] (0x00 ∷ 0xFF ∷ [])
    ≡ 0x79 ∷ 0x09 ∷ 0x22 ∷ 0x00 ∷ 0x02 ∷ 0x11 ∷ 0x21 ∷ 0x31 ∷ 0x43 ∷ 0x73 ∷ 0x82 ∷ 0x92 ∷ 0x79 ∷ []
get = refl

-- Get ID, 3.3: one less than how many bytes, and the two bytes
get_id : reply medium_chip 0x22 medium_codes [] (0x02 ∷ 0xFD ∷ [])
    ≡ 0x79 ∷ 0x01 ∷ 0x04 ∷ 0x12 ∷ 0x79 ∷ []
get_id = refl

-- Read Memory, 3.4: the code, the address and the count are acknowledged, then come the bytes
read_code : reply medium_chip 0x22 medium_codes some_flash (0x11 ∷ 0xEE ∷ []) ≡ 0x79 ∷ []
read_code = refl

read_address : reply medium_chip 0x22 medium_codes some_flash
    (0x11 ∷ 0xEE ∷ 0x08 ∷ 0x00 ∷ 0x00 ∷ 0x00 ∷ 0x08 ∷ []) ≡ 0x79 ∷ []
unfolding is_readable
read_address = refl

read_four_bytes : reply medium_chip 0x22 medium_codes some_flash (read_frame 0x08000000 4)
    ≡ 0x79 ∷ 1 ∷ 2 ∷ 3 ∷ 4 ∷ []
unfolding is_readable can_read
read_four_bytes = refl

read_four_bytes_sent : read_frame 0x08000000 4
    ≡ 0x11 ∷ 0xEE ∷ 0x08 ∷ 0x00 ∷ 0x00 ∷ 0x00 ∷ 0x08 ∷ 0x03 ∷ 0xFC ∷ []
read_four_bytes_sent = refl

-- A chip that tells its board: its unique id of 12 bytes, and the size of its flash of 32 KiB.
abbrev pub telling_chip : ChipData
telling_chip = of_board (0x41 ∷ 0x42 ∷ 0x43 ∷ 0x44 ∷ 0x45 ∷ 0x46 ∷ 0x47 ∷ 0x48 ∷ 0x49 ∷ 0x4A ∷ 0x4B ∷ 0x4C ∷ [])
    (at_places (record {
      unique = Some (record { address = 0x1FFFF7E8; length = 12 });
      size = Some 0x1FFFF7E0;
    }) medium_chip)

read_unique_id : reply telling_chip 0x22 medium_codes some_flash (read_frame 0x1FFFF7E8 12)
    ≡ 0x79 ∷ 0x41 ∷ 0x42 ∷ 0x43 ∷ 0x44 ∷ 0x45 ∷ 0x46 ∷ 0x47 ∷ 0x48 ∷ 0x49 ∷ 0x4A ∷ 0x4B ∷ 0x4C ∷ []
unfolding is_readable can_read
read_unique_id = refl

read_size : reply telling_chip 0x22 medium_codes some_flash (read_frame 0x1FFFF7E0 2)
    ≡ 0x79 ∷ 0x20 ∷ 0x00 ∷ []
unfolding is_readable can_read
read_size = refl

-- a part of the unique id isn't told, and neither is what lies beside its place
read_part_of_id : reply telling_chip 0x22 medium_codes some_flash (read_frame 0x1FFFF7E8 4)
    ≡ 0x1F ∷ []
unfolding is_readable can_read
read_part_of_id = refl

read_beside : reply telling_chip 0x22 medium_codes some_flash
    (0x11 ∷ 0xEE ∷ 0x1F ∷ 0xFF ∷ 0xF7 ∷ 0xE9 ∷ 0xFE ∷ []) ≡ 0x1F ∷ []
unfolding is_readable
read_beside = refl

-- a chip without such places tells nothing outside its flash
read_outside : reply medium_chip 0x22 medium_codes some_flash
    (0x11 ∷ 0xEE ∷ 0x1F ∷ 0xFF ∷ 0xF7 ∷ 0xE8 ∷ 0xFF ∷ []) ≡ 0x1F ∷ []
unfolding is_readable
read_outside = refl

-- Go, 3.5: the list ends with the address
go : verdict medium_chip medium_codes (0x21 ∷ 0xDE ∷ 0x08 ∷ 0x00 ∷ 0x00 ∷ 0x00 ∷ 0x08 ∷ [])
    ≡ Some Done
go = refl

-- Write Memory, 3.6
write_four_bytes_sent : write_frame 0x08000000 (1 ∷ 2 ∷ 3 ∷ 4 ∷ [])
    ≡ 0x31 ∷ 0xCE ∷ 0x08 ∷ 0x00 ∷ 0x00 ∷ 0x00 ∷ 0x08 ∷ 0x03 ∷ 0x01 ∷ 0x02 ∷ 0x03 ∷ 0x04 ∷ 0x07 ∷ []
write_four_bytes_sent = refl

write_four_bytes : verdict medium_chip medium_codes (write_frame 0x08000000 (1 ∷ 2 ∷ 3 ∷ 4 ∷ []))
    ≡ Some Done
write_four_bytes = refl

write_four_bytes_change : change_of (write_frame 0x08000000 (1 ∷ 2 ∷ 3 ∷ 4 ∷ []))
    ≡ Write 0x08000000 (1 ∷ 2 ∷ 3 ∷ 4 ∷ [])
write_four_bytes_change = refl

-- Erase Memory, 3.7: one page; a page that isn't there; six times page 5, which ends with its
-- checksum and no sooner; all
erase_page_31 : verdict medium_chip medium_codes (erase_frame Page 31) ≡ Some Done
erase_page_31 = refl

erase_missing_page : verdict medium_chip medium_codes (erase_frame Page 32) ≡ Some Refused
erase_missing_page = refl

erase_page_5_six_times : verdict medium_chip medium_codes (0x43 ∷ 0xBC ∷ replicate 8 0x05)
    ≡ Some Done
erase_page_5_six_times = refl

erase_page_5_still_open : verdict medium_chip medium_codes (0x43 ∷ 0xBC ∷ replicate 7 0x05) ≡ None
erase_page_5_still_open = refl

erase_page_5_change : change_of (0x43 ∷ 0xBC ∷ replicate 8 0x05) ≡ ErasePages (replicate 6 0x05)
erase_page_5_change = refl

erase_all : change_of (0x43 ∷ 0xBC ∷ 0xFF ∷ 0x00 ∷ []) ≡ EraseAll
erase_all = refl

erase_all_wrong_checksum : verdict medium_chip medium_codes (0x43 ∷ 0xBC ∷ 0xFF ∷ 0xFF ∷ [])
    ≡ Some Refused
erase_all_wrong_checksum = refl

-- Extended Erase Memory, 3.8: one page; 257 pages that aren't there, refused with the last byte;
-- one bank, of which nothing is promised
extended_erase_page_0 : verdict extended_chip extended_codes (0x44 ∷ 0xBB ∷ replicate 5 0x00)
    ≡ Some Done
extended_erase_page_0 = refl

extended_erase_page_0_sent : erase_frame Extended 0 ≡ 0x44 ∷ 0xBB ∷ replicate 5 0x00
extended_erase_page_0_sent = refl

extended_erase_still_open : verdict extended_chip extended_codes
    (0x44 ∷ 0xBB ∷ 0x00 ∷ replicate 513 0xFF) ≡ None
extended_erase_still_open = refl

extended_erase_missing_pages : verdict extended_chip extended_codes
    (0x44 ∷ 0xBB ∷ 0x00 ∷ replicate 514 0xFF) ≡ Some Refused
extended_erase_missing_pages = refl

extended_erase_bank : verdict extended_chip extended_codes (0x44 ∷ 0xBB ∷ 0xFF ∷ 0xFE ∷ 0x01 ∷ [])
    ≡ Some Loose
extended_erase_bank = refl

-- a list that an erase of page 1 began, and bytes 01 finished: page 257, twice
extended_erase_companion : verdict large_chip extended_codes (0x44 ∷ 0xBB ∷ 0x00 ∷ replicate 6 0x01)
    ≡ Some Done
extended_erase_companion = refl

extended_erase_companion_change : change_of (0x44 ∷ 0xBB ∷ 0x00 ∷ replicate 6 0x01)
    ≡ ErasePages (257 ∷ 257 ∷ [])
extended_erase_companion_change = refl

-- a chip of 256 pages hasn't it
extended_erase_no_companion : verdict extended_chip extended_codes
    (0x44 ∷ 0xBB ∷ 0x00 ∷ replicate 6 0x01) ≡ Some Refused
extended_erase_no_companion = refl

-- lists that an erase of page 258 began, and bytes 02 ended
extended_erase_page_258_sent : erase_frame Extended 258
    ≡ 0x44 ∷ 0xBB ∷ 0x00 ∷ 0x00 ∷ 0x01 ∷ 0x02 ∷ 0x03 ∷ []
extended_erase_page_258_sent = refl

extended_erase_page_258_settled : verdict large_chip extended_codes
    (0x44 ∷ 0xBB ∷ 0x00 ∷ 0x00 ∷ 0x01 ∷ 0x02 ∷ 0x02 ∷ []) ≡ Some Refused
extended_erase_page_258_settled = refl

extended_erase_page_514 : verdict large_chip extended_codes
    (0x44 ∷ 0xBB ∷ 0x00 ∷ 0x00 ∷ replicate 3 0x02) ≡ Some Refused
extended_erase_page_514 = refl

-- Write Unprotect, 3.10: two acknowledgements
write_unprotect : reply medium_chip 0x22 medium_codes [] (0x73 ∷ 0x8C ∷ []) ≡ 0x79 ∷ 0x79 ∷ []
write_unprotect = refl

-- a code that is not listed is refused with its complement
unlisted_code : verdict medium_chip medium_codes (0x44 ∷ 0xBB ∷ []) ≡ Some Refused
unlisted_code = refl
