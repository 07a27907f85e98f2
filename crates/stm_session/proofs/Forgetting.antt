-- What a session refuses needs no bytes of the pages that a journal keeps.
use Rattle.std.proofs.Common.{◌≡◌, ℕ, Bool, not, ◌&&◌, ◌||◌, ◌==◌, nat_lt, if◌then◌else◌, List, [], ◌∷◌, ◌++◌, length, map, Option, Some, None, option_map, refl, ap, ap₂, ◌∙◌}
use Rattle.std.specs.List.{list_any}
use Rattle.std.specs.Prelude.{is_none, is_some}
use Rattle.std.proofs.lemmas.List.{length-replicate}
use Rattle.stm_wire.proofs.Names.{ChipData, page_count, page_size}
use Rattle.stm_journal.specs.declared.kept.Kept.{Kept}
use Rattle.stm_journal.proofs.Names.{forget_kept, forget_segment, forget_state, good, names_other, names_other_board, SegmentData, StateData}
use Rattle.stm_journal.specs.lemmas.ForgetLaws.{depth-forgets, is_unfinished-forgets}
use Rattle.stm_journal.specs.declared.header.JournalHeader.{JournalHeader}
use Rattle.stm_session.proofs.Names.{asking_refusal, begun_refusal, chip_with, device_refusals, Fault, first_of, fits_among, has_companion, header_misfits, lacks_companion, least, line_refusal}
use Rattle.stm_session.proofs.Names.{misfit_lines, misfit_lines_of, misfit_refusal, names_no_board, open_refusal, refused_unless, table_refusal, unasked_refusal, unlisted_refusal, unsent_refusal}
use Rattle.stm_session.specs.declared.fault.Fault.TheVariants.{BadJournal, Unfinished, OtherBoard, OtherDevice, InSession}

any-forgets : (n : ℕ) (pages : List Kept) → list_any (λ kept. kept.page == n) (map forget_kept pages) ≡ list_any (λ kept. kept.page == n) pages
any-forgets n [] = refl
any-forgets n (kept ∷ pages) = ap (λ (b : Bool). (kept.page == n) || b) (any-forgets n pages)

companion-forgets : (chip : ChipData) (among : List Kept) (n : ℕ) → lacks_companion chip (map forget_kept among) n ≡ lacks_companion chip among n
companion-forgets chip among n = ap (λ (b : Bool). n == 1 && has_companion chip && not b) (any-forgets 257 among)

fits-forgets : (chip : ChipData) (among : List Kept) (kept : Kept) → fits_among chip (map forget_kept among) (forget_kept kept) ≡ fits_among chip among kept
fits-forgets chip among kept =
    ap₂ (λ (n : ℕ) (b : Bool). (nat_lt kept.page (page_count chip) && (n == page_size chip kept.page)) && not b)
    (length-replicate (length kept.bytes) 0) (companion-forgets chip among kept.page)

lines-forget : (chip : ChipData) (among pages : List Kept) → misfit_lines_of chip (map forget_kept among) (map forget_kept pages) ≡ misfit_lines_of chip among pages
lines-forget chip among [] = refl
lines-forget chip among (kept ∷ pages) =
    ap₂ (λ (b : Bool) (rest : List ℕ). (if b then [] else kept.line ∷ []) ++ rest) (fits-forgets chip among kept) (lines-forget chip among pages)

stack-forgets : (chip : ChipData) (stack : List SegmentData) → misfit_lines chip (map forget_segment stack) ≡ misfit_lines chip stack
stack-forgets chip [] = refl
stack-forgets chip (segment ∷ below) = ap₂ (λ (first rest : List ℕ). first ++ rest) (lines-forget chip segment.pages segment.pages) (stack-forgets chip below)

line-forgets : (chip : ChipData) (s : StateData) → line_refusal chip (forget_state s) ≡ line_refusal chip s
line-forgets chip s = ap (λ (lines : List ℕ). option_map (λ line. BadJournal line) (least (header_misfits chip s.header ++ lines))) (stack-forgets chip s.stack)

pub misfit-forgets : (chip : ChipData) (s : StateData) → misfit_refusal chip (forget_state s) ≡ misfit_refusal chip s
misfit-forgets chip s = ap (λ (line : Option Fault). if names_other_board chip.unique s then Some OtherBoard else line) (line-forgets chip s)

table-forgets : (s : StateData) (id : ℕ) (chip : Option ChipData) → table_refusal (forget_state s) id chip ≡ table_refusal s id chip
table-forgets s id None = refl
table-forgets s id (Some chip) = misfit-forgets chip s

pub device-forgets : (s : StateData) (id : ℕ) (table : List ChipData) → device_refusals (forget_state s) id table ≡ device_refusals s id table
device-forgets s id table = ap (λ (o : Option Fault). refused_unless (not (names_other id s)) OtherDevice ∷ o ∷ []) (table-forgets s id (chip_with table id))

pub unsent-forgets : (s : StateData) → unsent_refusal (good (forget_state s)) ≡ unsent_refusal (good s)
unsent-forgets s = ap (λ (b : Bool). refused_unless (not b) Unfinished) (is_unfinished-forgets s)

pub open-forgets : (s : StateData) → open_refusal (good (forget_state s)) ≡ open_refusal (good s)
open-forgets s = ap (λ (n : ℕ). refused_unless (n == 0) InSession) (depth-forgets s)

-- what is refused before the device is asked
unasked-forgets : (chip : ChipData) (s : StateData) → unasked_refusal chip (forget_state s) ≡ unasked_refusal chip s
unasked-forgets chip s =
    let R : Option Fault → Option Fault → Option Fault → Option Fault =
    λ first second all. if names_no_board chip s then Some OtherBoard else if is_some chip.places.size && (is_none first || is_none second) then None else all in
    let first = line-forgets (first_of 257 chip) s in
    let second = line-forgets (first_of 256 chip) s in
    ap (λ (x : Option Fault). R x (line_refusal (first_of 256 chip) (forget_state s)) (line_refusal chip (forget_state s))) first
    ∙ ap₂ (λ (x y : Option Fault). R (line_refusal (first_of 257 chip) s) x y) second (line-forgets chip s)

begun-forgets : (s : StateData) (table : List ChipData) (header : Option JournalHeader) → begun_refusal (forget_state s) table header ≡ begun_refusal s table header
begun-forgets s table None = refl
begun-forgets s table (Some header) = by_chip (chip_with table header.id)
  where
    by_chip : (o : Option ChipData) → unlisted_refusal (forget_state s) header.id o ≡ unlisted_refusal s header.id o
    by_chip None = refl
    by_chip (Some chip) = unasked-forgets chip s

pub asking-forgets : (table : List ChipData) (s : StateData) → asking_refusal (good (forget_state s)) table ≡ asking_refusal (good s) table
asking-forgets table s =
    ap₂ (λ (b : Bool) (refusal : Option Fault). if b then refusal else None) (is_unfinished-forgets s) (begun-forgets s table s.header)
