-- The steps and lines by which a page is given other bytes, or none where it holds them.
use Rattle.std.proofs.Common.{◌≡◌, ◌∙◌, ◌+◌, ◌-◌, ◌/◌, ◌++◌, [], List, ℕ, Bool, true, false, if◌then◌else◌, length, take, drop, ap, ap₂, sym, arith}
use Rattle.std.specs.Prelude.{bytes_eq}
use Rattle.stm_wire.proofs.Names.{ChipData, erased_byte, page_of, page_offset, page_size, RigState}
use Rattle.stm_chip.specs.Plan.{frames_of}
use Rattle.stm_journal.specs.declared.entry.Entry.{Entry}
use Rattle.stm_journal.specs.declared.kept.Kept.{Kept}
use Rattle.stm_journal.proofs.Names.{Loaded}
use Rattle.stm_session.proofs.Names.{Are, Begin, bytes_at, change_entries, DoesSteps, Follows, give_back_steps, IsChanged, IsChangedUnless, return_entries, rewrite_entries, rewrite_steps, Step}
use Rattle.stm_session.proofs.CutShort.{begin_as}
use Rattle.stm_session.proofs.Orders.{does_as}

-- A page that is kept is changed by the steps that give it back,
module _ (chip : ChipData) (n : ℕ) (held page : List ℕ) where
  kept_steps : (steps : List Step) → IsChanged true chip n held page steps
      → steps ≡ give_back_steps chip n held page
  kept_steps steps = by_same (bytes_eq held page)
    where
      by_same : (same : Bool) → IsChangedUnless same true chip n held page steps
          → steps ≡ (if same then [] else rewrite_steps chip n page
          (frames_of (erased_byte chip) page (length page / 256)))
      by_same true is = is
      by_same false is =
          is.is ∙ ap (λ (l : List Step). l ++ rewrite_steps chip n page
          (frames_of (erased_byte chip) page (length page / 256))) is.is_saved

  pub kept_does : (l l2 : Loaded) (a b : RigState)
      → Follows (IsChanged true chip n held page) l l2 a b
      → DoesSteps (give_back_steps chip n held page) l l2 a b
  kept_does l l2 a b made = does_as made.0 _ l l2 a b (kept_steps made.0 made.1) made.2

  pub kept_begun : (steps : List Step) → Begin (IsChanged true chip n held page) steps
      → Begin (Are (give_back_steps chip n held page)) steps
  kept_begun = begin_as (IsChanged true chip n held page) _ kept_steps

  -- and by its lines.
  pub kept_lines : (flash : List ℕ) → held ≡ page_of chip flash n
      → change_entries true chip flash n page
      ≡ (if bytes_eq held page then [] else rewrite_entries chip n page)
  kept_lines flash read =
      ap (λ (xs : List ℕ). if bytes_eq xs page then [] else rewrite_entries chip n page) (sym read)

-- a part of the flash that is a page
pub page_read : (chip : ChipData) (flash : List ℕ) (n start size : ℕ) → start ≡ chip.base + page_offset chip n → size ≡ page_size chip n → bytes_at chip flash start size ≡ page_of chip flash n
page_read chip flash n start size at is =
    let from : start - chip.base ≡ page_offset chip n = omega (arith, at) in
    ap₂ (λ (z k : ℕ). take z (drop k flash)) is from

-- the lines of a kept page, by what was read of it and what is kept
pub lines_same : (chip : ChipData) (flash : List ℕ) (n : ℕ) (held page : List ℕ) (kept : Kept) → held ≡ page_of chip flash n → page ≡ kept.bytes → kept.page ≡ n
    → (if bytes_eq held page then [] else rewrite_entries chip n page) ≡ return_entries chip flash kept
lines_same chip flash n held page kept read is number =
    let L : List ℕ → List ℕ → ℕ → List Entry = λ h p m. if bytes_eq h p then [] else rewrite_entries chip m p in
    ap₂ (λ (h p : List ℕ). L h p n) read is ∙ ap (λ (m : ℕ). L (page_of chip flash m) kept.bytes m) (sym number)
