-- A page changes in a command.
use Rattle.std.proofs.Common.{Ok, ◌≡◌, ◌≢◌, ◌/◌, ℕ, Bool, false, not, if◌then◌else◌, List, [], ◌∷◌, ◌++◌, length, refl, sym, ◌∙◌, ap, subst, ⊎_elim}
use Rattle.std.specs.Prelude.{bytes_eq, Vec}
use Rattle.std.proofs.lemmas.Bool.{cases_Bool, true≢false}
use Rattle.std.proofs.lemmas.Slice.Eq.{bytes_eq-Decides}
use Rattle.stm_wire.proofs.Names.{ChipData, erased_byte, IsModel, page_of, RigState, with_page}
use Rattle.stm_journal.proofs.Names.{Loaded, StateData}
use Rattle.stm_session.proofs.Names.{change_entries, HasTurned, IsChanged, Performs, program_entries, rewrite_entries, save_entries, StepLaws}
use Rattle.stm_session.proofs.ChangeOrders.{changed_none}
use Rattle.stm_session.proofs.Going.{page_held}
use Rattle.stm_session.proofs.Performing.{performs_none}
use Rattle.std.specs.declared.alloc.Global.{Global}
use Rattle.stm_chip.specs.declared.plan.PagePlan.{PagePlan}
use Rattle.stm_chip.specs.declared.plan.PagePlan.TheVariants.{Erase}
use Rattle.stm_chip.specs.Plan.{IsPlan, frames_of}
use Rattle.stm_chip.specs.declared.plan.Frame.{Frame}
use Rattle.stm_journal.specs.declared.entry.Entry.{Entry}
use Rattle.stm_journal.specs.declared.entry.Entry.TheVariants.{Erases}

-- a page that holds its bytes
pub not_turned : (kept changed : Bool) (chip : ChipData) (n : ℕ) (s : StateData) → changed ≡ false → HasTurned kept changed chip n s s
not_turned kept changed chip n s same =
    record {
      depth = refl;
      is_open = λ h. h;
      still = λ m h. h;
      free = λ m one two. refl;
      companion = λ is fresh one has. absurd (true≢false (sym is ∙ same));
      alone = λ other first_page. refl;
      keeps = λ is. absurd (true≢false (sym is ∙ same));
      none = λ is. refl;
    }

-- its lines
module _ (kept : Bool) (chip : ChipData) (flash : List ℕ) (n : ℕ) (held page : List ℕ) (read : held ≡ page_of chip flash n) where
  abbrev lines_if : Bool → List Entry
  lines_if b = if b then [] else save_entries kept chip flash n ++ rewrite_entries chip n page

  pub same_lines_of : held ≡ page → change_entries kept chip flash n page ≡ []
  same_lines_of same = ap lines_if ((bytes_eq-Decides (page_of chip flash n) page).1 (sym read ∙ same))

  pub change_lines : (frames : List Frame) → held ≢ page → frames ≡ frames_of (erased_byte chip) page (length page / 256)
      → save_entries kept chip flash n ++ Erases n ∷ program_entries n frames ≡ change_entries kept chip flash n page
  change_lines frames other is =
      ap (λ (fs : List Frame). save_entries kept chip flash n ++ Erases n ∷ program_entries n fs) is
      ∙ sym (ap lines_if (⊎_elim (λ same. absurd (other (read ∙ (bytes_eq-Decides (page_of chip flash n) page).0 same))) (λ none. none) (cases_Bool (bytes_eq (page_of chip flash n) page))))

pub told_same : (held page : List ℕ) → held ≡ page → false ≡ not (bytes_eq held page)
told_same held page same = ap (λ (b : Bool). not b) (sym ((bytes_eq-Decides held page).1 same))

-- the plan of a page that is to change
pub planned : {e : ℕ} (chip : ChipData) {held page : List ℕ} {plan : PagePlan}
    {frames : Vec Frame Global} → plan ≡ Erase frames → IsPlan e held page plan
    → e ≡ erased_byte chip → (held ≢ page)
    × (frames.items ≡ frames_of (erased_byte chip) page (length page / 256))
planned {e} chip {held} {page} is plan byte =
    let P : PagePlan → Type 0 = λ p. IsPlan e held page p in
    let own = subst P is plan in
    (own.0, own.1 ∙ ap (λ (x : ℕ). frames_of x page (length page / 256)) byte)

-- a page that holds its bytes is left
pub performs_same : (laws : StepLaws) (kept : Bool) (chip : ChipData) (n : ℕ)
    {held page : List ℕ} {l : Loaded} {a : RigState} → (a.is_honest → IsModel a) → held ≡ page
    → Performs (IsChanged kept chip n held page) (change_entries kept chip a.device.flash n page)
    ((a.device.chip ≡ chip) × (held ≡ page_of chip a.device.flash n))
    (λ y. a.device.flash ≡ with_page chip n page a.device.flash) l l a a (Ok false)
performs_same laws kept chip n {held} {page} {a = a} model same =
    performs_none laws model false (changed_none kept chip n held page same)
    (λ h may. (
      same_lines_of kept chip a.device.flash n held page may.1 same,
      page_held chip n page a.device (model h).device may.0 (sym same ∙ may.1),
    ))
