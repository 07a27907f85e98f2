-- The steps of a run keep each page before they change it.
use Rattle.std.proofs.Common.{◌≡◌, Contains, ℕ, zero, suc, ◌+◌, ◌-◌, ◌*◌, ◌/◌, ◌≤◌, List, [], ◌∷◌, ◌++◌, length, take, drop, Option, Some, refl, sym, ◌∙◌, ap, subst, arith}
use Rattle.stm_wire.proofs.Names.{ChipData, erased_byte, page_size, read_turns}
use Rattle.stm_chip.specs.declared.plan.Frame.{Frame}
use Rattle.stm_chip.specs.Plan.{frames_of}
use Rattle.stm_session.proofs.Names.{Adds, IsKept, KeepsFirst, kept_behind_lines, kept_behind_steps, read_steps, rewrite_steps, Sends, Step, write_steps}
use Rattle.stm_session.specs.lemmas.FramesInside.{AreInside, bytes_inside, frames_inside}
use Rattle.stm_session.specs.Kept.{reads, erases, writes}

-- the first of a list is in it, and so is each other one
pub here : (n : ℕ) (pages : List ℕ) → Contains (n ∷ pages) n
here n pages = (zero, omega arith, refl)

pub later : (n m : ℕ) (pages : List ℕ) → Contains pages n → Contains (m ∷ pages) n
later n m pages is = (suc is.0, omega (arith, is.1), is.2)

-- such steps, and what is kept behind them
pub record Leads (chip : ChipData) (kept : Option (List ℕ)) (steps : List Step) (later : Option (List ℕ)) : Type 0 where
  pub keeps : KeepsFirst chip kept steps
  pub behind : kept_behind_steps kept steps ≡ later

pub keeps_then : (chip : ChipData) (kept : Option (List ℕ)) (xs ys : List Step) → KeepsFirst chip kept xs → KeepsFirst chip (kept_behind_steps kept xs) ys → KeepsFirst chip kept (xs ++ ys)
keeps_then chip kept [] ys p q = q
keeps_then chip kept (Adds entries ∷ xs) ys (first, p) q = (first, keeps_then chip (kept_behind_lines kept entries) xs ys p q)
keeps_then chip kept (Sends turns ∷ xs) ys (first, p) q = (first, keeps_then chip kept xs ys p q)

pub behind-append : (kept : Option (List ℕ)) (xs ys : List Step) → kept_behind_steps kept (xs ++ ys) ≡ kept_behind_steps (kept_behind_steps kept xs) ys
behind-append kept [] ys = refl
behind-append kept (Adds entries ∷ xs) ys = behind-append (kept_behind_lines kept entries) xs ys
behind-append kept (Sends turns ∷ xs) ys = behind-append kept xs ys

-- a beginning of such steps is such
pub keeps_front : (chip : ChipData) (kept : Option (List ℕ)) (xs ys : List Step) → KeepsFirst chip kept (xs ++ ys) → KeepsFirst chip kept xs
keeps_front chip kept [] ys p = tt
keeps_front chip kept (Adds entries ∷ xs) ys (first, p) = (first, keeps_front chip (kept_behind_lines kept entries) xs ys p)
keeps_front chip kept (Sends turns ∷ xs) ys (first, p) = (first, keeps_front chip kept xs ys p)

pub leads_then : (chip : ChipData) (kept mid later : Option (List ℕ)) (xs ys : List Step) → Leads chip kept xs mid → Leads chip mid ys later → Leads chip kept (xs ++ ys) later
leads_then chip kept mid later xs ys p q =
    let P : Option (List ℕ) → Type 0 = λ k. KeepsFirst chip k ys in
    record {
      keeps = keeps_then chip kept xs ys p.keeps (subst P (sym p.behind) q.keeps);
      behind = behind-append kept xs ys ∙ ap (λ (k : Option (List ℕ)). kept_behind_steps k ys) p.behind ∙ q.behind;
    }

pub leads_nothing : (chip : ChipData) (kept : Option (List ℕ)) → Leads chip kept [] kept
leads_nothing chip kept = record { keeps = tt; behind = refl }

-- reads
pub leads_reads : (chip : ChipData) (kept : Option (List ℕ)) (address blocks : ℕ) (bytes : List ℕ) → Leads chip kept (read_steps address blocks bytes) kept
leads_reads chip kept address zero bytes = leads_nothing chip kept
leads_reads chip kept address (suc blocks) bytes =
    leads_then chip kept kept kept (read_steps address blocks bytes) (Sends (read_turns (address + 256 * blocks) (take 256 (drop (256 * blocks) bytes))) ∷ []) (leads_reads chip kept address blocks bytes)
    (record { keeps = (reads (address + 256 * blocks) (take 256 (drop (256 * blocks) bytes)) refl, tt); behind = refl })

leads_writes : (chip : ChipData) (n : ℕ) (kept : Option (List ℕ)) (page : List ℕ) (frames : List Frame) → IsKept n kept → length page ≡ page_size chip n → AreInside (length page) frames → Leads chip kept (write_steps chip n page frames) kept
leads_writes chip n kept page [] is size inside = leads_nothing chip kept
leads_writes chip n kept page (f ∷ frames) is size (first, inside) =
    let bytes = take f.length (drop f.offset page) in
    let within = bytes_inside page f.offset f.length first.0 first.1 in
    let rest = leads_writes chip n kept page frames is size inside in
    record {
      keeps = (writes n f.offset bytes is within.0 (subst (λ (s : ℕ). f.offset + length bytes ≤ s) size within.1) refl, rest.keeps);
      behind = rest.behind;
    }

-- a page that is kept is erased and written
pub leads_rewrite : (chip : ChipData) (n : ℕ) (pages page : List ℕ) → Contains pages n → length page ≡ page_size chip n
    → Leads chip (Some pages) (rewrite_steps chip n page (frames_of (erased_byte chip) page (length page / 256))) (Some pages)
leads_rewrite chip n pages page is size = with_frames (frames_of (erased_byte chip) page (length page / 256)) (frames_inside (length page) (erased_byte chip) page (length page / 256) (omega arith))
  where
    with_frames : (frames : List Frame) → AreInside (length page) frames → Leads chip (Some pages) (rewrite_steps chip n page frames) (Some pages)
    with_frames [] inside = record { keeps = ((is, tt), (erases n is refl, tt)); behind = refl }
    with_frames (f ∷ frames) inside =
        let written = leads_writes chip n (Some pages) page (f ∷ frames) is size inside in
        record { keeps = ((is, tt), (erases n is refl, ((is, tt), written.keeps))); behind = written.behind }
