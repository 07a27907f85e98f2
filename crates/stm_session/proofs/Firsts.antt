-- What is kept before a page changes, as deeds; and the page's change behind them.
use Rattle.std.proofs.Common.{◌≡◌, ◌≢◌, ◌∙◌, ℕ, ◌-◌, ◌<◌, ◌/◌, ◌==◌, ◌&&◌, not, Bool, true, false}
use Rattle.std.proofs.Common.{if◌then◌else◌, List, [], ◌∷◌, ◌++◌, length, map, take, drop, Result, Ok, Err}
use Rattle.std.proofs.Common.{IsErrAnd, IsTrue, ap, ap₂, append_assoc, arith, refl, subst, sym}
use Rattle.std.specs.Borrow.{Bor}
use Rattle.std.specs.Prelude.{Vec, flat_map, fold, vec_len}
use Rattle.std.specs.declared.alloc.Global.{Global}
use Rattle.std.proofs.lemmas.Bool.{eq-eqb, true≢false}
use Rattle.std.proofs.lemmas.Bool.Decides.{nat_tests}
use Rattle.hex.specs.Hex.{IsBytes}
use Rattle.stm_wire.proofs.Names.{ChipData, Device, erased_byte, IsModel, page_count, page_of, page_size, RigState, with_page}
use Rattle.stm_chip.specs.declared.plan.Frame.{Frame}
use Rattle.stm_chip.specs.declared.plan.PagePlan.{PagePlan}
use Rattle.stm_chip.specs.declared.plan.PagePlan.TheVariants.{Erase}
use Rattle.stm_chip.specs.Plan.{IsPlan, frames_of}
use Rattle.stm_journal.specs.declared.entry.Entry.{Entry}
use Rattle.stm_journal.specs.declared.entry.Entry.TheVariants.{Erases, Keeps}
use Rattle.stm_journal.proofs.Names.{Loaded, newest_may_keep, StateData}
use Rattle.stm_session.proofs.Names.{Adds, AllSuit, Are, AreReadsIf, change_entries, Deed, Fault, flash_with, has_companion, IsChanged, IsSaved, lines_of_deed, MayDoAll, page_reads, Performs}
use Rattle.stm_session.proofs.Names.{program_entries, reads_if, ReadsIf, rewrite_steps, save_entries, Step, step_of_deed}
use Rattle.stm_session.specs.declared.deed.Deed.TheVariants as deed
use Rattle.stm_session.proofs.ChangeOrders.{changed_some, saved_both, saved_none, saved_one}
use Rattle.stm_session.proofs.Changes.{change_lines, planned as plan_is}
use Rattle.stm_session.proofs.Performing.{performs_are, performs_cut, performs_of, performs_out}
use Rattle.stm_session.proofs.Performing.{performs_past, performs_then}
use Rattle.stm_session.proofs.Savings.{both_lines, is_first, none_lines, one_lines}

second : (a b : Bool) → (a && b) ≡ true → b ≡ true
second true b h = h
second false b h = absurd (true≢false (sym h))

module _ (chip : ChipData) (n : ℕ) (other held : Bor (List ℕ)) where
  abbrev pub firsts : Bool → Bool → List Deed
  firsts true both = []
  firsts false true = deed.Keep 257 other ∷ deed.Keep n held ∷ []
  firsts false false = deed.Keep n held ∷ []

  abbrev here : List Deed → ℕ → List Deed
  here deeds k = take (2 - k) (drop k deeds)

  abbrev count : Bool → Bool → ℕ
  count due kept = if due then 0 else (if kept then 2 else 1)

  firsts_are : (kept both due : Bool) (k : ℕ) → due ≡ (not kept && both) → k ≡ count due kept
      → here (deed.Keep 257 other ∷ deed.Keep n held ∷ []) k ≡ firsts kept both
  firsts_are kept both due k due_is k_is =
      ap (λ (j : ℕ). here (deed.Keep 257 other ∷ deed.Keep n held ∷ []) j)
      (k_is ∙ ap (λ (d : Bool). count d kept) due_is) ∙ by_case kept both
    where
      by_case : (kept both : Bool) → here (deed.Keep 257 other ∷ deed.Keep n held ∷ [])
          (count (not kept && both) kept) ≡ firsts kept both
      by_case true both = refl
      by_case false true = refl
      by_case false false = refl

  apart : (n == 1 && has_companion chip) ≡ false → n ≡ 1 → IsTrue (has_companion chip) → ⊥
  apart is one has =
      true≢false (sym (ap₂ (λ (a b : Bool). a && b) (eq-eqb n 1 one) has) ∙ is)

  firsts_may : (kept both : Bool) (s : StateData) → (n == 1 && has_companion chip) ≡ both
      → n < page_count chip → length held.now ≡ page_size chip n → IsBytes held.now
      → IsBytes other.now → ((not kept && both) ≡ true → length other.now ≡ page_size chip 257)
      → (kept ≡ false → IsTrue (newest_may_keep n s))
      → (kept ≡ false → n ≡ 1 → IsTrue (has_companion chip) → IsTrue (newest_may_keep 257 s))
      → MayDoAll chip (firsts kept both) s
  firsts_may true both s is exists size bytes others long may companion = tt
  firsts_may false true s is exists size bytes others long may companion =
      let one = is_first n (has_companion chip) is in
      let has = second (n == 1) (has_companion chip) is in
      let there : 257 < page_count chip = grind (arith, nat_tests, has) in (
        (there, long refl, others, companion refl one has, λ e. absurd (omega (arith, e))),
        λ s2 saved. (
          (
            exists,
            size,
            bytes,
            saved.free n (λ e. omega (arith, e, one)) ∙ may refl,
            λ e h. saved.keeps,
          ),
          λ s3 last. tt,
        ),
      )
  firsts_may false false s is exists size bytes others long may companion = (
    (exists, size, bytes, may refl, λ one has. absurd (apart is one has)),
    λ s2 saved. tt,
  )

  firsts_steps : (kept both : Bool) → (n == 1 && has_companion chip) ≡ both
      → ((not kept && both) ≡ true → length other.now ≡ page_size chip 257)
      → IsSaved kept chip n held.now (reads_if (not kept && both) chip 257 other.now
      ++ map (step_of_deed chip) (firsts kept both))
  firsts_steps true both is long = saved_none true chip n held.now refl
  firsts_steps false true is long =
      let reads = page_reads chip 257 other.now in
      let own : Step = Adds (Keeps 257 other.now ∷ []) in
      let last : ℕ → List Step = λ m. Adds (Keeps m held.now ∷ []) ∷ [] in
      saved_both false chip n held.now _ refl is
      (record {
        first = reads ++ own ∷ [];
        is_first = record { other = other.now; size = long refl; is = refl };
        is = ap (λ (m : ℕ). reads ++ own ∷ last m) (is_first n (has_companion chip) is)
            ∙ sym (append_assoc reads (own ∷ []) (last 1));
      })
  firsts_steps false false is long = saved_one false chip n held.now _ refl is refl

  firsts_lines : (kept both : Bool) (flash : List ℕ) → (n == 1 && has_companion chip) ≡ both
      → held.now ≡ page_of chip flash n
      → ((not kept && both) ≡ true → other.now ≡ page_of chip flash 257)
      → flat_map lines_of_deed (firsts kept both) ≡ save_entries kept chip flash n
  firsts_lines true both flash is read reads = none_lines true chip flash n refl
  firsts_lines false true flash is read reads =
      let one = is_first n (has_companion chip) is in
      ap₂ (λ (x : List ℕ) (m : ℕ). let e : Entry = Keeps 257 x in e ∷ Keeps m held.now ∷ [])
      (reads refl) one
      ∙ both_lines false chip flash n held.now refl is
      (read ∙ ap (λ (m : ℕ). page_of chip flash m) one)
  firsts_lines false false flash is read reads = one_lines false chip flash n held.now refl is read

  firsts_suit : (kept both : Bool) (flash : List ℕ) → held.now ≡ page_of chip flash n
      → ((not kept && both) ≡ true → other.now ≡ page_of chip flash 257)
      → AllSuit chip flash (firsts kept both)
      × (fold (flash_with chip) flash (firsts kept both) ≡ flash)
  firsts_suit true both flash read reads = (tt, refl)
  firsts_suit false true flash read reads = ((reads refl, (read, tt)), refl)
  firsts_suit false false flash read reads = ((read, tt), refl)

  module _ (kept : Bool) (due : Bool) (k : ℕ) (due_is : due ≡ (not kept && (n == 1 && has_companion chip)))
      (k_is : k ≡ count due kept) where
    abbrev first : List Deed
    first = here (deed.Keep 257 other ∷ deed.Keep n held ∷ []) k

    are : first ≡ firsts kept (n == 1 && has_companion chip)
    are = firsts_are kept (n == 1 && has_companion chip) due k due_is k_is

    pub first_may : (s : StateData) → n < page_count chip → length held.now ≡ page_size chip n
        → IsBytes held.now → IsBytes other.now
        → (due ≡ true → length other.now ≡ page_size chip 257)
        → (kept ≡ false → IsTrue (newest_may_keep n s))
        → (kept ≡ false → n ≡ 1 → IsTrue (has_companion chip) → IsTrue (newest_may_keep 257 s))
        → MayDoAll chip first s
    first_may s exists size bytes others long may companion =
        let P : List Deed → Type 0 = λ ds. MayDoAll chip ds s in
        subst P (sym are)
        (firsts_may kept (n == 1 && has_companion chip) s refl exists size bytes others
        (λ t. long (due_is ∙ t)) may companion)

    -- the page is read, kept, and rewritten
    change_performs : {U : Type 0} {page : List ℕ} {frames : List Frame} {came : Vec ℕ Global}
        {l l2 : Loaded} {a b d : RigState} {r : Result U Fault}
        → ReadsIf due chip 257 l a b (Ok came) → other.now ≡ came.items → length other.now ≡ vec_len came
        → Performs (Are (map (step_of_deed chip) first ++ rewrite_steps chip n page frames))
        (flat_map lines_of_deed first ++ Erases n ∷ program_entries n frames)
        ((b.device.chip ≡ chip) × AllSuit chip b.device.flash first
        × (fold (flash_with chip) b.device.flash first ≡ b.device.flash))
        (λ y. d.device.flash ≡ with_page chip n page b.device.flash) l l2 b d r
        → (b.is_honest → IsModel b) → (held.now ≢ page)
        × (frames ≡ frames_of (erased_byte chip) page (length page / 256))
        → Performs (IsChanged kept chip n held.now page)
        (change_entries kept chip a.device.flash n page)
        ((a.device.chip ≡ chip) × (held.now ≡ page_of chip a.device.flash n))
        (λ y. d.device.flash ≡ with_page chip n page a.device.flash) l l2 a d r
    change_performs {page = page} {frames = frames} {came = came} {a = a} {b = b} {d = d} read same whole own
        model (apart, framed) =
        let both = n == 1 && has_companion chip in
        let tail = rewrite_steps chip n page frames in
        let reads : List Step = reads_if due chip 257 came.items in
        let long : (not kept && both) ≡ true → length other.now ≡ page_size chip 257 =
        λ t. whole ∙ read.size (due_is ∙ t) in
        let saved : IsSaved kept chip n held.now (reads ++ map (step_of_deed chip) first) =
        let S : List ℕ → Bool → List Deed → Type 0 = λ xs t ds.
        IsSaved kept chip n held.now (reads_if t chip 257 xs ++ map (step_of_deed chip) ds) in
        let S1 : List ℕ → Type 0 = λ xs. S xs due first in
        let S2 : Bool → Type 0 = λ t. S other.now t first in
        let S3 : List Deed → Type 0 = λ ds. S other.now (not kept && both) ds in
        subst S1 same (subst S2 (sym due_is) (subst S3 (sym are) (firsts_steps kept both refl long))) in
        performs_then
        (performs_are read.order tt (λ flashes steady may. read.honest flashes steady may)) own model
        (λ ss ts is behind.
        let P : List Step → Type 0 = λ zs. IsChanged kept chip n held.now page zs in
        subst P
        (append_assoc reads (map (step_of_deed chip) first) tail
        ∙ ap₂ (λ (u v : List Step). u ++ v) (sym is) (sym behind))
        (changed_some kept chip n held.now page frames _ apart framed saved))
        (λ h may. may.0)
        (λ h may make done.
        let flash = a.device.flash in
        let flash_is : b.device.flash ≡ flash = ap (λ (x : Device). x.flash) done.0 in
        let told : (not kept && both) ≡ true → other.now ≡ page_of chip flash 257 =
        λ t. same ∙ done.1 (due_is ∙ t) in
        let suit = firsts_suit kept both flash may.1 told in
        let A : List Deed → Type 0 = λ ds. AllSuit chip flash ds × (fold (flash_with chip) flash ds ≡ flash) in
        let B : List ℕ → Type 0 = λ f. AllSuit chip f first × (fold (flash_with chip) f first ≡ f) in
        let suits = subst B (sym flash_is) (subst A (sym are) suit) in
        record {
          may = (ap (λ (x : Device). x.chip) done.0 ∙ may.0, suits.0, suits.1);
          lines = ap (λ (es : List Entry). es ++ Erases n ∷ program_entries n frames)
              (ap (λ (ds : List Deed). flat_map lines_of_deed ds) are
              ∙ firsts_lines kept both flash refl may.1 told)
              ∙ change_lines kept chip flash n held.now page may.1 frames apart framed;
          gives = λ y is. is ∙ ap (λ (f : List ℕ). with_page chip n page f) flash_is;
        })

    -- its exits
    module _ {T : Type 0} (page : List ℕ) (frames : List Frame) {came : Vec ℕ Global} {e : ℕ}
        {l l2 : Loaded} {a b d : RigState} {r : Result T Fault} {plan : PagePlan}
        {planned : Vec Frame Global} (read : ReadsIf due chip 257 l a b (Ok came))
        (same : other.now ≡ came.items) (whole : length other.now ≡ vec_len came)
        (own : Performs (Are (map (step_of_deed chip) first ++ rewrite_steps chip n page frames))
        (flat_map lines_of_deed first ++ Erases n ∷ program_entries n frames)
        ((b.device.chip ≡ chip) × AllSuit chip b.device.flash first
        × (fold (flash_with chip) b.device.flash first ≡ b.device.flash))
        (λ y. d.device.flash ≡ with_page chip n page b.device.flash) l l2 b d r)
        (model : b.is_honest → IsModel b) (is : plan ≡ Erase planned)
        (plans : IsPlan e held.now page plan) (byte : e ≡ erased_byte chip)
        (framed : frames ≡ planned.items) where
      changed : Performs (IsChanged kept chip n held.now page)
          (change_entries kept chip a.device.flash n page)
          ((a.device.chip ≡ chip) × (held.now ≡ page_of chip a.device.flash n))
          (λ y. d.device.flash ≡ with_page chip n page a.device.flash) l l2 a d r
      changed =
          let plan = plan_is chip is plans byte in
          change_performs read same whole own model (plan.0, framed ∙ plan.1)

      pub change_out : {U : Type 0} {F : U → Type 0} {fault : Fault} {result : Result U Fault}
          → r ≡ Err fault → IsErrAnd result (λ x. x ≡ fault)
          → Performs (IsChanged kept chip n held.now page)
          (change_entries kept chip a.device.flash n page)
          ((a.device.chip ≡ chip) × (held.now ≡ page_of chip a.device.flash n)) F l l2 a d result
      change_out was out = performs_out changed was out

      pub change_past : {x : T} → r ≡ Ok x → Performs (IsChanged kept chip n held.now page)
          (change_entries kept chip a.device.flash n page)
          ((a.device.chip ≡ chip) × (held.now ≡ page_of chip a.device.flash n))
          (λ y. d.device.flash ≡ with_page chip n page a.device.flash) l l2 a d (Ok true)
      change_past was = performs_past true changed was (λ p. p)

-- the companion can't be read
pub change_cut : {U : Type 0} {F : U → Type 0} (kept due : Bool) (chip : ChipData) (n : ℕ)
    (held : Bor (List ℕ)) {page : List ℕ} {frames : List Frame} {l l2 : Loaded} {a b : RigState}
    {e : Fault} {result : Result U Fault} → due ≡ (not kept && (n == 1 && has_companion chip))
    → ReadsIf due chip 257 l a b (Err e) → IsErrAnd result (λ x. x ≡ e) → (held.now ≢ page)
    × (frames ≡ frames_of (erased_byte chip) page (length page / 256))
    → Performs (IsChanged kept chip n held.now page) (change_entries kept chip a.device.flash n page)
    ((a.device.chip ≡ chip) × (held.now ≡ page_of chip a.device.flash n)) F l l2 a b result
change_cut {F = F} kept due chip n held {page} {frames} {a = a} due_is read is (apart, framed) =
    performs_cut
    (performs_of {P = AreReadsIf due chip 257} tt read.stops
    (λ flashes steady same. read.honest flashes steady same))
    is
    (λ ss (came, long, these).
    let both = n == 1 && has_companion chip in
    let other : Bor (List ℕ) = record { ref_ptr = held.ref_ptr; now = came } in
    let own = map (step_of_deed chip) (firsts chip n other held kept both) in
    let tail = rewrite_steps chip n page frames in
    let saved = firsts_steps chip n other held kept both refl (λ t. long (due_is ∙ t)) in
    let P : List Step → Type 0 = λ zs. IsChanged kept chip n held.now page zs in
    let reads : Bool → List Step = λ t. reads_if t chip 257 came in (
      own ++ tail,
      subst P
          (append_assoc (reads (not kept && both)) own tail
          ∙ ap (λ (t : Bool). reads t ++ (own ++ tail)) (sym due_is)
          ∙ ap (λ (u : List Step). u ++ (own ++ tail)) (sym these))
          (changed_some kept chip n held.now page frames _ apart framed saved),
    ))
    (λ may. (may.0, (change_entries kept chip a.device.flash n page, refl)))
