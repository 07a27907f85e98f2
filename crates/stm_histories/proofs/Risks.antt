-- Pages at risk, and what a loss of power makes of them.
use Rattle.std.proofs.Common.{◌≡◌, ℕ, suc, ◌-◌, ◌<◌, ◌==◌, Bool, true, false, ◌&&◌, nat_le, if◌then◌else◌, List, [], ◌∷◌, length, map, Option, Some, None, refl, sym, ◌∙◌, ap, ap₂, subst, arith}
use Rattle.std.specs.Prelude.{Contains, is_some, option_map, option_and_then, slice_get}
use Rattle.std.specs.List.{find}
use Rattle.std.proofs.lemmas.Bool.{eqb-true}
use Rattle.std.proofs.lemmas.Bool.Decides.{nat_tests}
use Rattle.stm_wire.proofs.Names.{Device, reset, SameOutside}
use Rattle.stm_sim.specs.Memory.{MemoryData, begins_anew, rig_state}
use Rattle.stm_journal.specs.declared.header.JournalHeader.{JournalHeader}
use Rattle.stm_journal.specs.declared.kept.Kept.{Kept}
use Rattle.stm_journal.specs.lemmas.ForgetLaws.{is_unfinished-forgets, newest_pages-forgets}
use Rattle.stm_journal.proofs.Names.{forget_state, is_unfinished, IsLoaded, Loaded, newest_pages, page_place, place_of, segment_of, SegmentData, StateData}
use Rattle.stm_session.proofs.Names.{good_state, Leads, LosesPower, lost_power, now_of, risked_pages, state_at}
use Rattle.stm_histories.specs.Unpowered.{SpoilsOnly}

-- a page that is found is one of them
found-page : (pages : List Kept) (n : ℕ)
    → is_some (option_map place_of (find (λ kept. kept.page == n) pages)) ≡ true
    → Contains (map (λ kept. kept.page) pages) n
found-page [] n some = cc
found-page (kept ∷ pages) n some =
    by_page (λ more. found-page pages n more) (kept.page == n) refl some
  where
    by_page : (is_some (option_map place_of (find (λ kept. kept.page == n) pages)) ≡ true
        → Contains (map (λ kept. kept.page) pages) n)
        → (b : Bool) → (kept.page == n) ≡ b
        → is_some (option_map place_of
        (if b then Some kept else find (λ kept. kept.page == n) pages)) ≡ true
        → Contains (kept.page ∷ map (λ kept. kept.page) pages) n
    by_page below true e some = (0, omega arith, eqb-true kept.page n e)
    by_page below false e some =
        let rest = below some in (suc rest.0, omega (arith, rest.1), rest.2)

tests : (n : ℕ) → 0 < n → (nat_le 1 n && nat_le n n) ≡ true
tests n some = grind (arith, nat_tests)

-- the newest segment is that with the greatest number
newest : (header : Option JournalHeader) (segment : SegmentData) (below : List SegmentData)
    → let stack = segment ∷ below in segment_of (record { header = header; stack = stack })
    (length stack) ≡ Some segment
newest header segment below =
    let stack : List SegmentData = segment ∷ below in
    let none : length stack - length stack ≡ 0 = omega arith in
    ap (λ (b : Bool). if b then slice_get stack (length stack - length stack) else None)
    (tests (length stack) (omega arith))
    ∙ ap (λ k. slice_get stack k) none

-- a segment, if any, keeps this page
abbrev is_kept : ℕ → Option SegmentData → Bool
is_kept n o =
    is_some (option_map place_of
    (option_and_then (λ segment. find (λ kept. kept.page == n) segment.pages) o))

pub at-risk : (s : StateData) (n : ℕ) → is_unfinished s ≡ true
    → is_some (page_place s (length s.stack) n) ≡ true → Contains (risked_pages s) n
at-risk s n unfinished kept = by_stack s.header s.stack unfinished kept
  where
    by_stack : (header : Option JournalHeader) (stack : List SegmentData)
        → let s : StateData = record { header = header; stack = stack } in
        is_unfinished s ≡ true → is_some (page_place s (length stack) n) ≡ true
        → Contains (risked_pages s) n
    by_stack header [] unfinished kept = cc
    by_stack header (segment ∷ below) unfinished kept =
        let s : StateData = record { header = header; stack = segment ∷ below } in
        let pages : List ℕ = map (λ kept. kept.page) segment.pages in
        let C : Bool → Type 0 = λ b. Contains (if b then pages else []) n in
        let here = sym (ap (is_kept n) (newest header segment below)) ∙ kept in
        subst C (sym unfinished) (found-page segment.pages n here)

-- what stands in memory tells which pages are at risk
risked-by : (s : StateData) → risked_pages s ≡ (if is_unfinished s then newest_pages s else [])
risked-by s = by_stack s.header s.stack
  where
    by_stack : (header : Option JournalHeader) (stack : List SegmentData)
        → let s : StateData = record { header = header; stack = stack } in
        risked_pages s ≡ (if is_unfinished s then newest_pages s else [])
    by_stack header [] = refl
    by_stack header (segment ∷ below) = refl

risked-forgets : (s : StateData) → risked_pages (forget_state s) ≡ risked_pages s
risked-forgets s =
    risked-by (forget_state s)
    ∙ ap₂ (λ (b : Bool) (pages : List ℕ). if b then pages else []) (is_unfinished-forgets s)
    (newest_pages-forgets s)
    ∙ sym (risked-by s)

pub risked-loaded : (l : Loaded) (journal : List ℕ) → IsLoaded l journal
    → risked_pages l.state ≡ risked_pages (state_at journal)
risked-loaded l journal loaded =
    ap risked_pages loaded.state ∙ risked-forgets loaded.text
    ∙ sym (ap (λ j. risked_pages (good_state j)) loaded.means)

pub same-world : (m n : MemoryData) → m.device ≡ n.device → m.journal ≡ n.journal
    → now_of (rig_state m) ≡ now_of (rig_state n)
same-world m n device journal =
    ap₂ (λ (d : Device) (j : List ℕ). record { device = d; journal = j }) device journal

-- the power is back
pub powerless : (pages : List ℕ) (old mid new : MemoryData) → SpoilsOnly pages old mid
    → pages ≡ risked_pages (state_at old.journal) → (rig_state old).is_honest
    → new ≡ begins_anew (reset mid.device) mid → ((rig_state mid).is_honest → (rig_state new).is_honest)
    → Leads rig_state lost_power (now_of (rig_state old)) (now_of (rig_state new))
powerless pages old mid new was risked honest is stays =
    let d : Device = old.device in
    let risk : List ℕ = risked_pages (state_at old.journal) in
    let P : List ℕ → Type 0 = λ ps. SameOutside d.chip ps d.flash mid.device.flash in
    let F : List ℕ → Type 0 = λ flash. SameOutside d.chip risk d.flash flash in
    let flash_is : new.device.flash ≡ mid.device.flash =
    ap (λ (m : MemoryData). m.device.flash) is in
    let lost : LosesPower old.journal old.device new.device = record {
      device = (stays (was.honest honest)).is_device;
      make = record {
        chip = ap (λ (m : MemoryData). m.device.chip) is ∙ was.make.chip;
        version = ap (λ (m : MemoryData). m.device.version) is ∙ was.make.version;
        codes = ap (λ (m : MemoryData). m.device.codes) is ∙ was.make.codes;
      };
      phase = ap (λ (m : MemoryData). m.device.phase) is;
      owed = ap (λ (m : MemoryData). m.device.owed) is;
      flash = subst F (sym flash_is) (subst P risked was.flash);
    } in
    (lost, ap (λ (m : MemoryData). m.journal) is ∙ was.journal)
