-- What stands behind a page, and whether it says the page's CRC.
use Rattle.std.proofs.Common.{◌≡◌, ℕ, ◌+◌, ◌-◌, ◌*◌, ◌<◌, ◌≤◌, ◌^◌, Bool, true, false, true≢false, Option, Some, None, option_map, List, [], ◌++◌, length, take, drop, refl, sym, ◌∙◌, ap, subst, arith, inl, inr, take_all, length-drop, drop_of_length-le}
use Rattle.std.specs.Prelude.{bytes_eq, is_some, option_and_then, slice_get}
use Rattle.std.specs.Option.{option_map_or}
use Rattle.std.proofs.lemmas.Slice.Eq.{bytes_eq-Decides}
use Rattle.std.proofs.lemmas.Option.{slice_get_within}
use Rattle.std.proofs.Math.Seq.{take-add}
use Rattle.std.proofs.lemmas.List.{drop-drop}
use Rattle.std.proofs.lemmas.Bool.{cases_lt}
use Rattle.stm_wire.proofs.Names.{IsModel, RigState, StaysHonest}
use Rattle.stm_journal.specs.declared.kept.Kept.{Kept}
use Rattle.stm_journal.specs.declared.kept.PagePlace.{PagePlace}
use Rattle.stm_journal.proofs.Names.{depth, forget_state, kept_at, kept_count, kept_entry, kept_place, Loaded, place_of, segment_of, SegmentData, StateData}
use Rattle.stm_journal.specs.lemmas.ForgetLaws.{kept_at-forgets, kept_place-forgets}
use Rattle.stm_files.specs.Checking.{IsTied, ReadsJournal}
use Rattle.stm_files.specs.Damage.{HasItsSum, Differs, FindsIn, TellsWhether, behind_page, is_sum}
use Rattle.stm_files.specs.declared.damage.Damage.{Damage}
use Rattle.stm_files.specs.PageSeal.{sum_line}
use Rattle.stm_files.specs.PageSum.{page_sum}
use Rattle.stm_files.proofs.Checks.{fits}

-- so many bytes from a place on were read
pub record IsRead (at i : ℕ) (line : List ℕ) (old new : RigState) : Type 0 where
  pub stays : StaysHonest old new
  pub items : line ≡ take i (drop at old.journal)
  pub within : i ≤ length (drop at old.journal)

-- a byte more
pub read-one : (at i to n : ℕ) (before after line line2 : List ℕ) (a b d : RigState) → IsRead at i line a b → to ≡ at + i
    → ReadsJournal to before after n b d → length after ≡ 1 → n ≡ 1 → line2 ≡ line ++ after → IsRead at (i + 1) line2 a d
read-one at i to n before after line line2 a b d has exact got one is-one added =
    let j : List ℕ = a.journal in
    let rest : List ℕ = drop at j in
    let same : b.journal ≡ j = has.stays.journal in
    let place : drop to b.journal ≡ drop i rest = ap (λ (xs : List ℕ). drop to xs) same ∙ ap (λ (k : ℕ). drop k j) exact ∙ sym (drop-drop i at j) in
    let some : n ≤ length (drop to b.journal) = fits to n after b.journal (omega (arith, one, is-one)) got.bytes in
    let long : length (drop to b.journal) ≡ length (drop i rest) = ap (λ (xs : List ℕ). length xs) place in
    let byte : after ≡ take 1 (drop i rest) =
    sym (take_all 1 after (omega (arith, one))) ∙ ap (λ (k : ℕ). take k after) (sym is-one) ∙ got.bytes
    ∙ ap (λ (k : ℕ). take k (drop to b.journal)) is-one ∙ ap (λ (xs : List ℕ). take 1 xs) place in
    record {
      stays = record { honest = got.stays.honest; journal = got.stays.journal ∙ same };
      items = added ∙ ap (λ (xs : List ℕ). xs ++ after) has.items ∙ ap (λ (xs : List ℕ). take i rest ++ xs) byte ∙ sym (take-add i 1 rest);
      within = omega (arith, some, long, is-one, length-drop i rest);
    }

-- behind the last byte
pub read-all : (at i to : ℕ) (before after line : List ℕ) (a b d : RigState) → IsRead at i line a b → i ≤ 14 → to ≡ at + i
    → ReadsJournal to before after 0 b d → length before ≡ 1 → StaysHonest a d × (line ≡ take 14 (drop at a.journal))
read-all at i to before after line a b d has few exact got one =
    let j : List ℕ = a.journal in
    let rest : List ℕ = drop at j in
    let same : length b.journal ≡ length j = ap (λ (xs : List ℕ). length xs) has.stays.journal in
    let past : length j ≤ to = elim (cases_lt to (length j)) [
      | inl less ↦ let none : length before ≡ 0 = got.more refl (omega (arith, less, same)) in absurd (omega (arith, none, one))
      | inr more ↦ omega (arith, more)
    ] in
    let short : length rest ≤ i = omega (arith, past, exact, length-drop at j) in (
      record { honest = got.stays.honest; journal = got.stays.journal ∙ has.stays.journal },
      has.items ∙ take_all i rest short ∙ sym (take_all 14 rest (omega (arith, short, few))),
    )

-- where the Rig is the one that was read
pub tied-still : (bytes : List ℕ) (s : StateData) (l : Loaded) (a b : RigState) → IsTied bytes s l a → StaysHonest a b → IsTied bytes s l b
tied-still bytes s l a b tied stays =
    record { honest = stays.honest; journal = stays.journal ∙ tied.journal; means = tied.means; loaded = tied.loaded; state = tied.state }

-- a place that stays at its top is past the end as well
pub drop-capped : (to at : ℕ) (xs : List ℕ) → (at < length xs → to ≡ at) → (length xs ≤ at → length xs ≤ to) → drop to xs ≡ drop at xs
drop-capped to at xs inside past = elim (cases_lt at (length xs)) [
  | inl less ↦ ap (λ (k : ℕ). drop k xs) (inside less)
  | inr more ↦ drop_of_length-le xs (past more) ∙ sym (drop_of_length-le xs more)
]

-- what was read stands behind the page
pub line-is : (bytes journal line : List ℕ) (place : PagePlace) (to : ℕ) → journal ≡ bytes → line ≡ take 14 (drop to journal)
    → drop to bytes ≡ drop (place.at + 2 * place.length + 1) bytes → line ≡ behind_page bytes place
line-is bytes journal line place to same is there =
    is ∙ ap (λ (xs : List ℕ). take 14 (drop to xs)) same ∙ ap (λ (xs : List ℕ). take 14 xs) there

-- where it says no CRC
pub says-none : (bytes line : List ℕ) (place : PagePlace) (kept : Kept) → line ≡ behind_page bytes place → place_of kept ≡ place → is_sum line ≡ false
    → HasItsSum bytes kept
says-none bytes line place kept is here none = λ some.
    absurd (true≢false (sym some ∙ ap (λ (p : PagePlace). is_sum (behind_page bytes p)) here ∙ ap is_sum (sym is) ∙ none))

-- and where it says one
pub says-one : (bytes line right : List ℕ) (place : PagePlace) (kept : Kept) (sum : ℕ) (same : Bool) → line ≡ behind_page bytes place → place_of kept ≡ place
    → is_sum line ≡ true → right ≡ sum_line sum → sum ≡ page_sum kept.bytes → same ≡ bytes_eq line right → TellsWhether bytes kept same
says-one bytes line right place kept sum same is here some line-of sum-is eq = told same eq
  where
    there : behind_page bytes (place_of kept) ≡ line
    there = ap (λ (p : PagePlace). behind_page bytes p) here ∙ sym is

    right-is : right ≡ sum_line (page_sum kept.bytes)
    right-is = line-of ∙ ap sum_line sum-is

    told : (b : Bool) → b ≡ bytes_eq line right → TellsWhether bytes kept b
    told true e = λ _. there ∙ (bytes_eq-Decides line right).0 (sym e) ∙ right-is
    told false e = (
      ap is_sum there ∙ some,
      λ agrees. true≢false (sym ((bytes_eq-Decides line right).1 (sym there ∙ agrees ∙ sym right-is)) ∙ sym e),
    )

-- a page that was told is kept
there-in : (o : Option Kept) (page line : ℕ) (place : PagePlace) → Some (page, line) ≡ option_map {U = ℕ × ℕ} (λ kept. (kept.page, kept.line)) o
    → Some place ≡ option_map place_of o → (kept : Kept) × ((o ≡ Some kept) × ((kept.page ≡ page) × (place_of kept ≡ place)))
there-in None page line place told stands = absurd (cc (told))
there-in (Some kept) page line place told stands =
    let both : (page, line) ≡ (kept.page, kept.line) = cc (told) in
    let here : place ≡ place_of kept = cc (stands) in (kept, (refl, (sym (ap (λ (t : ℕ × ℕ). t.0) both), sym here)))

pub is-there : (s m : StateData) (k i page line : ℕ) (place : PagePlace) → m ≡ forget_state s → Some (page, line) ≡ kept_at m k i → Some place ≡ kept_place m k i
    → (kept : Kept) × ((kept_entry s k i ≡ Some kept) × ((kept.page ≡ page) × (place_of kept ≡ place)))
is-there s m k i page line place state told stands =
    there-in (kept_entry s k i) page line place
    (told ∙ ap (λ (x : StateData). kept_at x k i) state ∙ kept_at-forgets s k i)
    (stands ∙ ap (λ (x : StateData). kept_place x k i) state ∙ kept_place-forgets s k i)

-- a page that doesn't agree is one of its segment
pub damaged : (bytes : List ℕ) (s m : StateData) (k i page line : ℕ) (place : PagePlace) → m ≡ forget_state s → Some (page, line) ≡ kept_at m k i
    → Some place ≡ kept_place m k i → (is_right : Bool) → is_right ≡ false
    → ((k i : ℕ) (kept : Kept) → kept_entry s k i ≡ Some kept → place_of kept ≡ place → TellsWhether bytes kept is_right)
    → (i : ℕ) × ((kept : Kept) × ((kept_entry s k i ≡ Some kept) × ((kept.page ≡ page) × Differs bytes kept)))
damaged bytes s m k i page line place state told stands is_right wrong tells =
    let there = is-there s m k i page line place state told stands in
    let differs : Differs bytes there.0 = subst (λ (b : Bool). TellsWhether bytes there.0 b) wrong (tells k i there.0 there.1.0 there.1.1.1) in
    (i, (there.0, (there.1.0, (there.1.1.0, differs))))

-- one page more that agrees
pub agrees-more : (bytes : List ℕ) (s m : StateData) (k i page line : ℕ) (place : PagePlace) → m ≡ forget_state s → Some (page, line) ≡ kept_at m k i
    → Some place ≡ kept_place m k i → (is_right : Bool) → is_right ≡ true
    → ((k i : ℕ) (kept : Kept) → kept_entry s k i ≡ Some kept → place_of kept ≡ place → TellsWhether bytes kept is_right)
    → ((n : ℕ) (kept : Kept) → n < i → kept_entry s k n ≡ Some kept → HasItsSum bytes kept)
    → (n : ℕ) (kept : Kept) → n < i + 1 → kept_entry s k n ≡ Some kept → HasItsSum bytes kept
agrees-more bytes s m k i page line place state told stands is_right right tells so n kept less entry = elim (cases_lt n i) [
  | inl before ↦ so n kept before entry
  | inr past ↦
      let is : n ≡ i = omega (arith, less, past) in
      let there = is-there s m k i page line place state told stands in
      let same : Some kept ≡ Some there.0 = sym entry ∙ ap (λ (x : ℕ). kept_entry s k x) is ∙ there.1.0 in
      let one : kept ≡ there.0 = cc (same) in
      subst (λ (b : Bool). TellsWhether bytes kept b) right (tells k n kept entry (ap place_of one ∙ there.1.1.1))
]

-- a page that is kept is one of as many as are
pub kept-within : (s : StateData) (k i : ℕ) (kept : Kept) → kept_entry s k i ≡ Some kept → i < kept_count s k
kept-within s k i kept entry = in-segment (segment_of s k) entry
  where
    in-segment : (o : Option SegmentData) → option_and_then (λ segment. slice_get segment.pages i) o ≡ Some kept → i < option_map_or (λ segment. length segment.pages) o 0
    in-segment None is = absurd (cc (is))
    in-segment (Some segment) is = slice_get_within segment.pages i kept is

-- one segment more in which nothing is found
pub none-more : (bytes : List ℕ) (s m : StateData) (newer deep : ℕ) (found : Option Damage) → m ≡ forget_state s → deep ≡ length m.stack → is_some found ≡ false
    → FindsIn bytes s (deep - newer) found → ((n : ℕ) → n < newer → FindsIn bytes s (depth (forget_state s) - n) None)
    → (n : ℕ) → n < newer + 1 → FindsIn bytes s (depth (forget_state s) - n) None
none-more bytes s m newer deep None state deep-is none finds so n less = elim (cases_lt n newer) [
  | inl before ↦ so n before
  | inr past ↦
      let is : newer ≡ n = omega (arith, less, past) in
      let same : deep ≡ depth (forget_state s) = deep-is ∙ ap (λ (x : StateData). length x.stack) state in
      subst (λ (k : ℕ). FindsIn bytes s k None) (ap (λ (k : ℕ). k - newer) same ∙ ap (λ (k : ℕ). depth (forget_state s) - k) is) finds
]
none-more bytes s m newer deep (Some found) state deep-is none finds so n less = absurd (true≢false none)
