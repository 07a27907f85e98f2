-- A journal that is read whole: its bytes, piece by piece, and its pages, one by one.
use Rattle.std.proofs.Common.{◌≡◌, ℕ, ◌+◌, ◌-◌, ◌<◌, ◌≤◌, ◌^◌, List, [], ◌++◌, length, take, drop, Option, Some, None, option_map, Ok, Err, Result, refl, sym, ◌∙◌, ap, arith, inl, inr, take_all, length-drop}
use Rattle.std.specs.Prelude.{IfOk}
use Rattle.std.specs.List.{flat_map, range_with_len}
use Rattle.std.specs.Option.{option_map_or}
use Rattle.std.proofs.Math.Seq.{take-add}
use Rattle.std.proofs.lemmas.Bool.{cases_lt}
use Rattle.std.proofs.lemmas.List.{flat_map_more, length-take-le}
use Rattle.stm_wire.proofs.Names.{IsModel, RigState, StaysHonest}
use Rattle.stm_journal.specs.declared.fault.JournalFault.{JournalFault}
use Rattle.stm_journal.specs.declared.kept.Kept.{Kept}
use Rattle.stm_journal.specs.declared.kept.PagePlace.{PagePlace}
use Rattle.stm_journal.proofs.Names.{forget_state, good, journal_of, kept_at, kept_count, kept_entry, kept_place, Loaded, Loads, place_of, StateData}
use Rattle.stm_journal.specs.lemmas.ForgetLaws.{kept_at-forgets, kept_count-forgets, kept_place-forgets}
use Rattle.stm_files.specs.Checking.{IsCounted, IsTied, ReadsJournal, TellsState, check_text, kept_page_line, page_line, page_text}
use Rattle.stm_files.specs.PageSum.{page_sum}
use Rattle.stm_files.specs.Tally.{IsTallyOf}
use Rattle.stm_files.specs.declared.tally.Tally.{Tally}
use Rattle.stm_files.proofs.LoggedPages.{range-more}

-- what was fetched is what follows
pub fits : (at n : ℕ) (after journal : List ℕ) → n ≤ length after → take n after ≡ take n (drop at journal) → n ≤ length (drop at journal)
fits at n after journal within same = elim (cases_lt (length (drop at journal)) n) [
  | inl less ↦
      let all : take n (drop at journal) ≡ drop at journal = take_all n (drop at journal) (omega (arith, less)) in
      let e : length (take n after) ≡ length (drop at journal) = ap (λ (xs : List ℕ). length xs) (same ∙ all) in
      omega (arith, e, less, length-take-le n after within)
  | inr more ↦ omega (arith, more)
]

-- bytes more
pub counted-more : (at n : ℕ) (before after : List ℕ) (t u : Tally) (a b d : RigState) → IsModel a → IsCounted at t a b → ReadsJournal at before after n b d
    → n ≤ length after → ((bytes : List ℕ) → IsTallyOf bytes t → length bytes + length (take n after) < 2 ^ 63 → IsTallyOf (bytes ++ take n after) u)
    → IsCounted (at + n) u a d
counted-more at n before after t u a b d model has got within step =
    let j : List ℕ = a.journal in
    let same : b.journal ≡ j = has.stays.journal in
    let bytes : take n after ≡ take n (drop at j) = got.bytes ∙ ap (λ (xs : List ℕ). take n (drop at xs)) same in
    let room : at + n ≤ length j = omega (arith, fits at n after j within bytes, length-drop at j, has.within) in
    let joined : take at j ++ take n after ≡ take (at + n) j = ap (λ (xs : List ℕ). take at j ++ xs) bytes ∙ sym (take-add at n j) in
    let short : length (take at j) + length (take n after) < 2 ^ 63 = omega (arith, length-take-le at j has.within, length-take-le n after within, room, model.journal) in
    record {
      stays = record { honest = got.stays.honest; journal = got.stays.journal ∙ same };
      within = room;
      tally = rw joined at (step (take at j) has.tally short);
    }

-- behind the last byte
pub counted-all : (at : ℕ) (before after : List ℕ) (t : Tally) (a b d : RigState) → IsCounted at t a b → ReadsJournal at before after 0 b d
    → 0 < length before → StaysHonest a d × IsTallyOf a.journal t
counted-all at before after t a b d has got some =
    let j : List ℕ = a.journal in
    let same : length b.journal ≡ length j = ap (λ (xs : List ℕ). length xs) has.stays.journal in
    let past : length j ≤ at = elim (cases_lt at (length j)) [
      | inl less ↦ let none : length before ≡ 0 = got.more refl (omega (arith, less, same)) in absurd (omega (arith, none, some))
      | inr more ↦ omega (arith, more)
    ] in (
      record { honest = got.stays.honest; journal = got.stays.journal ∙ has.stays.journal },
      rw (take_all at j past) at has.tally,
    )

-- the line of a page that is kept
pub page-line-is : (s m : StateData) (k i page line : ℕ) (place : PagePlace) (sum : ℕ) → m ≡ forget_state s → Some (page, line) ≡ kept_at m k i
    → Some place ≡ kept_place m k i → ((k i : ℕ) (kept : Kept) → kept_entry s k i ≡ Some kept → place_of kept ≡ place → sum ≡ page_sum kept.bytes)
    → page_line page place.line place.length sum ≡ page_text s k i
page-line-is s m k i page line place sum state told stands sums =
    at (kept_entry s k i)
    (told ∙ ap (λ (x : StateData). kept_at x k i) state ∙ kept_at-forgets s k i)
    (stands ∙ ap (λ (x : StateData). kept_place x k i) state ∙ kept_place-forgets s k i)
    (λ kept is. sums k i kept is)
  where
    at : (o : Option Kept) → Some (page, line) ≡ option_map {U = ℕ × ℕ} (λ kept. (kept.page, kept.line)) o → Some place ≡ option_map place_of o
        → ((kept : Kept) → o ≡ Some kept → place_of kept ≡ place → sum ≡ page_sum kept.bytes)
        → page_line page place.line place.length sum ≡ option_map_or kept_page_line o []
    at None e f g = absurd (cc)
    at (Some kept) e f g =
        let both : (page, line) ≡ (kept.page, kept.line) = cc in
        let here : place ≡ place_of kept = cc in
        ap (λ (n : ℕ). page_line n place.line place.length sum) (ap (λ (t : ℕ × ℕ). t.0) both)
        ∙ ap (λ (p : PagePlace). page_line kept.page p.line p.length sum) here
        ∙ ap (λ (n : ℕ). page_line kept.page kept.line (length kept.bytes) n) (g kept refl (sym here))

-- one text more
pub text-more : (f : ℕ → List ℕ) (head : List ℕ) (from n m : ℕ) → m ≡ from + n
    → (head ++ flat_map f (range_with_len from n)) ++ f m ≡ head ++ flat_map f (range_with_len from (n + 1))
text-more f head from n m is =
    ap (λ (x : ℕ). (head ++ flat_map f (range_with_len from n)) ++ f x) is
    ∙ flat_map_more f head (range_with_len from n) (from + n) ∙ ap (λ (ns : List ℕ). head ++ flat_map f ns) (sym (range-more from n))

-- as many pages as are kept
pub count-is : (s m : StateData) (k : ℕ) → m ≡ forget_state s → kept_count m k ≡ kept_count s k
count-is s m k state = ap (λ (x : StateData). kept_count x k) state ∙ kept_count-forgets s k

-- what was loaded is tied to the bytes
pub tied-first : (bytes : List ℕ) (l : Loaded) (a b : RigState) → a.journal ≡ bytes → Loads a b (Ok l) → (s : StateData) × IsTied bytes s l b
tied-first bytes l a b same got =
    let loaded = rw same at got.loaded in (
      loaded.text,
      record { honest = got.honest; journal = got.journal ∙ same; means = loaded.means; loaded = loaded; state = loaded.state },
    )

-- what was told is told of these bytes
pub tells : {T : Type 0} (bytes : List ℕ) (s : StateData) (r : Result T JournalFault) (items : T → List ℕ) → journal_of bytes ≡ good s
    → IfOk r (λ t. items t ≡ check_text bytes s) → IfOk r (λ t. TellsState bytes (items t))
tells bytes s (Ok t) items means is = record { state = s; means = means; told = is }
tells bytes s (Err e) items means is = tt
