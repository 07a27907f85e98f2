-- Reading the digits of a page, fetch by fetch and piece by piece.
use Rattle.std.proofs.Common.{◌≡◌, ◌≤◌, ℕ, zero, suc, ◌+◌, ◌*◌, ◌-◌, Bool, true, false, ◌&&◌, nat_le, if◌then◌else◌, List, [], ◌∷◌, ◌++◌, length, take, drop, Option, Some, None, option_map, Result, Ok, Err, refl, sym, ◌∙◌, ap, subst, arith, length-drop}
use Rattle.std.specs.Prelude.{option_and_then, slice_get}
use Rattle.std.specs.List.{list_all}
use Rattle.std.proofs.lemmas.List.{take-append-le, length-take-le, drop-drop, drop-take, take-take}
use Rattle.hex.specs.Hex.{decode_sized}
use Rattle.stm_wire.proofs.Names.{Device, LeavesOnly, LosesOwed, RigState}
use Rattle.stm_wire.specs.lemmas.MomentLaws.{joined}
use Rattle.stm_journal.proofs.Names.{AllPlaced, cut, Fetches, FetchesBytes, FetchesPage, hex_bytes_of, is_upper_digit, IsLoaded, IsPlaced, IsPlaceIn, IsUntouched, JournalFault, Kept, kept_entry}
use Rattle.stm_journal.proofs.Names.{kept_place, Loaded, Looks, LooksInVain, PagePlace, PagesPlaced, place_of, SaysAt, segment_of, SegmentData, StateData}
use Rattle.stm_journal.specs.declared.fault.JournalFault.TheVariants.{File, Bad, OtherDevice, OtherBoard, Memory}
use Rattle.stm_journal.specs.lemmas.ForgetLaws.{kept_place-forgets}
use Rattle.stm_journal.proofs.Piecing.{pieces-say}
use Rattle.stm_journal.proofs.Placing.{pages-are-placed}

-- nothing is changed, call after call
untouched : (a b : RigState) → b.journal ≡ a.journal → b.device ≡ a.device → (d : Device) (j : List ℕ) → IsUntouched b d j → IsUntouched a d j
untouched a b same still d j u =
    let D : Device → Type 0 = λ e. LosesOwed e d in
    (u.0 ∙ same, subst D still u.1)

further : (a b c : RigState) → Looks a b → LeavesOnly (IsUntouched b) b c → LeavesOnly (IsUntouched a) a c
further a b c first second = joined (IsUntouched a) (IsUntouched b) (IsUntouched a) a b c first.moments second (λ d j u. u) (untouched a b first.journal first.device)

pub looks-more : (a b c : RigState) → Looks a b → Looks b c → Looks a c
looks-more a b c first second =
    record { honest = second.honest; journal = second.journal ∙ first.journal; device = second.device ∙ first.device; moments = further a b c first second.moments }

pub looks-vain : (a b c : RigState) → Looks a b → LooksInVain b c → LooksInVain a c
looks-vain a b c first second =
    let D : Device → Type 0 = λ d. LosesOwed d c.device in
    record { honest = second.honest; journal = second.journal ∙ first.journal; lost = subst D first.device second.lost; moments = further a b c first second.moments }

pub fetched-looks : (at n : ℕ) (before after : List ℕ) (b c : RigState) → Fetches at before after b c (Ok n) → Looks b c
fetched-looks at n before after b c got = record { honest = got.honest; journal = got.journal; device = got.same_device; moments = got.moments }

-- a buffer of which a beginning is right, and a part put behind it
take-behind : (xs ys : List ℕ) (n m : ℕ) → m ≡ length xs + n → take m (xs ++ ys) ≡ xs ++ take n ys
take-behind [] ys n m e = let f : m ≡ n = omega (arith, e) in ap (λ (k : ℕ). take k ys) f
take-behind (x ∷ xs) ys n zero e = absurd (omega (arith, e))
take-behind (x ∷ xs) ys n (suc m) e = ap (λ (zs : List ℕ). x ∷ zs) (take-behind xs ys n m (omega (arith, e)))

take-further : (at n : ℕ) (xs : List ℕ) → take at xs ++ take n (drop at xs) ≡ take (at + n) xs
take-further zero n xs = let e : 0 + n ≡ n = omega arith in ap (λ (k : ℕ). take k xs) (sym e)
take-further (suc at) n [] = nothing n ∙ sym (nothing (suc at + n))
  where
    nothing : (k : ℕ) → take k (let xs : List ℕ = [] in xs) ≡ []
    nothing zero = refl
    nothing (suc k) = refl
take-further (suc at) n (x ∷ xs) =
    let e : suc at + n ≡ suc (at + n) = omega arith in
    ap (λ (ys : List ℕ). x ∷ ys) (take-further at n xs) ∙ sym (ap (λ (k : ℕ). take k (x ∷ xs)) e)

pub filled-behind : (done n : ℕ) (buf part post : List ℕ) → done ≤ length buf → n ≤ length part → take (done + n) (take done buf ++ (part ++ post)) ≡ take done buf ++ take n part
filled-behind done n buf part post within fits =
    let size : length (take done buf) ≡ done = length-take-le done buf within in
    take-behind (take done buf) (part ++ post) n (done + n) (omega (arith, size)) ∙ ap (λ (xs : List ℕ). take done buf ++ xs) (take-append-le n part post fits)

pub filled-further : (done n : ℕ) (buf part post src : List ℕ) → done ≤ length buf → n ≤ length part → take done buf ≡ take done src → take n part ≡ take n (drop done src)
    → take (done + n) (take done buf ++ (part ++ post)) ≡ take (done + n) src
filled-further done n buf part post src within fits front back =
    filled-behind done n buf part post within fits
    ∙ ap (λ (xs : List ℕ). take done buf ++ xs) back
    ∙ ap (λ (xs : List ℕ). xs ++ take n (drop done src)) front
    ∙ take-further done n src

-- the digits of a piece
pub says-piece : (journal page : List ℕ) (at len done count place : ℕ) → hex_bytes_of (cut at (2 * len) journal) ≡ Some page → length page ≡ len → at + 2 * len ≤ length journal
    → done + count ≤ len → place ≡ at + 2 * done → SaysAt place (take count (drop done page)) journal
says-piece journal page at len done count place is size room fits here =
    let digits : List ℕ = cut at (2 * len) journal in
    let m : ℕ = 2 * len - 2 * done in
    let rest : List ℕ = drop at journal in
    let whole : 2 * done + m ≡ 2 * len = omega (arith, fits) in
    let back : drop (2 * done) digits ≡ take m (drop place journal) =
    ap (λ (k : ℕ). drop (2 * done) (take k rest)) (sym whole) ∙ drop-take (2 * done) m rest
    ∙ ap (λ (xs : List ℕ). take m xs) (drop-drop (2 * done) at journal ∙ ap (λ (k : ℕ). drop k journal) (sym here))
    in
    let piece : take (2 * count) (drop (2 * done) digits) ≡ cut place (2 * count) journal =
    ap (λ (xs : List ℕ). take (2 * count) xs) back ∙ take-take (2 * count) m (drop place journal) (omega (arith, fits))
    in
    let says = pieces-say digits page done count is (omega (arith, fits, size)) in
    let many : length (take count (drop done page)) ≡ count = length-take-le count (drop done page) (omega (arith, fits, size, length-drop done page)) in
    let bytes : List ℕ = take count (drop done page) in
    let D : List ℕ → Type 0 = λ xs. decode_sized xs count ≡ Ok bytes in
    let U : List ℕ → Type 0 = λ xs. list_all is_upper_digit xs ≡ true in
    let M : ℕ → Type 0 = λ k. decode_sized (cut place (2 * k) journal) k ≡ Ok bytes in
    let N : ℕ → Type 0 = λ k. list_all is_upper_digit (cut place (2 * k) journal) ≡ true in
    record {
      within = omega (arith, here, room, fits, many);
      upper = subst N (sym many) (subst U piece says.0);
      decoded = subst M (sym many) (subst D piece says.1);
    }

-- the place of a kept page
some-entry : (o : Option Kept) (place : PagePlace) → option_map place_of o ≡ Some place → (kept : Kept) × (o ≡ Some kept) × (place_of kept ≡ place)
some-entry None place e = absurd (clash e)
  where
    clash : None ≡ Some place → ⊥
    clash h = cc
some-entry (Some kept) place e = (kept, refl, inner e)
  where
    inner : Some (place_of kept) ≡ Some place → place_of kept ≡ place
    inner h = cc

one-placed : (journal : List ℕ) (pages : List Kept) (i : ℕ) (kept : Kept) → PagesPlaced journal pages → slice_get pages i ≡ Some kept → IsPlaced journal kept
one-placed journal [] i kept all is = absurd (clash is)
  where
    clash : None ≡ Some kept → ⊥
    clash h = cc
one-placed journal (x ∷ pages) zero kept all is = let P : Kept → Type 0 = λ k. IsPlaced journal k in subst P (inner is) all.0
  where
    inner : Some x ≡ Some kept → x ≡ kept
    inner h = cc
one-placed journal (x ∷ pages) (suc i) kept all is = one-placed journal pages i kept all.1 is

segment-placed : (journal : List ℕ) (stack : List SegmentData) (j : ℕ) (segment : SegmentData) → AllPlaced journal stack → slice_get stack j ≡ Some segment → PagesPlaced journal segment.pages
segment-placed journal [] j segment all is = absurd (clash is)
  where
    clash : None ≡ Some segment → ⊥
    clash h = cc
segment-placed journal (x ∷ stack) zero segment all is = let P : SegmentData → Type 0 = λ k. PagesPlaced journal k.pages in subst P (inner is) all.0
  where
    inner : Some x ≡ Some segment → x ≡ segment
    inner h = cc
segment-placed journal (x ∷ stack) (suc j) segment all is = segment-placed journal stack j segment all.1 is

pub entry-placed : (journal : List ℕ) (s : StateData) (k i : ℕ) (kept : Kept) → AllPlaced journal s.stack → kept_entry s k i ≡ Some kept → IsPlaced journal kept
entry-placed journal s k i kept all is = at (segment_of s k) refl is
  where
    within : (b : Bool) (segment : SegmentData) → (if b then slice_get s.stack (length s.stack - k) else None) ≡ Some segment → PagesPlaced journal segment.pages
    within true segment e = segment-placed journal s.stack (length s.stack - k) segment all e
    within false segment e = absurd (clash e)
      where
        clash : None ≡ Some segment → ⊥
        clash h = cc

    at : (o : Option SegmentData) → segment_of s k ≡ o → option_and_then (λ segment. slice_get segment.pages i) o ≡ Some kept → IsPlaced journal kept
    at None e h = absurd (clash h)
      where
        clash : None ≡ Some kept → ⊥
        clash g = cc
    at (Some segment) e h = one-placed journal segment.pages i kept (within (nat_le 1 k && nat_le k (length s.stack)) segment e) h

-- the bytes of a page, fetched
module _ (l : Loaded) (place : PagePlace) (a b : RigState) (tied : IsLoaded l a.journal) (is : IsPlaceIn l.state place) where
  pub the_kept : (kept : Kept) × (place_of kept ≡ place) × IsPlaced a.journal kept
  the_kept =
      let P : StateData → Type 0 = λ s. kept_place s is.0 is.1 ≡ Some place in
      let here : kept_place tied.text is.0 is.1 ≡ Some place = sym (kept_place-forgets tied.text is.0 is.1) ∙ subst P tied.state is.2 in
      let entry = some-entry (kept_entry tied.text is.0 is.1) place here in
      (entry.0, entry.2, entry-placed a.journal tied.text is.0 is.1 entry.0 (pages-are-placed a.journal tied.text tied.means) entry.1)

  pub kept-length : length the_kept.0.bytes ≡ place.length
  kept-length = ap (λ (p : PagePlace). p.length) the_kept.1

  pub kept-within : place.at + 2 * place.length ≤ length a.journal
  kept-within =
      let P : PagePlace → Type 0 = λ p. p.at + 2 * p.length ≤ length a.journal in
      subst P the_kept.1 the_kept.2.0

  said-at : (kept : Kept) → place_of kept ≡ place → IsPlaced a.journal kept → hex_bytes_of (cut place.at (2 * place.length) a.journal) ≡ Some kept.bytes
  said-at kept same placed =
      let P : PagePlace → Type 0 = λ p. hex_bytes_of (cut p.at (2 * p.length) a.journal) ≡ Some kept.bytes in
      subst P same placed.1

  pub kept-said : hex_bytes_of (cut place.at (2 * place.length) a.journal) ≡ Some the_kept.0.bytes
  kept-said = said-at the_kept.0 the_kept.1 the_kept.2

  pub page-fetched : (after : List ℕ) (result : Result (Unit {0}) JournalFault) → FetchesBytes the_kept.0.bytes after a b result → FetchesPage place after a b result
  page-fetched after (Ok x) got =
      record {
        honest = got.0.honest;
        moments = got.0.moments;
        journal = got.0.journal;
        same_device = got.0.device;
        kept_device = tt;
        bytes = λ s k i kept means entry same.
            let placed = entry-placed a.journal s k i kept (pages-are-placed a.journal s means) entry in
            got.1 ∙ one-page (the_kept.0).bytes kept.bytes (sym kept-said ∙ said-at kept same placed);
        fails = tt;
      }
    where
      one-page : (xs ys : List ℕ) → Some xs ≡ Some ys → xs ≡ ys
      one-page xs ys h = cc
  page-fetched after (Err File) got =
      record { honest = got.1.honest; moments = got.1.moments; journal = got.1.journal; same_device = tt; kept_device = got.1.lost; bytes = tt; fails = refl }
  page-fetched after (Err (Bad line)) got = absurd (clash got.0)
    where
      clash : Bad line ≡ File → ⊥
      clash h = cc
  page-fetched after (Err OtherDevice) got = absurd (clash got.0)
    where
      clash : OtherDevice ≡ File → ⊥
      clash h = cc
  page-fetched after (Err OtherBoard) got = absurd (clash got.0)
    where
      clash : OtherBoard ≡ File → ⊥
      clash h = cc
  page-fetched after (Err Memory) got = absurd (clash got.0)
    where
      clash : Memory ≡ File → ⊥
      clash h = cc
