-- Two flashes, page by page: where they agree, and when they are one.
use Rattle.std.proofs.Common.{◌≡◌, ◌⊎◌, ⊎_elim, inl, inr, ℕ, suc, ◌+◌, ◌-◌, ◌<◌, ◌≤◌}
use Rattle.std.proofs.Common.{Bool, true, false, ◌||◌, ◌==◌, if◌then◌else◌, List, [], ◌∷◌}
use Rattle.std.proofs.Common.{◌++◌, length, get_or, take, drop, replicate, sum, refl, sym}
use Rattle.std.proofs.Common.{ap, ap₂, ◌∙◌, subst, arith, drop-drop, take-append-drop}
use Rattle.std.specs.List.{list_any}
use Rattle.std.proofs.lemmas.Bool.{cases_eq, cases_lt, eq-eqb, ne_eqb}
use Rattle.std.proofs.lemmas.List.{length-drop}
use Rattle.stm_wire.specs.Chip.{ChipData, IsErasedAt, erased_byte, erased_page, flash_size}
use Rattle.stm_wire.specs.Chip.{page_count, page_of, page_size, with_bytes, with_page}
use Rattle.stm_wire.specs.Effect.{Effect, Stores, Write, erased_pages}
use Rattle.stm_wire.specs.Harmless.{SameOutside}
use Rattle.stm_wire.specs.lemmas.PageLaws.{length-erased_page, length-page_of, length-with_page}
use Rattle.stm_wire.specs.lemmas.PageLaws.{page_put, page_put-other, sum-cons}

nothing : (xs : List ℕ) → length xs ≡ 0 → xs ≡ []
nothing [] e = refl
nothing (x ∷ xs) e = absurd (omega (arith, e))

-- lists that agree in each part are equal
same_parts : (sizes xs ys : List ℕ) → length xs ≡ sum sizes → length ys ≡ sum sizes
    → ((n : ℕ) → n < length sizes
    → take (get_or sizes n 0) (drop (sum (take n sizes)) ys)
    ≡ take (get_or sizes n 0) (drop (sum (take n sizes)) xs)) → ys ≡ xs
same_parts [] xs ys e f same = nothing ys f ∙ sym (nothing xs e)
same_parts (s ∷ sizes) xs ys e f same =
    let all = sum-cons s sizes in
    let rest : drop s ys ≡ drop s xs =
    same_parts sizes (drop s xs) (drop s ys) (omega (arith, length-drop s xs))
    (omega (arith, length-drop s ys)) (λ n lt.
    let at : sum (take (suc n) (s ∷ sizes)) ≡ sum (take n sizes) + s =
    omega (arith, sum-cons s (take n sizes)) in
    let here : (zs : List ℕ)
    → take (get_or sizes n 0) (drop (sum (take n sizes)) (drop s zs))
    ≡ take (get_or sizes n 0) (drop (sum (take (suc n) (s ∷ sizes))) zs) =
    λ zs. ap (λ r. take (get_or sizes n 0) r) (drop-drop (sum (take n sizes)) s zs)
    ∙ ap (λ k. take (get_or sizes n 0) (drop k zs)) (omega (arith, at)) in
    here ys ∙ same (suc n) (omega (arith, lt)) ∙ sym (here xs)) in
    sym (take-append-drop s ys) ∙ ap₂ (λ a b. a ++ b) (same 0 (omega arith)) rest
    ∙ take-append-drop s xs

-- flashes that agree in each page are one
pub same_pages : (chip : ChipData) (old new : List ℕ) → length old ≡ flash_size chip
    → length new ≡ flash_size chip
    → ((n : ℕ) → n < page_count chip → page_of chip new n ≡ page_of chip old n) → new ≡ old
same_pages chip old new size same_size same = same_parts chip.sizes old new size same_size same

pub same_all : (chip : ChipData) (old new : List ℕ) → length old ≡ flash_size chip
    → SameOutside chip [] old new → new ≡ old
same_all chip old new size s =
    same_pages chip old new size (s.same_length ∙ size)
    (λ n lt. s.elsewhere n lt (λ c. omega (arith, c.1)))

-- The pages below k are those of another flash, the others are as they were.
pub record IsTurned (chip : ChipData) (k : ℕ) (old other now : List ℕ) : Type 0 where
  pub size : length now ≡ flash_size chip
  pub turned : (m : ℕ) → m < k → m < page_count chip → page_of chip now m ≡ page_of chip other m
  pub kept : (m : ℕ) → k ≤ m → m < page_count chip → page_of chip now m ≡ page_of chip old m

pub turned_none : (chip : ChipData) (old other : List ℕ) → length old ≡ flash_size chip
    → IsTurned chip 0 old other old
turned_none chip old other size =
    record {
      size = size;
      turned = λ m lt here. absurd (omega (arith, lt));
      kept = λ m le here. refl;
    }

-- one page more
pub turned_next : (chip : ChipData) (k : ℕ) (old other x y : List ℕ)
    → length other ≡ flash_size chip → k < page_count chip → IsTurned chip k old other x
    → y ≡ with_page chip k (page_of chip other k) x → IsTurned chip (k + 1) old other y
turned_next chip k old other x y size here so_far is =
    let T : List ℕ → Type 0 = λ f. IsTurned chip (k + 1) old other f in
    subst T (sym is)
    (record {
      size = length-with_page chip x (page_of chip other k) k so_far.size whole;
      turned = λ m lt exists. by_case m lt exists (cases_eq m k);
      kept = λ m le exists.
          page_put-other chip x (page_of chip other k) k so_far.size whole m exists
          (λ e. absurd (omega (arith, e, le))) ∙ so_far.kept m (omega (arith, le)) exists;
    })
  where
    whole : length (page_of chip other k) ≡ page_size chip k
    whole = length-page_of chip other k size

    by_case : (m : ℕ) → m < k + 1 → m < page_count chip → (m ≡ k) ⊎ (m ≡ k → ⊥)
        → page_of chip (with_page chip k (page_of chip other k) x) m ≡ page_of chip other m
    by_case m lt exists (inl e) =
        let P : ℕ → Type 0 =
        λ n. page_of chip (with_page chip k (page_of chip other k) x) n ≡ page_of chip other n in
        subst P (sym e) (page_put chip x (page_of chip other k) k so_far.size whole)
    by_case m lt exists (inr ne) =
        let less : m < k =
        ⊎_elim (λ l. l) (λ le. absurd (ne (omega (arith, le, lt)))) (cases_lt m k) in
        page_put-other chip x (page_of chip other k) k so_far.size whole m exists ne
        ∙ so_far.turned m less exists

-- and all of them
pub turned_all : (chip : ChipData) (k : ℕ) (old other now : List ℕ) → length other ≡ flash_size chip
    → page_count chip ≤ k → IsTurned chip k old other now → now ≡ other
turned_all chip k old other now size all turned =
    same_pages chip other now size turned.size
    (λ m here. turned.turned m (omega (arith, here, all)) here)

pub length-erased_pages : (chip : ChipData) (pages flash : List ℕ) → length flash ≡ flash_size chip
    → length (erased_pages chip pages flash) ≡ length flash
length-erased_pages chip [] flash size = refl
length-erased_pages chip (n ∷ pages) flash size =
    let one = length-with_page chip flash (erased_page chip n) n size (length-erased_page chip n) in
    length-erased_pages chip pages (with_page chip n (erased_page chip n) flash) one ∙ one
    ∙ sym size

-- a page of a flash with some pages erased, which exist
pub page_of_erased : (chip : ChipData) (pages flash : List ℕ) (n : ℕ)
    → length flash ≡ flash_size chip → n < page_count chip
    → page_of chip (erased_pages chip pages flash) n
    ≡ (if list_any (λ m. m == n) pages then erased_page chip n else page_of chip flash n)
page_of_erased chip [] flash n size here = refl
page_of_erased chip (m ∷ pages) flash n size here =
    let next = with_page chip m (erased_page chip m) flash in
    page_of_erased chip pages next n
    (length-with_page chip flash (erased_page chip m) m size whole) here
    ∙ step (list_any (λ x. x == n) pages) (cases_eq n m)
  where
    whole : length (erased_page chip m) ≡ page_size chip m
    whole = length-erased_page chip m

    same : (b : Bool) (x y : List ℕ) → x ≡ y → (if b then y else x) ≡ y
    same true x y h = refl
    same false x y h = h

    step : (b : Bool) → (n ≡ m) ⊎ (n ≡ m → ⊥)
        → (if b then erased_page chip n
        else page_of chip (with_page chip m (erased_page chip m) flash) n)
        ≡ (if (m == n) || b then erased_page chip n else page_of chip flash n)
    step b (inl e) =
        let P : ℕ → Type 0 =
        λ k. page_of chip (with_page chip m (erased_page chip m) flash) k ≡ erased_page chip k in
        same b _ _ (subst P (sym e) (page_put chip flash (erased_page chip m) m size whole))
        ∙ ap (λ (t : Bool). if t || b then erased_page chip n else page_of chip flash n)
        (sym (eq-eqb m n (sym e)))
    step b (inr ne) =
        ap (λ (p : List ℕ). if b then erased_page chip n else p)
        (page_put-other chip flash (erased_page chip m) m size whole n here ne)
        ∙ ap (λ (t : Bool). if t || b then erased_page chip n else page_of chip flash n)
        (sym (ne_eqb m n (λ e. ne (sym e))))

-- what a device stores over erased bytes is what was sent
pub stores_erased : (erased : ℕ) (sent new : List ℕ)
    → Stores erased (replicate (length sent) erased) sent new → new ≡ sent
stores_erased erased [] [] s = refl
stores_erased erased (b ∷ sent) (x ∷ new) s =
    ap₂ (λ y (ys : List ℕ). y ∷ ys) (s.1 refl) (stores_erased erased sent new s.2)
stores_erased erased [] (x ∷ new) s = absurd s
stores_erased erased (b ∷ sent) [] s = absurd s

-- so a write to an erased place puts there what was sent
pub writes_erased : (chip : ChipData) (address : ℕ) (sent old new : List ℕ)
    → IsErasedAt chip (address - chip.base) (length sent) old
    → Effect chip (Write address sent) old new → new ≡ with_bytes (address - chip.base) sent old
writes_erased chip address sent old new erased (written, stored, is) =
    let S : List ℕ → Type 0 = λ olds. Stores (erased_byte chip) olds sent written in
    let same : written ≡ sent =
    stores_erased (erased_byte chip) sent written (subst S erased stored) in
    is ∙ ap (λ (bytes : List ℕ). with_bytes (address - chip.base) bytes old) same
