-- Kept pages laid over a flash: what stands in their pages before is of no matter, and a page that holds what is kept may join.
use Rattle.std.proofs.Common.{◌≡◌, ◌⊎◌, inl, inr, ⊎_elim, ℕ, ◌<◌, Bool, true, false, not, ◌&&◌, ◌||◌, ◌==◌, List, [], ◌∷◌, ◌++◌, length, fold, refl, sym, ap, ◌∙◌, subst}
use Rattle.std.specs.Prelude.{Contains}
use Rattle.std.specs.List.{list_any}
use Rattle.std.proofs.lemmas.Bool.{cases_eq, eq-eqb, ne_eqb, false≢true, not-true}
use Rattle.std.proofs.lemmas.List.Sums.{fold_push}
use Rattle.stm_wire.proofs.Names.{ChipData, flash_size, page_count, page_of, SameOutside, with_page}
use Rattle.stm_wire.specs.lemmas.PageLaws.{length-with_page, page_put, page_put-other, put_page}
use Rattle.stm_wire.specs.lemmas.FlashLaws.{same_all}
use Rattle.stm_journal.proofs.Names.{AllHeld, AllKeptFit, ChangesKeepFlashes, fits_chip, flashes_before_segments, HeldIsBefore, is_open_stage, keeping, KeepingKeepsFlashes, Kept, may_keep}
use Rattle.stm_journal.proofs.Names.{SegmentData, with_kept_pages}
use Rattle.stm_journal.specs.lemmas.FitsLaws.{fits-exists, fits-size}

-- a kept page, and pages, laid over a flash
abbrev lay : ChipData → List ℕ → Kept → List ℕ
lay chip flash kept = with_page chip kept.page kept.bytes flash

abbrev laid : ChipData → List Kept → List ℕ → List ℕ
laid chip pages flash = fold (λ f k. with_page chip k.page k.bytes f) flash pages

abbrev has : List Kept → ℕ → Bool
has pages n = list_any (λ k. k.page == n) pages

size_laid : (chip : ChipData) (pages : List Kept) (flash : List ℕ) → length flash ≡ flash_size chip → AllKeptFit chip pages → length (laid chip pages flash) ≡ flash_size chip
size_laid chip [] flash size fit = size
size_laid chip (k ∷ pages) flash size fit = size_laid chip pages (lay chip flash k) (length-with_page chip flash k.bytes k.page size (fits-size chip k fit.0)) fit.1

rest-has : (a b : Bool) → a ≡ false → (a || b) ≡ true → b ≡ true
rest-has true b lacks h = absurd (false≢true (sym lacks))
rest-has false b lacks h = h

-- two flashes agree in a page, or a line keeps it: then they agree in it after the lines
agree_laid : (chip : ChipData) (pages : List Kept) (f g : List ℕ) (m : ℕ) → m < page_count chip → length f ≡ flash_size chip → length g ≡ flash_size chip → AllKeptFit chip pages
    → (page_of chip g m ≡ page_of chip f m) ⊎ (has pages m ≡ true) → page_of chip (laid chip pages g) m ≡ page_of chip (laid chip pages f) m
agree_laid chip [] f g m here fs gs fit (inl e) = e
agree_laid chip [] f g m here fs gs fit (inr h) = absurd (false≢true h)
agree_laid chip (k ∷ pages) f g m here fs gs fit either =
    agree_laid chip pages (lay chip f k) (lay chip g k) m here (length-with_page chip f k.bytes k.page fs (fits-size chip k fit.0)) (length-with_page chip g k.bytes k.page gs (fits-size chip k fit.0)) fit.1 (step (cases_eq k.page m))
  where
    step : (k.page ≡ m) ⊎ (k.page ≡ m → ⊥) → (page_of chip (lay chip g k) m ≡ page_of chip (lay chip f k) m) ⊎ (has pages m ≡ true)
    step (inl e) =
        let P : ℕ → Type 0 = λ n. page_of chip (lay chip g k) n ≡ page_of chip (lay chip f k) n in
        inl (subst P e (page_put chip g k.bytes k.page gs (fits-size chip k fit.0) ∙ sym (page_put chip f k.bytes k.page fs (fits-size chip k fit.0))))
    step (inr ne) =
        ⊎_elim
        (λ same. inl (page_put-other chip g k.bytes k.page gs (fits-size chip k fit.0) m here (λ e. ne (sym e)) ∙ same ∙ sym (page_put-other chip f k.bytes k.page fs (fits-size chip k fit.0) m here (λ e. ne (sym e)))))
        (λ kept. inr (rest-has (k.page == m) (has pages m) (ne_eqb k.page m ne) kept))
        either

-- whatever kept pages hold, the flash before the segment is the same
laid_over : (chip : ChipData) (pages : List Kept) (changed f g : List ℕ) → length f ≡ flash_size chip → AllKeptFit chip pages
    → SameOutside chip changed f g → ((m : ℕ) → Contains changed m → has pages m ≡ true) → laid chip pages g ≡ laid chip pages f
laid_over chip pages changed f g size fit out kept =
    same_all chip (laid chip pages f) (laid chip pages g) (size_laid chip pages f size fit)
    (record {
      same_length = size_laid chip pages g (out.same_length ∙ size) fit ∙ sym (size_laid chip pages f size fit);
      elsewhere = λ m here none. agree_laid chip pages f g m here size (out.same_length ∙ size) fit (either m here (has pages m) refl);
    })
  where
    either : (m : ℕ) → m < page_count chip → (b : Bool) → has pages m ≡ b → (page_of chip g m ≡ page_of chip f m) ⊎ (has pages m ≡ true)
    either m here true is = inr is
    either m here false is = inl (out.elsewhere m here (λ c. false≢true (sym is ∙ kept m c)))

-- a page that no line keeps is as it was
page_laid-other : (chip : ChipData) (pages : List Kept) (flash : List ℕ) (m : ℕ) → m < page_count chip → length flash ≡ flash_size chip → AllKeptFit chip pages
    → has pages m ≡ false → page_of chip (laid chip pages flash) m ≡ page_of chip flash m
page_laid-other chip [] flash m here size fit lacks = refl
page_laid-other chip (k ∷ pages) flash m here size fit lacks =
    let both = neither (k.page == m) (has pages m) lacks in
    page_laid-other chip pages (lay chip flash k) m here (length-with_page chip flash k.bytes k.page size (fits-size chip k fit.0)) fit.1 both.1
    ∙ page_put-other chip flash k.bytes k.page size (fits-size chip k fit.0) m here (λ e. false≢true (sym both.0 ∙ eq-eqb k.page m (sym e)))
  where
    neither : (a b : Bool) → (a || b) ≡ false → (a ≡ false) × (b ≡ false)
    neither true b h = absurd (false≢true (sym h))
    neither false b h = (refl, h)

-- a page that holds what a further line keeps
laid_more : (chip : ChipData) (pages : List Kept) (flash : List ℕ) (kept : Kept) → length flash ≡ flash_size chip → AllKeptFit chip pages → fits_chip chip kept ≡ true
    → has pages kept.page ≡ false → kept.bytes ≡ page_of chip flash kept.page → laid chip (pages ++ kept ∷ []) flash ≡ laid chip pages flash
laid_more chip pages flash kept size fit fits lacks holds =
    let before : List ℕ = laid chip pages flash in
    let now : kept.bytes ≡ page_of chip before kept.page = holds ∙ sym (page_laid-other chip pages flash kept.page (fits-exists chip kept fits) size fit lacks) in
    fold_push (λ f k. with_page chip k.page k.bytes f) flash pages kept
    ∙ ap (λ (bytes : List ℕ). with_page chip kept.page bytes before) now
    ∙ put_page chip before kept.page (size_laid chip pages flash size fit)

-- the flashes, seen from the newest segment's pages
same_newest : (chip : ChipData) (a b : SegmentData) (below : List SegmentData) (f g : List ℕ) → with_kept_pages chip a g ≡ with_kept_pages chip b f
    → flashes_before_segments chip (a ∷ below) g ≡ flashes_before_segments chip (b ∷ below) f
same_newest chip a b below f g e = ap (λ (x : List ℕ). x ∷ flashes_before_segments chip below x) e

lacking : (n : ℕ) (segment : SegmentData) → may_keep n segment ≡ true → has segment.pages n ≡ false
lacking n segment may = not-true (has segment.pages n) (last (is_open_stage segment.stage) (not (has segment.pages n)) may)
  where
    last : (a b : Bool) → (a && b) ≡ true → b ≡ true
    last true b h = h
    last false b h = absurd (false≢true h)

pub keeping-keeps : KeepingKeepsFlashes
keeping-keeps chip [] flash kept size fits fit holds may = refl
keeping-keeps chip (segment ∷ below) flash kept size fits fit holds may =
    same_newest chip (keeping kept segment) segment below flash flash (laid_more chip segment.pages flash kept size fits.0 fit (lacking kept.page segment may) holds)

pub changes-keep : ChangesKeepFlashes
changes-keep chip [] changed old new size fits out kept = refl
changes-keep chip (segment ∷ below) changed old new size fits out kept =
    same_newest chip segment segment below old new (laid_over chip segment.pages changed old new size fits.0 out kept)

held-laid : (chip : ChipData) (pages : List Kept) (flash : List ℕ) → length flash ≡ flash_size chip → AllKeptFit chip pages → AllHeld chip pages flash → laid chip pages flash ≡ flash
held-laid chip [] flash size fit held = refl
held-laid chip (k ∷ pages) flash size fit held =
    let same : lay chip flash k ≡ flash = ap (λ (bytes : List ℕ). with_page chip k.page bytes flash) (sym held.0) ∙ put_page chip flash k.page size in
    ap (λ (f : List ℕ). laid chip pages f) same ∙ held-laid chip pages flash size fit.1 held.1

pub held-is-before : HeldIsBefore
held-is-before chip segment flash size fit held = held-laid chip segment.pages flash size fit held
