-- Steps whose last question may be answered otherwise: by the board, or by a page that is read again.
use Rattle.std.proofs.Common.{◌≡◌, ℕ, Bool, true, List, [], ◌++◌, length, refl, sym, ◌∙◌, ap, subst, append_assoc}
use Rattle.stm_wire.proofs.Names.{ChipData, page_size}
use Rattle.stm_session.proofs.Names.{AreReadsOf, Begin, closing, confirmed_at, elsewhere, EndsOtherwise, IsLookedAgain, misread, OrMisread, page_address, page_reads, Step, such}

-- such steps are allowed behind others
otherwise_after : (P Q : List Step → Type 0) (due : List Step) (Comes : List Step → Type 0) (first : List Step) → ((ys : List Step) → P ys → Q (first ++ ys)) → (ys : List Step) → EndsOtherwise P due Comes ys → EndsOtherwise Q due Comes (first ++ ys)
otherwise_after P Q due Comes first longer ys o =
    record {
      before = first ++ o.before;
      own = subst Q (sym (append_assoc first o.before due)) (longer (o.before ++ due) o.own);
      came = o.came;
      begun = o.begun;
      is = ap (λ (l : List Step). first ++ l) o.is ∙ sym (append_assoc first o.before o.came);
    }

pub may_after : (again : Bool) (chip : ChipData) (P Q : List Step → Type 0) (first : List Step) → ((ys : List Step) → P ys → Q (first ++ ys)) → (ys : List Step) → OrMisread again chip P ys → OrMisread again chip Q (first ++ ys)
may_after again chip P Q first longer ys (such p) = such (longer ys p)
may_after again chip P Q first longer ys (elsewhere o) = elsewhere (otherwise_after P Q _ _ first longer ys o)
may_after again chip P Q first longer ys (misread is n page size o) = misread is n page size (otherwise_after P Q _ _ first longer ys o)

-- and behind none
pub may_as : (again : Bool) (chip : ChipData) (P Q : List Step → Type 0) → ((xs : List Step) → P xs → Q xs) → (xs : List Step) → OrMisread again chip P xs → OrMisread again chip Q xs
may_as again chip P Q weaker = may_after again chip P Q [] weaker

-- the board is asked once more, whatever it answers
pub may_elsewhere : (again : Bool) (chip : ChipData) (P : List Step → Type 0) (before : List Step) → P (before ++ closing chip) → (ys : List Step) → Begin (IsLookedAgain (confirmed_at chip)) ys → OrMisread again chip P (before ++ ys)
may_elsewhere again chip P before own ys begun = elsewhere (record { before = before; own = own; came = ys; begun = begun; is = refl })

-- a page is read again, whatever comes
pub may_misread : (again : Bool) (chip : ChipData) (P : List Step → Type 0) → again ≡ true → (before : List Step) (n : ℕ) (page : List ℕ) → P (before ++ page_reads chip n page) → length page ≡ page_size chip n → (ys : List Step)
    → Begin (AreReadsOf (page_address chip n) (page_size chip n)) ys → OrMisread again chip P (before ++ ys)
may_misread again chip P is before n page own size ys begun = misread is n page size (record { before = before; own = own; came = ys; begun = begun; is = refl })
