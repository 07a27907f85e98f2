-- Items put over others, and what stays so of what is known of them.
use Rattle.std.proofs.Common.{◌≡◌, ℕ, zero, suc, ◌+◌, ◌<◌, Bool, true, false, ◌==◌, if◌then◌else◌}
use Rattle.std.proofs.Common.{List, [], ◌∷◌, ◌++◌, length, take, drop, replicate, get_or, Option}
use Rattle.std.proofs.Common.{Some, None, refl, sym, ◌∙◌, ap, arith, append-nil, eqb-true}
use Rattle.std.proofs.Math.ListN.{set}
use Rattle.stm_wire.proofs.Names.{ChipData, erased_byte, erased_pages, page_offset, page_size, Stores}
use Rattle.stm_watch.specs.Known.{with_items, stored, stored_all, erased_known}
use Rattle.stm_watch.specs.Seen.{MayHold, Agrees}

abbrev pub put_front : {A : Type 0} → List A → List A → List A
put_front [] xs = xs
put_front (p ∷ ps) [] = p ∷ ps
put_front (p ∷ ps) (x ∷ xs) = p ∷ put_front ps xs

-- the same as with_items, step by step
abbrev pub put_over : {A : Type 0} → ℕ → List A → List A → List A
put_over zero ps xs = put_front ps xs
put_over (suc n) ps [] = ps
put_over (suc n) ps (x ∷ xs) = x ∷ put_over n ps xs

drop-none : {A : Type 0} (n : ℕ) → drop {A = A} n [] ≡ []
drop-none zero = refl
drop-none (suc n) = refl

front : {A : Type 0} (ps xs : List A) → ps ++ drop (length ps) xs ≡ put_front ps xs
front [] xs = refl
front (p ∷ ps) [] = append-nil (p ∷ ps)
front (p ∷ ps) (x ∷ xs) = ap (λ ys. p ∷ ys) (front ps xs)

pub with_items-is : {A : Type 0} (at : ℕ) (ps xs : List A) → with_items at ps xs ≡ put_over at ps xs
with_items-is zero ps xs =
    ap (λ k. ps ++ drop k xs) (omega arith) ∙ front ps xs
with_items-is (suc n) ps [] = ap (λ ys. ps ++ ys) (drop-none (suc n + length ps)) ∙ append-nil ps
with_items-is (suc n) ps (x ∷ xs) =
    let next : suc n + length ps ≡ suc (n + length ps) = omega arith in
    ap (λ k. (take (suc n) (x ∷ xs) ++ ps) ++ drop k (x ∷ xs)) next
    ∙ ap (λ ys. x ∷ ys) (with_items-is n ps xs)

pub agrees-length : (ks : List (Option ℕ)) (bs : List ℕ) → Agrees ks bs → length ks ≡ length bs
agrees-length [] [] a = refl
agrees-length (k ∷ ks) (b ∷ bs) a = ap suc (agrees-length ks bs a.1)
agrees-length ks bs a = absurd a

agrees-front : (ps ks : List (Option ℕ)) (ns bs : List ℕ) → Agrees ps ns → Agrees ks bs
    → Agrees (put_front ps ks) (put_front ns bs)
agrees-front [] ks [] bs p a = a
agrees-front (p ∷ ps) [] (n ∷ ns) [] h a = h
agrees-front (p ∷ ps) (k ∷ ks) (n ∷ ns) (b ∷ bs) h a = (h.0, agrees-front ps ks ns bs h.1 a.1)
agrees-front ps ks ns bs p a = absurd assumption

agrees-over : (at : ℕ) (ps ks : List (Option ℕ)) (ns bs : List ℕ) → Agrees ps ns → Agrees ks bs
    → Agrees (put_over at ps ks) (put_over at ns bs)
agrees-over zero ps ks ns bs p a = agrees-front ps ks ns bs p a
agrees-over (suc n) ps [] ns [] p a = p
agrees-over (suc n) ps (k ∷ ks) ns (b ∷ bs) p a = (a.0, agrees-over n ps ks ns bs p a.1)
agrees-over n ps ks ns bs p a = absurd a

pub agrees-put : (at : ℕ) (ps ks : List (Option ℕ)) (ns bs : List ℕ) → Agrees ps ns → Agrees ks bs
    → Agrees (with_items at ps ks) (with_items at ns bs)
agrees-put at ps ks ns bs p a =
    rw (with_items-is at ps ks) (rw (with_items-is at ns bs) (agrees-over at ps ks ns bs p a))

pub agrees-replicate : (n e : ℕ) → Agrees (replicate n (Some e)) (replicate n e)
agrees-replicate zero e = tt
agrees-replicate (suc n) e = (refl, agrees-replicate n e)

pub agrees-erased : (chip : ChipData) (pages : List ℕ) (ks : List (Option ℕ)) (bs : List ℕ)
    → Agrees ks bs → Agrees (erased_known chip pages ks) (erased_pages chip pages bs)
agrees-erased chip [] ks bs a = a
agrees-erased chip (n ∷ pages) ks bs a =
    let size = page_size chip n in
    agrees-erased chip pages
    (with_items (page_offset chip n) (replicate size (Some (erased_byte chip))) ks)
    (with_items (page_offset chip n) (replicate size (erased_byte chip)) bs)
    (agrees-put (page_offset chip n) (replicate size (Some (erased_byte chip))) ks
    (replicate size (erased_byte chip)) bs (agrees-replicate size (erased_byte chip)) a)

pub agrees-take : (n : ℕ) (ks : List (Option ℕ)) (bs : List ℕ) → Agrees ks bs
    → Agrees (take n ks) (take n bs)
agrees-take zero ks bs a = tt
agrees-take (suc n) [] [] a = tt
agrees-take (suc n) (k ∷ ks) (b ∷ bs) a = (a.0, agrees-take n ks bs a.1)
agrees-take n ks bs a = absurd a

pub agrees-drop : (n : ℕ) (ks : List (Option ℕ)) (bs : List ℕ) → Agrees ks bs
    → Agrees (drop n ks) (drop n bs)
agrees-drop zero ks bs a = a
agrees-drop (suc n) [] [] a = tt
agrees-drop (suc n) (k ∷ ks) (b ∷ bs) a = agrees-drop n ks bs a.1
agrees-drop n ks bs a = absurd a

holds-if : (t : Bool) (sent new : ℕ) → (t ≡ true → new ≡ sent)
    → MayHold (if t then Some sent else None) new
holds-if true sent new same = sym (same refl)
holds-if false sent new same = tt

holds-stored : (e : ℕ) (k : Option ℕ) (o s n : ℕ) → MayHold k o → (o ≡ e → n ≡ s)
    → MayHold (stored e k s) n
holds-stored e None o s n h same = tt
holds-stored e (Some v) o s n h same =
    holds-if (v == e) s n (λ t. same (sym h ∙ eqb-true v e t))

pub agrees-stored : (e : ℕ) (ks : List (Option ℕ)) (olds sents news : List ℕ) → Agrees ks olds
    → Stores e olds sents news → Agrees (stored_all e ks sents) news
agrees-stored e [] [] [] [] a s = tt
agrees-stored e (k ∷ ks) (o ∷ os) (x ∷ xs) (n ∷ ns) a s =
    (holds-stored e k o x n a.0 s.1, agrees-stored e ks os xs ns a.1 s.2)
agrees-stored e ks os xs ns a s = absurd assumption

pub agrees-at : (ks : List (Option ℕ)) (bs : List ℕ) (at : ℕ) → Agrees ks bs → at < length bs
    → MayHold (get_or ks at None) (get_or bs at 0)
agrees-at [] [] at a h = absurd (omega (arith, h))
agrees-at (k ∷ ks) (b ∷ bs) zero a h = a.0
agrees-at (k ∷ ks) (b ∷ bs) (suc at) a h = agrees-at ks bs at a.1 (omega (arith, h))
agrees-at ks bs at a h = absurd a

pub agrees-set : (ks : List (Option ℕ)) (bs : List ℕ) (at byte : ℕ) → Agrees ks bs
    → byte ≡ get_or bs at byte → Agrees (set ks at (Some byte)) bs
agrees-set [] bs at byte a h = a
agrees-set (k ∷ ks) [] at byte a h = absurd a
agrees-set (k ∷ ks) (b ∷ bs) zero byte a h = (h, a.1)
agrees-set (k ∷ ks) (b ∷ bs) (suc at) byte a h = (a.0, agrees-set ks bs at byte a.1 h)
