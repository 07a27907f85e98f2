-- Of a flash that agrees with what is known after a change: one before it that agreed with what was
-- known then, and of which the change may leave it.
use Rattle.std.proofs.Common.{◌≡◌, inl, inr, ℕ, zero, suc, ◌+◌, ◌-◌, ◌<◌, ◌≤◌, Bool, true, false}
use Rattle.std.proofs.Common.{◌==◌, if◌then◌else◌, All, List, [], ◌∷◌, length, take, drop}
use Rattle.std.proofs.Common.{replicate, Option, Some, None, refl, sym, ◌∙◌, ap, ap₂, arith}
use Rattle.std.proofs.lemmas.Bool.{eq-eqb}
use Rattle.stm_wire.proofs.Names.{Change, ChipData, Effect, EraseAll, erased_byte, erased_pages, ErasePages, flash_size, IsErasedByte, Nothing, page_offset, page_size, Stores, Write}
use Rattle.stm_wire.specs.lemmas.PageLaws.{length-with_page, fits-end}
use Rattle.stm_sim.specs.Simulator.{Fits}
use Rattle.std.proofs.lemmas.List.{length-replicate}
use Rattle.stm_watch.specs.Known.{with_items, stored, stored_all, erased_known, changed_known}
use Rattle.stm_watch.specs.Seen.{MayHold, Agrees}
use Rattle.stm_watch.proofs.Placing.{put_front, put_over, with_items-is, agrees-length, agrees-put}
use Rattle.stm_watch.proofs.Placing.{agrees-replicate}

abbrev pub Bytes : List ℕ → Type 0
Bytes [] = Unit {0}
Bytes (b ∷ bs) = (b < 256) × Bytes bs

pub all-bytes : (bs : List ℕ) → Bytes bs → All (λ b. b < 256) bs
all-bytes [] s k d h = absurd (omega (arith, h))
all-bytes (b ∷ bs) s zero d h = s.0
all-bytes (b ∷ bs) s (suc k) d h = all-bytes bs s.1 k d (omega (arith, h))

abbrev pub IsSmall : Option ℕ → Type 0
IsSmall None = Unit {0}
IsSmall (Some v) = v < 256

abbrev pub Small : List (Option ℕ) → Type 0
Small [] = Unit {0}
Small (k ∷ ks) = IsSmall k × Small ks

-- the known bytes, and else those of a flash
abbrev pub pick : Option ℕ → ℕ → ℕ
pick None b = b
pick (Some v) b = v

abbrev pub filled : List (Option ℕ) → List ℕ → List ℕ
filled (k ∷ ks) (b ∷ bs) = pick k b ∷ filled ks bs
filled ks bs = bs

pick-holds : (k : Option ℕ) (b : ℕ) → MayHold k (pick k b)
pick-holds None b = tt
pick-holds (Some v) b = refl

pick-same : (k : Option ℕ) (b : ℕ) → MayHold k b → pick k b ≡ b
pick-same None b h = refl
pick-same (Some v) b h = h

pick-small : (k : Option ℕ) (b : ℕ) → IsSmall k → b < 256 → pick k b < 256
pick-small None b s h = h
pick-small (Some v) b s h = s

pub agrees-filled : (ks : List (Option ℕ)) (bs : List ℕ) → length ks ≡ length bs
    → Agrees ks (filled ks bs)
agrees-filled [] [] e = tt
agrees-filled (k ∷ ks) (b ∷ bs) e = (pick-holds k b, agrees-filled ks bs (omega (arith, e)))
agrees-filled ks bs e = absurd (omega (arith, e))

pub filled-same : (ks : List (Option ℕ)) (bs : List ℕ) → Agrees ks bs → filled ks bs ≡ bs
filled-same [] [] a = refl
filled-same (k ∷ ks) (b ∷ bs) a =
    ap₂ (λ (x : ℕ) (xs : List ℕ). x ∷ xs) (pick-same k b a.0) (filled-same ks bs a.1)
filled-same ks bs a = absurd a

pub length-filled : (ks : List (Option ℕ)) (bs : List ℕ) → length (filled ks bs) ≡ length bs
length-filled [] bs = refl
length-filled (k ∷ ks) [] = refl
length-filled (k ∷ ks) (b ∷ bs) = ap suc (length-filled ks bs)

pub bytes-filled : (ks : List (Option ℕ)) (bs : List ℕ) → Small ks → Bytes bs → Bytes (filled ks bs)
bytes-filled [] bs s b = b
bytes-filled (k ∷ ks) [] s b = tt
bytes-filled (k ∷ ks) (x ∷ bs) s b = (pick-small k x s.0 b.0, bytes-filled ks bs s.1 b.1)

-- An erase:

back-front : (e m : ℕ) (ks : List (Option ℕ)) (new : List ℕ) → length ks ≡ length new
    → Agrees (put_front (replicate m (Some e)) ks) new
    → new ≡ put_front (replicate m e) (filled ks new)
back-front e zero ks new same a = sym (filled-same ks new a)
back-front e (suc m) [] (b ∷ new) same a = absurd (omega (arith, same))
back-front e (suc m) (k ∷ ks) (b ∷ new) same a =
    ap₂ (λ (x : ℕ) (xs : List ℕ). x ∷ xs) (sym a.0)
    (back-front e m ks new (omega (arith, same)) a.1)
back-front e m ks new same a = absurd a

back-over : (at e m : ℕ) (ks : List (Option ℕ)) (new : List ℕ) → length ks ≡ length new
    → Agrees (put_over at (replicate m (Some e)) ks) new
    → new ≡ put_over at (replicate m e) (filled ks new)
back-over zero e m ks new same a = back-front e m ks new same a
back-over (suc n) e zero [] [] same a = refl
back-over (suc n) e m [] (b ∷ new) same a = absurd (omega (arith, same))
back-over (suc n) e m (k ∷ ks) (b ∷ new) same a =
    ap₂ (λ (x : ℕ) (xs : List ℕ). x ∷ xs) (sym (pick-same k b a.0))
    (back-over n e m ks new (omega (arith, same)) a.1)
back-over n e m ks new same a = absurd a

back-put : (at e m : ℕ) (ks : List (Option ℕ)) (new : List ℕ) → length ks ≡ length new
    → Agrees (with_items at (replicate m (Some e)) ks) new
    → new ≡ with_items at (replicate m e) (filled ks new)
back-put at e m ks new same a =
    back-over at e m ks new same (rw (with_items-is at (replicate m (Some e)) ks) at a)
    ∙ sym (with_items-is at (replicate m e) (filled ks new))

-- what stood there before
pub record Before (chip : ChipData) (change : Change) (ks : List (Option ℕ)) (new : List ℕ) :
    Type 0 where
  pub old : List ℕ
  pub agrees : Agrees ks old
  pub effect : Effect chip change old new
  pub bytes : Bytes old

back-erased : (chip : ChipData) (pages : List ℕ) (ks : List (Option ℕ)) (new : List ℕ)
    → length ks ≡ flash_size chip → length new ≡ flash_size chip → Small ks
    → ((n : ℕ) (xs : List (Option ℕ)) → Small xs
    → Small (with_items (page_offset chip n) (replicate (page_size chip n) (Some (erased_byte
    chip))) xs))
    → Bytes new → Agrees (erased_known chip pages ks) new → Before chip (ErasePages pages) ks new
back-erased chip [] ks new size same small smaller bytes a =
    record { old = new; agrees = a; effect = refl; bytes = bytes }
back-erased chip (n ∷ pages) ks new size same small smaller bytes a =
    let at = page_offset chip n in
    let m = page_size chip n in
    let e = erased_byte chip in
    let first = with_items at (replicate m (Some e)) ks in
    let any : List ℕ = filled ks new in
    let any_agrees : Agrees ks any = agrees-filled ks new (size ∙ sym same) in
    let put : Agrees first (with_items at (replicate m e) any) =
    agrees-put at (replicate m (Some e)) ks (replicate m e) any (agrees-replicate m e) any_agrees in
    let first_size : length first ≡ flash_size chip =
    agrees-length first (with_items at (replicate m e) any) put
    ∙ length-with_page chip any (replicate m e) n (length-filled ks new
    ∙ same) (length-replicate m e) in
    let mid = back-erased chip pages first new first_size same (smaller n ks small) smaller bytes
    a in
    let mid_size : length ks ≡ length mid.old =
    size ∙ sym first_size ∙ agrees-length first mid.old mid.agrees in
    let is : mid.old ≡ with_items at (replicate m e) (filled ks mid.old) =
    back-put at e m ks mid.old mid_size mid.agrees in
    record {
      old = filled ks mid.old;
      agrees = agrees-filled ks mid.old mid_size;
      effect = mid.effect ∙ ap (λ f. erased_pages chip pages f) is;
      bytes = bytes-filled ks mid.old small mid.bytes;
    }

all-erased : (e n : ℕ) (new : List ℕ) → Agrees (replicate n (Some e)) new
    → new ≡ replicate (length new) e
all-erased e zero [] a = refl
all-erased e (suc n) (b ∷ new) a =
    ap₂ (λ (x : ℕ) (xs : List ℕ). x ∷ xs) (sym a.0) (all-erased e n new a.1)
all-erased e n new a = absurd a

-- A write:

pub other : ℕ → ℕ
other e = 255 - e

abbrev pub held : ℕ → Option ℕ → ℕ
held e None = 255 - e
held e (Some v) = v

held-holds : (e : ℕ) (k : Option ℕ) → MayHold k (held e k)
held-holds e None = tt
held-holds e (Some v) = refl

held-small : (e : ℕ) (k : Option ℕ) → IsSmall k → held e k < 256
held-small e None s = omega arith
held-small e (Some v) s = s

if-holds : (t : Bool) (s b : ℕ) → t ≡ true → MayHold (if t then Some s else None) b → b ≡ s
if-holds true s b e h = sym h
if-holds false s b e h = absurd-false e
  where
    absurd-false : false ≡ true → b ≡ s
    absurd-false x = cc

held-stores : (e : ℕ) (k : Option ℕ) (s b : ℕ) → IsErasedByte e → MayHold (stored e k s) b
    → held e k ≡ e → b ≡ s
held-stores e None s b (inl zero_is) h is = absurd (omega (arith, zero_is, is))
held-stores e None s b (inr all_is) h is = absurd (omega (arith, all_is, is))
held-stores e (Some v) s b one h is = if-holds (v == e) s b (eq-eqb v e is) h

-- what stood there before, from the first place on
pub record Held (e : ℕ) (at : ℕ) (sents : List ℕ) (ks : List (Option ℕ)) (new : List ℕ) :
    Type 0 where
  pub old : List ℕ
  pub agrees : Agrees ks old
  pub stores :
      Stores e (take (length sents) (drop at old)) sents (take (length sents) (drop at new))
  pub put : new ≡ put_over at (take (length sents) (drop at new)) old
  pub bytes : Bytes old

held-front : (e : ℕ) (sents : List ℕ) (ks : List (Option ℕ)) (new : List ℕ) → IsErasedByte e
    → length sents ≤ length ks → length ks ≡ length new → Small ks → Bytes new
    → Agrees (put_front (stored_all e (take (length sents) ks) sents) ks) new
    → Held e 0 sents ks new
held-front e [] ks new one fits same small bytes a =
    record {
      old = filled ks new;
      agrees = agrees-filled ks new same;
      stores = tt;
      put = sym (filled-same ks new a);
      bytes = bytes-filled ks new small bytes;
    }
held-front e (s ∷ ss) (k ∷ ks) (b ∷ new) one fits same small bytes a =
    let more =
    held-front e ss ks new one (omega (arith, fits)) (omega (arith, same)) small.1 bytes.1 a.1 in
    record {
      old = held e k ∷ more.old;
      agrees = (held-holds e k, more.agrees);
      stores = (bytes.0, held-stores e k s b one a.0, more.stores);
      put = ap (λ xs. b ∷ xs) more.put;
      bytes = (held-small e k small.0, more.bytes);
    }
held-front e ss ks new one fits same small bytes a = absurd (omega (arith, fits, same))

held-over : (at e : ℕ) (sents : List ℕ) (ks : List (Option ℕ)) (new : List ℕ) → IsErasedByte e
    → at + length sents ≤ length ks → length ks ≡ length new → Small ks → Bytes new
    → Agrees (put_over at (stored_all e (take (length sents) (drop at ks)) sents) ks) new
    → Held e at sents ks new
held-over zero e sents ks new one fits same small bytes a =
    held-front e sents ks new one (omega (arith, fits)) same small bytes a
held-over (suc n) e sents (k ∷ ks) (b ∷ new) one fits same small bytes a =
    let more =
    held-over n e sents ks new one (omega (arith, fits)) (omega (arith, same)) small.1 bytes.1 a.1
    in
    record {
      old = pick k b ∷ more.old;
      agrees = (pick-holds k b, more.agrees);
      stores = more.stores;
      put = ap₂ (λ (x : ℕ) (xs : List ℕ). x ∷ xs) (sym (pick-same k b a.0)) more.put;
      bytes = (pick-small k b small.0 bytes.0, more.bytes);
    }
held-over n e sents ks new one fits same small bytes a = absurd (omega (arith, fits, same))

-- Small places stay so:

small-front : (ps ks : List (Option ℕ)) → Small ps → Small ks → Small (put_front ps ks)
small-front [] ks p s = s
small-front (p ∷ ps) [] h s = h
small-front (p ∷ ps) (k ∷ ks) h s = (h.0, small-front ps ks h.1 s.1)

small-over : (at : ℕ) (ps ks : List (Option ℕ)) → Small ps → Small ks → Small (put_over at ps ks)
small-over zero ps ks p s = small-front ps ks p s
small-over (suc n) ps [] p s = p
small-over (suc n) ps (k ∷ ks) p s = (s.0, small-over n ps ks p s.1)

small-put : (at : ℕ) (ps ks : List (Option ℕ)) → Small ps → Small ks → Small (with_items at ps ks)
small-put at ps ks p s =
    rw (with_items-is at ps ks) (small-over at ps ks p s)

small-replicate : (n e : ℕ) → e < 256 → Small (replicate n (Some e))
small-replicate zero e h = tt
small-replicate (suc n) e h = (h, small-replicate n e h)

erased-small : (e : ℕ) → IsErasedByte e → e < 256
erased-small e (inl is) = omega (arith, is)
erased-small e (inr is) = omega (arith, is)

small-page : (chip : ChipData) (n : ℕ) (ks : List (Option ℕ)) → IsErasedByte (erased_byte chip)
    → Small ks
    → Small (with_items (page_offset chip n) (replicate (page_size chip n) (Some (erased_byte
    chip))) ks)
small-page chip n ks one s =
    small-put (page_offset chip n) (replicate (page_size chip n) (Some (erased_byte chip))) ks
    (small-replicate (page_size chip n) (erased_byte chip) (erased-small (erased_byte chip) one)) s

small-erased : (chip : ChipData) (pages : List ℕ) (ks : List (Option ℕ))
    → IsErasedByte (erased_byte chip) → Small ks → Small (erased_known chip pages ks)
small-erased chip [] ks one s = s
small-erased chip (n ∷ pages) ks one s =
    small-erased chip pages _ one (small-page chip n ks one s)

small-if : (t : Bool) (s : ℕ) → s < 256 → IsSmall (if t then Some s else None)
small-if true s h = h
small-if false s h = tt

small-one : (e : ℕ) (k : Option ℕ) (s : ℕ) → s < 256 → IsSmall (stored e k s)
small-one e None s h = tt
small-one e (Some v) s h = small-if (v == e) s h

small-stored : (e : ℕ) (ks : List (Option ℕ)) (sents : List ℕ) → Bytes sents
    → Small (stored_all e ks sents)
small-stored e [] sents b = tt
small-stored e (k ∷ ks) [] b = tt
small-stored e (k ∷ ks) (s ∷ ss) b = (small-one e k s b.0, small-stored e ks ss b.1)

abbrev pub Sends : Change → Type 0
Sends (Write address sent) = Bytes sent
Sends Nothing = Unit {0}
Sends (ErasePages pages) = Unit {0}
Sends EraseAll = Unit {0}

pub small-changed : (chip : ChipData) (change : Change) (ks : List (Option ℕ))
    → IsErasedByte (erased_byte chip) → Sends change → Small ks
    → Small (changed_known chip change ks)
small-changed chip Nothing ks one sends s = s
small-changed chip (ErasePages pages) ks one sends s = small-erased chip pages ks one s
small-changed chip EraseAll ks one sends s =
    small-replicate (length ks) (erased_byte chip) (erased-small (erased_byte chip) one)
small-changed chip (Write address sent) ks one sends s =
    let at = address - chip.base in
    small-put at (stored_all (erased_byte chip) (take (length sent) (drop at ks)) sent) ks
    (small-stored (erased_byte chip) (take (length sent) (drop at ks)) sent sends) s

-- of each change there is a flash before it
pub back-changed : (chip : ChipData) (change : Change) (ks : List (Option ℕ)) (new : List ℕ)
    → IsErasedByte (erased_byte chip) → Fits chip change → length ks ≡ flash_size chip
    → length new ≡ flash_size chip → Small ks → Bytes new
    → Agrees (changed_known chip change ks) new → Before chip change ks new
back-changed chip Nothing ks new one fits size same small bytes a =
    record { old = new; agrees = a; effect = refl; bytes = bytes }
back-changed chip (ErasePages pages) ks new one fits size same small bytes a =
    back-erased chip pages ks new size same small (λ n xs s. small-page chip n xs one s) bytes a
back-changed chip EraseAll ks new one fits size same small bytes a =
    record {
      old = filled ks new;
      agrees = agrees-filled ks new (size ∙ sym same);
      effect = all-erased (erased_byte chip) (length ks) new a
          ∙ ap (λ n. replicate n (erased_byte chip)) (sym (length-filled ks new));
      bytes = bytes-filled ks new small bytes;
    }
back-changed chip (Write address sent) ks new one fits size same small bytes a =
    let at = address - chip.base in
    let e = fits-end chip address (length sent) fits in
    let places = stored_all (erased_byte chip) (take (length sent) (drop at ks)) sent in
    let h =
    held-over at (erased_byte chip) sent ks new one (omega (arith, size, e.0, e.1)) (size
    ∙ sym same)
    small bytes (rw (with_items-is at places ks) at a) in
    record {
      old = h.old;
      agrees = h.agrees;
      effect = (
        take (length sent) (drop at new),
        h.stores,
        h.put ∙ sym (with_items-is at (take (length sent) (drop at new)) h.old),
      );
      bytes = h.bytes;
    }
