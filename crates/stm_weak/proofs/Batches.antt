-- What settling in batches leaves, call by call.
use Rattle.std.proofs.Common.{◌≡◌, ◌⊎◌, inl, inr, ⊎_elim, ℕ, zero, suc, ◌-◌, ◌<◌, ◌≤◌, Bool, true}
use Rattle.std.proofs.Common.{false, ◌||◌, if◌then◌else◌, min, nat_le, nat_lt, List, [], ◌∷◌, ◌++◌}
use Rattle.std.proofs.Common.{replicate, Some, None, refl, sym, ◌∙◌, ap, subst, arith}
use Rattle.stm_wire.proofs.Names.{ack, answered, Append, AreBatches, batch_size, Call, Connected, Device, ending, EndsSingly, Fetch, Get, IsBatched, IsDrained, IsSettled, IsUnrefused, more, nack}
use Rattle.stm_wire.proofs.Names.{none, Phase, Put, reconnected, refused, taken, used_up}
use Rattle.stm_weak.specs.SettledBatches.{AnswersAlone, BatchesLeaveItWaiting, IsTameFor}
use Rattle.stm_weak.specs.WeakDevice.{WeakDevice}
use Rattle.stm_weak.proofs.FedSteadily.{IsTameDevice, Steady, fed_little, fed_steady}
use Rattle.stm_weak.proofs.ShortReplies.{IsRepeating, OwesLittle}

-- lists of owed bytes

first_of_list : List ℕ → ℕ
first_of_list [] = 0
first_of_list (x ∷ xs) = x

rest_of_list : List ℕ → List ℕ
rest_of_list [] = []
rest_of_list (x ∷ xs) = xs

same_first : (x y : ℕ) (xs ys : List ℕ) → x ∷ xs ≡ y ∷ ys → x ≡ y
unfolding first_of_list
same_first x y xs ys e = ap first_of_list e

same_rest_of : (x y : ℕ) (xs ys : List ℕ) → x ∷ xs ≡ y ∷ ys → xs ≡ ys
unfolding rest_of_list
same_rest_of x y xs ys e = ap rest_of_list e

module _ (byte : ℕ) where
  -- calls one behind another
  split : (xs ys : List Call) (old new : WeakDevice) → AnswersAlone byte (xs ++ ys) old new
      → (mid : WeakDevice) × AnswersAlone byte xs old mid × AnswersAlone byte ys mid new
  split [] ys old new a = (old, refl, a)
  split (Put own ∷ xs) ys old new (next, how, feeds, a) =
      let r = split xs ys next new a in (r.0, (next, how, feeds, r.1), r.2)
  split (Get None ∷ xs) ys old new (quiet, a) =
      let r = split xs ys old new a in (r.0, (quiet, r.1), r.2)
  split (Get (Some x) ∷ xs) ys old new (next, is, a) =
      let r = split xs ys next new a in (r.0, (next, is, r.1), r.2)
  split (x ∷ xs) ys old new a = split xs ys old new a

  -- a byte that is taken changes nothing else
  taken_device : (d e : Device) (owed : List ℕ) → d ≡ record e { owed = owed } → Steady byte d
      → Steady byte e
  taken_device d e owed is steady = subst (Steady byte) is steady

  tame_taken : (d e : Device) (owed : List ℕ) → d ≡ record e { owed = owed }
      → IsTameDevice byte d → IsTameDevice byte e
  tame_taken d e owed is tame = subst (IsTameDevice byte) is tame

  -- what is owed is taken, to the end
  record Drains (old new : WeakDevice) : Type 0 where
    phase : new.device.phase ≡ old.device.phase
    steady : Steady byte old.device → Steady byte new.device
    tame : IsTameFor byte old → IsTameFor byte new
    owed : new.device.owed ≡ []

  all_taken : (bytes : List ℕ) (old new : WeakDevice)
      → AnswersAlone byte (taken bytes ++ Get None ∷ []) old new → Drains old new
  all_taken [] old new (quiet, same) =
      subst (λ (w : WeakDevice). Drains old w) (sym same)
      (record { phase = refl; steady = λ s. s; tame = λ t. t; owed = quiet })
  all_taken (x ∷ bytes) old new (next, is, a) =
      let r = all_taken bytes next new a in
      let owed = x ∷ next.device.owed in record {
        phase = r.phase ∙ sym (ap (λ (d : Device). d.phase) is);
        steady = λ s. r.steady (taken_device old.device next.device owed is s);
        tame = λ t. r.tame (tame_taken old.device next.device owed is t);
        owed = r.owed;
      }

  drained : (seen : Bool) (calls : List Call) (old new : WeakDevice) → IsDrained seen calls
      → AnswersAlone byte calls old new → Drains old new
  drained seen calls old new is a =
      let P : List Call → Type 0 = λ l. AnswersAlone byte l old new in
      all_taken is.bytes old new (subst P is.is a)

  -- a batch

  all_put : (n : ℕ) (old new : WeakDevice) → IsTameFor byte old
      → AnswersAlone byte (replicate n (Put byte)) old new
      → IsTameFor byte new × (1 ≤ n → IsRepeating byte new.device.phase)
  all_put zero old new tame same =
      (subst (IsTameFor byte) (sym same) tame, λ some. absurd (omega (arith, some)))
  all_put (suc zero) old new tame (next, how, feeds, same) =
      let s = fed_steady byte byte old next how feeds tame in
      let at = subst (λ (w : WeakDevice). Steady byte w.device) (sym same) s in
      (at.0, λ some. at.1)
  all_put (suc (suc n)) old new tame (next, how, feeds, a) =
      let s = fed_steady byte byte old next how feeds tame in
      let r = all_put (suc n) next new s.0 a in
      (r.0, λ some. r.1 (omega arith))

  some_in_batch : (sent left : ℕ) → 2 < left → 1 ≤ batch_size sent left
  some_in_batch sent left lt = by (nat_lt sent 256) (nat_le left 512) (nat_lt sent 1280) refl
    where
      by : (few short second : Bool) → nat_le left 512 ≡ short
          → 1 ≤ (if few || short then min (left - 2) 256
          else min (left - 256) (if second then 1024 else 7168))
      by true short second e = omega (arith, lt)
      by false true second e = omega (arith, lt)
      by false false true e = let h : 512 < left = grind (arith, e) in omega (arith, h)
      by false false false e = let h : 512 < left = grind (arith, e) in omega (arith, h)

  -- so far none was sent, or the last has been drained
  abbrev AllBatches : (limit left : ℕ) (seen : Bool) → WeakDevice → Type 0
  AllBatches limit left seen new = IsTameFor byte new
      × (((left ≡ limit) × (seen ≡ false))
      ⊎ (IsRepeating byte new.device.phase × (new.device.owed ≡ [])))

  batches : (limit left : ℕ) (seen : Bool) (calls : List Call) → AreBatches byte limit left seen calls
      → (old new : WeakDevice) → IsTameFor byte old → AnswersAlone byte calls old new
      → AllBatches limit left seen new
  batches limit _ _ _ none old new tame same =
      (subst (IsTameFor byte) (sym same) tame, inl (refl, refl))
  batches limit _ _ _ (more left count seen calls batch are lt size is) old new tame a =
      let two = split calls batch old new a in
      let first = batches limit left false calls are old two.0 tame two.1 in
      let P : List Call → Type 0 = λ l. AnswersAlone byte l two.0 new in
      let parts = split (replicate count (Put byte)) is.drained two.0 new (subst P is.is two.2) in
      let put = all_put count two.0 parts.0 first.0 parts.1 in
      let drain = drained seen is.drained parts.0 new is.is_drained parts.2 in
      let some : 1 ≤ count = let h = some_in_batch (limit - left) left lt in
      omega (arith, h, size) in
      let R : Phase → Type 0 = λ p. IsRepeating byte p in
      (drain.tame put.0, inr (subst R (sym drain.phase) (put.1 some), drain.owed))

  -- Single bytes: before each nothing is owed.

  record IsQuiet (w : WeakDevice) : Type 0 where
    steady : Steady byte w.device
    owed : w.device.owed ≡ []

  -- the one byte that it owed is taken
  taken_little : (mid next : WeakDevice) (x : ℕ) → Steady byte mid.device → OwesLittle mid.device
      → mid.device ≡ record next.device { owed = x ∷ next.device.owed }
      → IsQuiet next × (x ≡ nack → next.device.phase ≡ Connected [])
  taken_little mid next x steady (inl nothing) is =
      absurd (let h : x ∷ next.device.owed ≡ [] =
      sym (ap (λ (d : Device). d.owed) is) ∙ nothing in cc)
  taken_little mid next x steady (inr (y, one, waits)) is =
      let both : x ∷ next.device.owed ≡ y ∷ [] = sym (ap (λ (d : Device). d.owed) is) ∙ one in (
        record {
          steady = taken_device mid.device next.device (x ∷ next.device.owed) is steady;
          owed = same_rest_of x y next.device.owed [] both;
        },
        λ same. sym (ap (λ (d : Device). d.phase) is)
            ∙ waits (sym (same_first x y next.device.owed [] both) ∙ same),
      )

  unrefused : (calls : List Call) → IsUnrefused calls → (old new : WeakDevice) → IsQuiet old
      → AnswersAlone byte calls old new → IsQuiet new
  unrefused [] each old new quiet same = subst IsQuiet (sym same) quiet
  unrefused (Append bytes ∷ calls) each old new quiet a = unrefused calls each old new quiet a
  unrefused (Fetch ∷ calls) each old new quiet a = unrefused calls each old new quiet a
  unrefused (Get None ∷ calls) each old new quiet (nothing, a) =
      unrefused calls each old new quiet a
  unrefused (Get (Some x) ∷ calls) each old new quiet (next, is, a) =
      absurd (let h : x ∷ next.device.owed ≡ [] =
      sym (ap (λ (d : Device). d.owed) is) ∙ quiet.owed in cc)
  unrefused (Put own ∷ Get None ∷ calls) (hears, each) old new quiet
      (mid, how, feeds, (nothing, a)) =
      unrefused calls each mid new
      (record {
        steady = fed_steady byte own old mid how feeds quiet.steady.0;
        owed = nothing;
      }) a
  unrefused (Put own ∷ Get (Some x) ∷ calls) (hears, each) old new quiet
      (mid, how, feeds, (next, is, a)) =
      unrefused calls each next new
      (taken_little mid next x (fed_steady byte own old mid how feeds quiet.steady.0)
      (fed_little byte own old mid how feeds quiet.steady quiet.owed) is).0 a
  unrefused calls (hears, each) old new quiet a = absurd hears

  -- a byte that was refused, and then all is taken
  ends_refused : (seen : Bool) (rest : List Call) (old new : WeakDevice) → IsDrained seen rest
      → IsQuiet old → AnswersAlone byte (Put byte ∷ Get (Some nack) ∷ rest) old new
      → IsSettled new.device
  ends_refused seen rest old new is quiet (mid, how, feeds, (next, took, a)) =
      let one = taken_little mid next nack (fed_steady byte byte old mid how feeds quiet.steady.0)
      (fed_little byte byte old mid how feeds quiet.steady quiet.owed) took in
      let drain = drained seen rest next new is a in
      record { phase = drain.phase ∙ one.1 refl; owed = drain.owed }

  ends_singly : (limit : ℕ) (calls : List Call) → EndsSingly byte limit calls
      → (old new : WeakDevice) → IsQuiet old → AnswersAlone byte calls old new
      → IsSettled new.device
  ends_singly limit calls (refused sent before last lt are is whole) old new quiet a =
      let P : List Call → Type 0 = λ l. AnswersAlone byte l old new in
      let two = split before last old new (subst P whole a) in
      let Q : List Call → Type 0 = λ l. AnswersAlone byte l two.0 new in
      ends_refused is.seen is.drained two.0 new is.is_drained
      (unrefused before are.each old two.0 quiet two.1) (subst Q is.is two.2)
  ends_singly limit calls (reconnected before last are is whole) old new quiet a =
      let P : List Call → Type 0 = λ l. AnswersAlone byte l old new in
      let two = split before last old new (subst P whole a) in
      let Q : List Call → Type 0 = λ l. AnswersAlone byte l two.0 new in
      let parts = split is.connecting (ending byte) two.0 new (subst Q is.is two.2) in
      let C : List Call → Type 0 = λ l. AnswersAlone byte l two.0 parts.0 in
      let at = unrefused before are.each old two.0 quiet two.1 in
      again parts.0 new (connected is.is_connected.seen is.is_connected.drained two.0 parts.0
      is.is_connected.is_drained at (subst C is.is_connected.is parts.1)) parts.2
    where
      connected : (seen : Bool) (rest : List Call) (old mid : WeakDevice) → IsDrained seen rest
          → IsQuiet old → AnswersAlone byte (Put 0x7F ∷ Get (Some ack) ∷ rest) old mid
          → IsQuiet mid
      connected seen rest old mid is quiet (put, how, feeds, (next, took, a)) =
          let one = taken_little put next ack
          (fed_steady byte 0x7F old put how feeds quiet.steady.0)
          (fed_little byte 0x7F old put how feeds quiet.steady quiet.owed) took in
          let drain = drained seen rest next mid is a in
          record { steady = drain.steady one.0.steady; owed = drain.owed }

      again : (mid new : WeakDevice) → IsQuiet mid → AnswersAlone byte (ending byte) mid new
          → IsSettled new.device
      again mid new quiet (put, how, feeds, (nothing, a)) =
          ends_refused false (Get None ∷ []) put new
          (record { bytes = []; is = refl; has = refl })
          (record {
            steady = fed_steady byte byte mid put how feeds quiet.steady.0;
            owed = nothing;
          }) a

  all_batched : (limit left : ℕ) (calls : List Call) → 2 < limit → IsBatched byte limit left calls
      → (old new : WeakDevice) → IsTameFor byte old → AnswersAlone byte calls old new → IsQuiet new
  all_batched limit left calls lt (answered are) old new tame a =
      let r = batches limit left true calls are old new tame a in
      ⊎_elim (λ (x : (left ≡ limit) × (true ≡ false)). absurd (let h : true ≡ false = x.1 in cc))
      (λ (x : IsRepeating byte new.device.phase × (new.device.owed ≡ [])).
      (let q : IsQuiet new = record { steady = (r.0, x.0); owed = x.1 } in q)) r.1
  all_batched limit left calls lt (used_up le are) old new tame a =
      let r = batches limit left false calls are old new tame a in
      ⊎_elim (λ (x : (left ≡ limit) × (false ≡ false)). absurd (omega (arith, lt, le, x.0)))
      (λ (x : IsRepeating byte new.device.phase × (new.device.owed ≡ [])).
      (let q : IsQuiet new = record { steady = (r.0, x.0); owed = x.1 } in q)) r.1

pub batches_leave_it_waiting : BatchesLeaveItWaiting
batches_leave_it_waiting byte limit calls old new lt tame ends a =
    let P : List Call → Type 0 = λ l. AnswersAlone byte l old new in
    let parts = split byte (ends.drained ++ ends.batches) ends.singles old new (subst P ends.is a) in
    let two = split byte ends.drained ends.batches old parts.0 parts.1 in
    let drain = drained byte ends.seen ends.drained old two.0 ends.is_drained two.1 in
    ends_singly byte ends.left ends.singles ends.end_singly parts.0 new
    (all_batched byte limit ends.left ends.batches lt ends.are_batched two.0 parts.0
    (drain.tame tame) two.2) parts.2
