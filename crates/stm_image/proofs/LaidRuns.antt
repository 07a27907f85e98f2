-- A set laid over bytes, run by run.
use Rattle.std.proofs.Common.{◌≡◌, ◌≢◌, inl, inr, ℕ, suc, ◌+◌, ◌-◌, ◌<◌, ◌≤◌, List, [], ◌∷◌, length, slice_index, slice_set, Option, Some, None, refl, sym, ap, ap₂, ◌∙◌, arith}
use Rattle.std.proofs.lemmas.Bool.{cases_lt}
use Rattle.std.proofs.lemmas.List.{get_or-set_same, get_or-set_other}
use Rattle.stm_image.specs.Pairs.{Pairs, byte_at, HasNone, AddressesRise}
use Rattle.stm_image.specs.Lay.{lay, laid_byte, IsPutAt}
use Rattle.stm_image.specs.Runs.{IsRunFrom}
use Rattle.stm_image.proofs.Overlaps.{held_at}
use Rattle.stm_image.proofs.Running.{next_of_run}
use Rattle.stm_image.proofs.Sets.{byte_at_none}
use Rattle.stm_image.proofs.Laid.{byte_in_run}

-- a write, seen place by place
pub set_there : (xs : List ℕ) (i x : ℕ) → i < length xs → slice_index (slice_set xs i x) i ≡ x
set_there xs i x lt = get_or-set_same xs i x 0 lt

pub set_elsewhere : (xs : List ℕ) (i k x : ℕ) → k ≢ i → slice_index (slice_set xs i x) k ≡ slice_index xs k
set_elsewhere xs i k x other = get_or-set_other xs i k x 0 other

-- no byte stands between an address and the next run
none_between : (set : Pairs) (from start place : ℕ) (bytes : List ℕ) → AddressesRise set → IsRunFrom set from start bytes → from ≤ place → place < start → byte_at set place ≡ None
none_between set from start place bytes rises run low high = of_byte (byte_at set place) refl
  where
    of_byte : (o : Option ℕ) → byte_at set place ≡ o → byte_at set place ≡ None
    of_byte None e = e
    of_byte (Some b) e = let up = (next_of_run set from start bytes rises run).least (place, b) (held_at set place b e) low in absurd (omega arith)

-- what was laid so far, up to an address
pub record IsLaidTo (set : Pairs) (a : ℕ) (old : List ℕ) (at : ℕ) (new : List ℕ) : Type 0 where
  pub same_length : length new ≡ length old
  pub from : a ≤ at
  pub laid : (i : ℕ) → i < length old → a + i < at → slice_index new i ≡ laid_byte (byte_at set (a + i)) (slice_index old i)
  pub rest : (i : ℕ) → at ≤ a + i → slice_index new i ≡ slice_index old i

pub laid_start : (set : Pairs) (a : ℕ) (old : List ℕ) → IsLaidTo set a old a old
laid_start set a old = record { same_length = refl; from = omega arith; laid = λ i lt below. absurd (omega arith); rest = λ i le. refl }

-- one run more
pub laid_run : (set : Pairs) (a from start : ℕ) (old new next bytes : List ℕ) → AddressesRise set → IsRunFrom set from start bytes → IsLaidTo set a old from new → IsPutAt bytes new (start - a) next → IsLaidTo set a old (start + length bytes) next
laid_run set a from start old new next bytes rises run so_far put =
    let low = so_far.from in
    let up = run.from in
    let same = so_far.same_length in
    let put_same = put.same_length in
    record {
      same_length = put.same_length ∙ so_far.same_length;
      from = omega arith;
      laid = λ i lt below. elim (cases_lt (a + i) start) [
        | inl early ↦ put.before i (omega arith) ∙ before i lt early
        | inr here ↦
            let k = (a + i) - start in
            let at : (start - a) + k ≡ i = omega arith in
            let there : start + k ≡ a + i = omega arith in
            let own = put.over k (omega arith) (omega arith) in
            let byte : byte_at set (a + i) ≡ Some (slice_index bytes k) = ap (byte_at set) (sym there) ∙ byte_in_run set from start k bytes rises run (omega arith) in
            ap (slice_index next) (sym at) ∙ own ∙ sym (ap (λ (o : Option ℕ). laid_byte o (slice_index old i)) byte)
      ];
      rest = λ i le. put.after i (omega arith) ∙ so_far.rest i (omega arith);
    }
  where
    before : (i : ℕ) → i < length old → a + i < start → slice_index new i ≡ laid_byte (byte_at set (a + i)) (slice_index old i)
    before i lt early = elim (cases_lt (a + i) from) [
      | inl done ↦ so_far.laid i lt done
      | inr gap ↦ so_far.rest i gap ∙ sym (ap (λ (o : Option ℕ). laid_byte o (slice_index old i)) (none_between set from start (a + i) bytes rises run gap early))
    ]

laid_each : (set : Pairs) (a : ℕ) (old new : List ℕ) → length new ≡ length old → ((i : ℕ) → i < length old → slice_index new i ≡ laid_byte (byte_at set (a + i)) (slice_index old i)) → new ≡ lay set a old
unfolding lay
laid_each set a [] [] same each = refl
laid_each set a (x ∷ old) (y ∷ new) same each =
    let at : a + 0 ≡ a = omega arith in
    ap₂ (λ (b : ℕ) (bs : List ℕ). b ∷ bs) (each 0 (omega arith) ∙ ap (λ (n : ℕ). laid_byte (byte_at set n) x) at)
    (laid_each set (a + 1) old new (omega arith) (λ i lt. let e : a + suc i ≡ a + 1 + i = omega arith in each (suc i) (omega arith) ∙ ap (λ (n : ℕ). laid_byte (byte_at set n) (slice_index old i)) e))
laid_each set a old new same each = absurd (omega arith)

-- all bytes are laid
pub laid_all : (set : Pairs) (a at : ℕ) (old new : List ℕ) → IsLaidTo set a old at new → a + length old ≤ at → new ≡ lay set a old
laid_all set a at old new so_far past = laid_each set a old new so_far.same_length (λ i lt. so_far.laid i lt (omega arith))

pub laid_none : (set : Pairs) (a at : ℕ) (old new : List ℕ) → IsLaidTo set a old at new → HasNone set at → new ≡ lay set a old
laid_none set a at old new so_far none = laid_each set a old new so_far.same_length (λ i lt. elim (cases_lt (a + i) at) [
  | inl done ↦ so_far.laid i lt done
  | inr past ↦ so_far.rest i past ∙ ap (λ (o : Option ℕ). laid_byte o (slice_index old i)) (byte_at_none set (a + i) (λ q held. let below = none q held in omega arith))
])

pub laid_far : (set : Pairs) (a at start : ℕ) (old new bytes : List ℕ) → AddressesRise set → IsRunFrom set at start bytes → IsLaidTo set a old at new → a + length old ≤ start → new ≡ lay set a old
laid_far set a at start old new bytes rises run so_far far = laid_each set a old new so_far.same_length (λ i lt. elim (cases_lt (a + i) at) [
  | inl done ↦ so_far.laid i lt done
  | inr past ↦ so_far.rest i past ∙ sym (ap (λ (o : Option ℕ). laid_byte o (slice_index old i)) (none_between set at start (a + i) bytes rises run past (omega arith)))
])
