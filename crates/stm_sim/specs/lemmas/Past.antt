-- What a Rig in memory keeps and tells after one call more.
use Rattle.std.proofs.Common.{◌≡◌, ◌⊎◌, inl, inr, ⊎_elim, ℕ, zero, suc, eq-or-lt_of_le, ◌+◌}
use Rattle.std.proofs.Common.{◌-◌, ◌^◌, ◌≤◌, List, [], ◌∷◌, ◌++◌, length, take, refl, sym}
use Rattle.std.proofs.Common.{◌∙◌, ap, ap₂, subst, arith, length-append, append-nil, take_all}
use Rattle.std.proofs.lemmas.List.{take-append-le}
use Rattle.stm_sim.specs.declared.past.PastStep.{PastStep}
use Rattle.stm_sim.specs.declared.past.PastStep.TheVariants.{Fed, Taken, Added, Nothing}
use Rattle.stm_wire.specs.declared.rig.RigCall.{RigCall}
use Rattle.stm_wire.specs.Device.{Device, IsDevice, LosesOwed}
use Rattle.stm_sim.specs.lemmas.SimulatedDevice.{le-or-gt}
use Rattle.stm_wire.specs.Rig.{Elapses, IsModel}
use Rattle.stm_sim.specs.Memory.{MemoryData, IsMemory, KeepsOfPast, rig_state, after_past_step, replay, added_by}
pub use Rattle.stm_sim.specs.lemmas.FirstDevice.{restored, first-fed, taken-step, taken-rest}
pub use Rattle.stm_sim.specs.lemmas.FirstDevice.{taken-first, owed-device, taken-device, is-with_call}

replay-append : (past : List PastStep) (s : PastStep) (d : Device)
    → replay (past ++ s ∷ []) d ≡ after_past_step s (replay past d)
replay-append [] s d = refl
replay-append (x ∷ past) s d = replay-append past s (after_past_step x d)

added_by-append : (past : List PastStep) (s : PastStep)
    → added_by (past ++ s ∷ []) ≡ added_by past + added_by (s ∷ [])
added_by-append [] s = omega arith
added_by-append (Added n ∷ past) s = omega (arith, added_by-append past s)
added_by-append (Fed byte ∷ past) s = added_by-append past s
added_by-append (Taken ∷ past) s = added_by-append past s
added_by-append (Nothing ∷ past) s = added_by-append past s

added_by-take : (past : List PastStep) (k : ℕ) → added_by (take k past) ≤ added_by past
added_by-take past zero = omega arith
added_by-take [] (suc k) = omega arith
added_by-take (Added n ∷ past) (suc k) = omega (arith, added_by-take past k)
added_by-take (Fed byte ∷ past) (suc k) = added_by-take past k
added_by-take (Taken ∷ past) (suc k) = added_by-take past k
added_by-take (Nothing ∷ past) (suc k) = added_by-take past k

-- the device, and the journal's length, after the first calls since it began
abbrev pub device_at : MemoryData → ℕ → Device
device_at m k = replay (take k m.past) m.first

abbrev pub record_size_at : MemoryData → ℕ → ℕ
record_size_at m k = m.begun + added_by (take k m.past)

-- one call more: its step, and the bytes that it added
pub record AddsCall (call : RigCall) (s : PastStep) (bytes : List ℕ) (m n : MemoryData) : Type 0 where
  pub device : n.device ≡ after_past_step s m.device
  pub journal : n.journal ≡ m.journal ++ bytes
  pub calls : n.calls ≡ m.calls ++ call ∷ []
  pub first : n.first ≡ m.first
  pub begun : n.begun ≡ m.begun
  pub start : n.start ≡ m.start
  pub past : n.past ≡ m.past ++ s ∷ []

now-device : (m : MemoryData) → IsMemory m → device_at m (length m.past) ≡ m.device
now-device m is =
    ap (λ p. replay p m.first) (take_all (length m.past) m.past (omega arith)) ∙ sym is.replayed

-- from the last place on, the journal's length is its length now
now-size : (m : MemoryData) (k : ℕ) → IsMemory m → length m.past ≤ k
    → record_size_at m k ≡ length m.journal
now-size m k is le = ap (λ p. m.begun + added_by p) (take_all k m.past le) ∙ is.added

size-within : (m : MemoryData) (k : ℕ) → IsMemory m → record_size_at m k ≤ length m.journal
size-within m k is = omega (arith, added_by-take m.past k, is.added)

pub keeps-call : (call : RigCall) (s : PastStep) (bytes : List ℕ) (m : MemoryData) (device : Device)
    (journal : List ℕ) (calls : List RigCall) (first : Device) (past : List PastStep)
    → device ≡ after_past_step s m.device → journal ≡ m.journal ++ bytes → calls ≡ m.calls ++ call ∷ []
    → first ≡ m.first → past ≡ m.past ++ s ∷ []
    → IsMemory m → IsDevice device → added_by (s ∷ []) ≡ length bytes → length journal ≤ 2 ^ 63 - 1
    → KeepsOfPast device journal calls first m.begun m.start past
keeps-call call s bytes m device journal calls first past is_step is_journal is_calls is_first
    is_past is is_device size limit =
    let past_length : length past ≡ length m.past + 1 =
    ap length is_past ∙ length-append m.past (s ∷ []) in
    let calls_length : length calls ≡ length m.calls + 1 =
    ap length is_calls ∙ length-append m.calls (call ∷ []) in
    let journal_length : length journal ≡ length m.journal + length bytes =
    ap length is_journal ∙ length-append m.journal bytes in
    let more : added_by past ≡ added_by m.past + added_by (s ∷ []) =
    ap added_by is_past ∙ added_by-append m.past s in
    record {
      is_device = is_device;
      places = omega (arith, past_length, calls_length, is.places);
      replayed =
          is_step ∙ ap (λ d. after_past_step s d) is.replayed ∙ sym (replay-append m.past s m.first)
          ∙ sym (ap₂ (λ p d. replay p d) is_past is_first);
      added = omega (arith, more, journal_length, is.added, size);
      limit = limit;
    }

-- the same for a call that left the journal as it was
pub keeps-quiet : (call : RigCall) (s : PastStep) (m : MemoryData) (device : Device)
    (calls : List RigCall) (first : Device) (past : List PastStep)
    → device ≡ after_past_step s m.device → calls ≡ m.calls ++ call ∷ [] → first ≡ m.first
    → past ≡ m.past ++ s ∷ []
    → IsMemory m → IsDevice device → added_by (s ∷ []) ≡ 0
    → KeepsOfPast device m.journal calls first m.begun m.start past
keeps-quiet call s m device calls first past is_step is_calls is_first is_past is is_device size =
    keeps-call call s [] m device m.journal calls first past is_step
    (sym (append-nil m.journal)) is_calls is_first is_past is is_device size is.limit

module _ (call : RigCall) (s : PastStep) (bytes : List ℕ) (m n : MemoryData) (is_m : IsMemory m)
    (is_n : IsMemory n) (goes : AddsCall call s bytes m n) where
  one-more : length n.past ≡ length m.past + 1
  one-more = ap length goes.past ∙ length-append m.past (s ∷ [])

  one-call : length n.calls ≡ length m.calls + 1
  one-call = ap length goes.calls ∙ length-append m.calls (call ∷ [])

  same-steps : (k : ℕ) → k ≤ length m.past → take k n.past ≡ take k m.past
  same-steps k le = ap (λ p. take k p) goes.past ∙ take-append-le k m.past (s ∷ []) le

  same-device : (k : ℕ) → k ≤ length m.past → device_at n k ≡ device_at m k
  same-device k le = ap₂ (λ p d. replay p d) (same-steps k le) goes.first

  same-size : (k : ℕ) → k ≤ length m.past → record_size_at n k ≡ record_size_at m k
  same-size k le = ap₂ (λ p b. b + added_by p) (same-steps k le) goes.begun

  same-journal : (k : ℕ) → k ≤ length m.journal → take k n.journal ≡ take k m.journal
  same-journal k le = ap (λ j. take k j) goes.journal ∙ take-append-le k m.journal bytes le

  -- the device before the call stands at the last place before it
  old-device : device_at n (length m.past) ≡ m.device
  old-device = same-device (length m.past) (omega arith) ∙ now-device m is_m

  longer : length m.journal ≤ length n.journal
  longer = omega (arith, ap length goes.journal, length-append m.journal bytes)

  -- What was left before one more call is what is left after it, and nothing else but what that
  -- call may leave.
  pub elapses : (P : Device → List ℕ → Type 0)
      → ((d : Device) (size : ℕ) → LosesOwed m.device d ⊎ LosesOwed n.device d
      → length m.journal ≤ size → size ≤ length n.journal → P d (take size n.journal))
      → Elapses P (rig_state m) (rig_state n)
  elapses P p =
      record {
        later = omega (arith, one-call);
        nothing_else = λ t d journal le left.
            let D : Device → Type 0 = λ e. LosesOwed e d in
            let within : left.size ≤ length n.journal =
            omega (arith, left.to, size-within n (left.place + 1) is_n) in
            ⊎_elim
            (λ last.
            let size : record_size_at n left.place ≡ length n.journal =
            now-size n left.place is_n (omega (arith, last)) in
            let here : device_at n left.place ≡ n.device =
            ap (λ k. device_at n k) last ∙ now-device n is_n in
            inr (rw left.same (p d left.size (inr (subst D here left.device))
            (omega (arith, left.from, size, longer)) within)))
            (λ before.
            ⊎_elim
            (λ now.
            let place : left.place ≡ length m.past = omega (arith, now, before, one-more) in
            let size : record_size_at n left.place ≡ length m.journal =
            ap (λ k. record_size_at n k) place ∙ same-size (length m.past) (omega arith)
            ∙ now-size m (length m.past) is_m (omega arith) in
            let here : device_at n left.place ≡ m.device =
            ap (λ k. device_at n k) place ∙ old-device in
            inr (rw left.same (p d left.size (inl (subst D here left.device))
            (omega (arith, left.from, size)) within)))
            (λ earlier.
            let to : left.size ≤ record_size_at m (left.place + 1) =
            omega (arith, left.to, same-size (left.place + 1) (omega (arith, earlier))) in
            inl
            (record {
              place = left.place;
              since = omega (arith, left.since, goes.start);
              until = omega (arith, earlier);
              device = subst D (same-device left.place (omega (arith, earlier))) left.device;
              size = left.size;
              from = omega (arith, left.from, same-size left.place (omega (arith, earlier)));
              to = to;
              same =
                  left.same
                  ∙ same-journal left.size (omega (arith, to, size-within m (left.place + 1) is_m));
            }))
            (le-or-gt (length m.past) left.place))
            (eq-or-lt_of_le left.until);
        keeps = λ t d journal le left.
            let within : left.size ≤ length m.journal =
            omega (arith, left.to, size-within m (left.place + 1) is_m) in
            record {
              place = left.place;
              since = omega (arith, left.since, goes.start);
              until = omega (arith, left.until, one-more);
              device = rw (same-device left.place left.until) left.device;
              size = left.size;
              from = omega (arith, left.from, same-size left.place left.until);
              to =
                  ⊎_elim
                  (λ last.
                  omega (
                    arith,
                    within,
                    longer,
                    now-size n (left.place + 1) is_n (omega (arith, last, one-more)),
                  ))
                  (λ earlier.
                  omega (arith, left.to, same-size (left.place + 1) (omega (arith, earlier))))
                  (eq-or-lt_of_le left.until);
              same = left.same ∙ sym (same-journal left.size within);
            };
      }

  -- Each beginning of what an append added was left during it.
  pub beginnings : (t k : ℕ) (d : Device) → t ≤ length m.calls → length m.journal ≤ k
      → LosesOwed m.device d → (rig_state n).left_since t d (take k n.journal)
  beginnings t k d le from lost =
      let size : record_size_at n (length m.past) ≡ length m.journal =
      same-size (length m.past) (omega arith) ∙ now-size m (length m.past) is_m (omega arith) in
      let whole : record_size_at n (length m.past + 1) ≡ length n.journal =
      now-size n (length m.past + 1) is_n (omega (arith, one-more)) in
      let make : (s : ℕ) → length m.journal ≤ s → s ≤ length n.journal
      → take k n.journal ≡ take s n.journal → (rig_state n).left_since t d (take k n.journal) =
      λ s above below same.
      record {
        place = length m.past;
        since = omega (arith, le, goes.start, is_m.places);
        until = omega (arith, one-more);
        device = rw old-device lost;
        size = s;
        from = omega (arith, size, above);
        to = omega (arith, whole, below);
        same = same;
      }
      in
      ⊎_elim
      (λ below. make k from below refl)
      (λ past.
      make (length n.journal) longer (omega arith)
      (take_all k n.journal (omega (arith, past))
      ∙ sym (take_all (length n.journal) n.journal (omega arith))))
      (le-or-gt k (length n.journal))

pub model : (m : MemoryData) → IsMemory m → IsModel (rig_state m)
model m is =
    record {
      device = is.is_device;
      journal = is.limit;
      counts_now = λ t d le lost.
          let D : Device → Type 0 = λ e. LosesOwed e d in
          record {
            place = length m.past;
            since = omega (arith, le, is.places);
            until = omega arith;
            device = subst D (sym (now-device m is)) lost;
            size = length m.journal;
            from = size-within m (length m.past) is;
            to = omega (arith, now-size m (length m.past + 1) is (omega arith));
            same = sym (take_all (length m.journal) m.journal (omega arith));
          };
      only_now = λ d journal left.
          let last : left.place ≡ length m.past =
          omega (arith, left.since, left.until, is.places) in
          let size : record_size_at m left.place ≡ length m.journal =
          now-size m left.place is (omega (arith, last)) in (
            left.same
                ∙ take_all left.size m.journal (omega (arith, left.from, size)),
            rw (ap (λ k. device_at m k) last ∙ now-device m is) at left.device,
          );
    }
