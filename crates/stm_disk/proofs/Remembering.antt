-- What the calls of a file in memory do to what a crash may have left.
use Rattle.std.proofs.Common.{◌≡◌, ◌⊎◌, ◌+◌, ◌-◌, ◌<◌, ◌≤◌, ◌^◌, ℕ, suc, zero, List, [], ◌∷◌, ◌++◌}
use Rattle.std.specs.Result.{IsErrAnd}
use Rattle.std.proofs.Common.{Result, Ok, Err, OnOk, OnErr, length, take, get_or, refl, sym, ap, subst, ◌∙◌, inl, inr, arith}
use Rattle.std.proofs.lemmas.Bool.{cases_lt}
use Rattle.std.proofs.lemmas.List.{append-nil, length-append, take-append-le, take-take, take_all, get_or_past}
use Rattle.std.proofs.lemmas.List.{get_or_append_left, length_push}
use Rattle.stm_disk.specs.Crash.{MayBeLeft}
use Rattle.stm_disk.specs.GrowingFile.{FileElapses, GrowsHonestly, SyncsHonestly}
use Rattle.stm_disk.specs.MemoryFile.{IsFileInMemory, sizes_at, CrashLeftSince, file_state}
use Rattle.stm_disk.specs.lemmas.MemoryFileLaws.{LeftAt, now_left}

-- what may be left of a file, may be of one that more is being added to
pub longer_left : (synced : ℕ) (seen more left : List ℕ) → synced ≤ length seen
    → MayBeLeft synced seen left → MayBeLeft synced (seen ++ more) left
longer_left synced seen more left le m = record {
  least = m.least;
  most = omega (arith, m.most, length-append seen more);
  kept = m.kept ∙ sym (take-append-le synced seen more le);
  sectors = λ number.
      let s = m.sectors number in (
        s.0,
        λ i is within.
            let holds = s.1 i is within in
            let in_seen : i < length seen = omega (arith, within, m.most) in
            (λ lt. holds.0 lt ∙ sym (get_or_append_left seen more 0 i in_seen), holds.1),
      );
}

-- what may be left of a file that is synced, may be of one that isn't yet
pub unsynced_left : (synced : ℕ) (seen left : List ℕ) → synced ≤ length seen
    → MayBeLeft (length seen) seen left → MayBeLeft synced seen left
unsynced_left synced seen left le m = record {
  least = omega (arith, le, m.least);
  most = m.most;
  kept =
      sym (take-take synced (length seen) left le)
      ∙ ap (λ (xs : List ℕ). take synced xs) m.kept
      ∙ take-take synced (length seen) seen le;
  sectors = m.sectors;
}

-- one more at the end is the one at the length, as a default was
push_at : (past : List (ℕ × ℕ)) (x d : ℕ × ℕ) (k : ℕ) → k ≤ length past
    → get_or (past ++ x ∷ []) k d ≡ get_or past k x
push_at [] x d zero le = refl
push_at [] x d (suc k) le = absurd (omega (arith, le))
push_at (y ∷ past) x d zero le = refl
push_at (y ∷ past) x d (suc k) le = push_at past x d k (omega (arith, le))

abbrev pushed : List ℕ → ℕ → List (ℕ × ℕ) → List (ℕ × ℕ)
pushed bytes synced past = past ++ (synced, length bytes) ∷ []

-- the bytes of a moment that is past
front_of : (bytes more : List ℕ) (sizes : ℕ × ℕ) (left : List ℕ) → sizes.1 ≤ length bytes
    → LeftAt (bytes ++ more) sizes left → LeftAt bytes sizes left
front_of bytes more sizes left le m =
    subst (λ (xs : List ℕ). MayBeLeft sizes.0 xs left) (take-append-le sizes.1 bytes more le) m

front_on : (bytes more : List ℕ) (sizes : ℕ × ℕ) (left : List ℕ) → sizes.1 ≤ length bytes
    → LeftAt bytes sizes left → LeftAt (bytes ++ more) sizes left
front_on bytes more sizes left le m =
    subst (λ (xs : List ℕ). MayBeLeft sizes.0 xs left) (sym (take-append-le sizes.1 bytes more le)) m

-- a call: what was is kept as the past, and some bytes are added
pub recorded : (P : List ℕ → Type 0) (bytes more : List ℕ) (synced now : ℕ) (past : List (ℕ × ℕ))
    → IsFileInMemory bytes synced past
    → ((left : List ℕ) → MayBeLeft now (bytes ++ more) left → P left)
    → FileElapses P (file_state bytes synced past)
    (file_state (bytes ++ more) now (pushed bytes synced past))
recorded P bytes more synced now past h here =
    let old : ℕ → ℕ × ℕ = sizes_at bytes synced past in
    let new : ℕ → ℕ × ℕ = sizes_at (bytes ++ more) now (pushed bytes synced past) in
    let same : (k : ℕ) → k ≤ length past → new k ≡ old k =
    λ k le. push_at past (synced, length bytes) (now, length (bytes ++ more)) k le in
    let last : (k : ℕ) → length past < k → new k ≡ (now, length (bytes ++ more)) =
    λ k lt.
    get_or_past (pushed bytes synced past) k (now, length (bytes ++ more))
    (omega (arith, lt, length_push past (synced, length bytes))) in
    record {
      later = omega (arith, length_push past (synced, length bytes));
      nothing_else = λ t left le since. elim (cases_lt (length past) since.0) as
          (λ _. CrashLeftSince bytes synced past t left ⊎ P left) [
            | inl lt ↦
                inr (here left (now_left (bytes ++ more) now left
                (rw (last since.0 lt) at since.2)))
            | inr before ↦
                inl (
                  since.0,
                  since.1,
                  front_of bytes more (old since.0) left (h.grew since.0)
                      (rw (same since.0 before) at since.2),
                )
          ];
      keeps = λ t left le since. elim (cases_lt (length past) since.0) as
          (λ _. CrashLeftSince (bytes ++ more) now (pushed bytes synced past) t left) [
            | inl lt ↦ (
              length past,
              le,
              rw (same (length past) (omega arith)) (front_on bytes more (old (length past)) left (h.grew (length past))
                  (rw (get_or_past past since.0 (synced, length bytes) (omega (arith, lt))
                  ∙ sym (get_or_past past (length past) (synced, length bytes) (omega arith))) at since.2)),
            )
            | inr before ↦ (
              since.0,
              since.1,
              rw (same since.0 before) (front_on bytes more (old since.0) left (h.grew since.0) since.2),
            )
          ];
    }

pub recorded_honestly : (bytes more : List ℕ) (synced now : ℕ) (past : List (ℕ × ℕ))
    → IsFileInMemory bytes synced past → now ≤ length (bytes ++ more)
    → length (bytes ++ more) ≤ 2 ^ 63 - 1
    → IsFileInMemory (bytes ++ more) now (pushed bytes synced past)
recorded_honestly bytes more synced now past h within limit =
    let long = length-append bytes more in
    record {
      limit = limit;
      within = within;
      grew = λ k. elim (cases_lt (length past) k) as
          (λ _. (sizes_at (bytes ++ more) now (pushed bytes synced past) k).1
          ≤ length (bytes ++ more)) [
            | inl lt ↦
                subst (λ (sizes : ℕ × ℕ). sizes.1 ≤ length (bytes ++ more))
                (sym (get_or_past (pushed bytes synced past) k (now, length (bytes ++ more))
                (omega (arith, lt, length_push past (synced, length bytes))))) (omega arith)
            | inr before ↦
                rw (push_at past (synced, length bytes) (now, length (bytes ++ more)) k before) (omega (arith, h.grew k, long))
          ];
    }

always_on_ok : {T E : Type 0} (result : Result T E) (P : Type 0) → P → OnOk result P
always_on_ok (Ok x) P p = p
always_on_ok (Err e) P p = tt

always_on_err : {T E : Type 0} (result : Result T E) (P : Type 0) → P → OnErr result P
always_on_err (Ok x) P p = tt
always_on_err (Err e) P p = p

-- an append, whose call may end as it likes
all_appended : {T E : Type 0} (result : Result T E) (bytes more : List ℕ) (synced : ℕ)
    (past : List (ℕ × ℕ)) → length (bytes ++ more) ≤ 2 ^ 63 - 1 → IsFileInMemory bytes synced past
    → GrowsHonestly more result (file_state bytes synced past)
    (file_state (bytes ++ more) synced (pushed bytes synced past))
all_appended result bytes more synced past limit h = record {
  honest = recorded_honestly bytes more synced synced past h
      (omega (arith, h.within, length-append bytes more)) limit;
  ok = always_on_ok result (bytes ++ more ≡ bytes ++ more) refl;
  err = always_on_err result ((n : ℕ) × (bytes ++ more ≡ bytes ++ take n more)) (
    length more,
    ap (λ (xs : List ℕ). bytes ++ xs) (sym (take_all (length more) more (omega arith))),
  );
  synced = refl;
  time = recorded (MayBeLeft synced (bytes ++ more)) bytes more synced synced past h
      (λ left m. m);
}

-- an append that found no memory behind its entry
none_appended : {T E : Type 0} (result : Result T E) (Q : E → Type 0) (bytes more : List ℕ)
    (synced : ℕ) (past : List (ℕ × ℕ)) → IsErrAnd result Q → IsFileInMemory bytes synced past
    → GrowsHonestly more result (file_state bytes synced past)
    (file_state (bytes ++ []) synced (pushed bytes synced past))
none_appended (Ok x) Q bytes more synced past failed h = absurd failed
none_appended (Err e) Q bytes more synced past failed h = record {
  honest = recorded_honestly bytes [] synced synced past h
      (omega (arith, h.within, length-append bytes [])) (omega (arith, h.limit, length-append bytes []));
  ok = tt;
  err = (0, refl);
  synced = refl;
  time = recorded (MayBeLeft synced (bytes ++ more)) bytes [] synced synced past h
      (λ left m.
      longer_left synced bytes more left h.within
      (subst (λ (xs : List ℕ). MayBeLeft synced xs left) (append-nil bytes) m));
}

all_synced : {T E : Type 0} (result : Result T E) (bytes : List ℕ) (synced : ℕ)
    (past : List (ℕ × ℕ)) → IsFileInMemory bytes synced past
    → SyncsHonestly result (file_state bytes synced past)
    (file_state (bytes ++ []) (length bytes) (pushed bytes synced past))
all_synced result bytes synced past h =
    let long = length-append bytes [] in
    let honest : IsFileInMemory (bytes ++ []) (length bytes) (pushed bytes synced past) =
    recorded_honestly bytes [] synced (length bytes) past h
    (omega (arith, long)) (omega (arith, h.limit, long)) in
    record {
      honest = always_on_ok result (IsFileInMemory (bytes ++ []) (length bytes) (pushed bytes synced past)) honest;
      seen = append-nil bytes;
      ok = always_on_ok result (length bytes ≡ length bytes) refl;
      time = recorded (MayBeLeft synced bytes) bytes [] synced (length bytes) past h
          (λ left m.
          unsynced_left synced bytes left h.within
          (subst (λ (xs : List ℕ). MayBeLeft (length bytes) xs left) (append-nil bytes) m));
    }

-- the past, as a call leaves it that has noted the size
past_is : (bytes : List ℕ) (synced size : ℕ) (past later : List (ℕ × ℕ)) → size ≡ length bytes
    → later ≡ past ++ (synced, size) ∷ [] → pushed bytes synced past ≡ later
past_is bytes synced size past later is by =
    ap (λ (n : ℕ). past ++ (synced, n) ∷ []) (sym is) ∙ sym by

pub appended : {T E : Type 0} (result : Result T E) (bytes more longer : List ℕ) (synced size : ℕ)
    (past later : List (ℕ × ℕ)) → size ≡ length bytes → later ≡ past ++ (synced, size) ∷ []
    → longer ≡ bytes ++ more → size + length more ≤ 2 ^ 63 - 1 → IsFileInMemory bytes synced past
    → GrowsHonestly more result (file_state bytes synced past) (file_state longer synced later)
appended result bytes more longer synced size past later is by grown limit h =
    let small : length (bytes ++ more) ≤ 2 ^ 63 - 1 =
    omega (arith, limit, is, length-append bytes more) in
    subst
    (λ (xs : List ℕ). GrowsHonestly more result (file_state bytes synced past)
    (file_state xs synced later))
    (sym grown)
    (subst
    (λ (xs : List (ℕ × ℕ)). GrowsHonestly more result (file_state bytes synced past)
    (file_state (bytes ++ more) synced xs))
    (past_is bytes synced size past later is by)
    (all_appended result bytes more synced past small h))

pub unappended : {T E : Type 0} (result : Result T E) (Q : E → Type 0)
    (bytes more same : List ℕ) (synced size : ℕ) (past later : List (ℕ × ℕ)) → IsErrAnd result Q
    → size ≡ length bytes → later ≡ past ++ (synced, size) ∷ [] → same ≡ bytes
    → IsFileInMemory bytes synced past
    → GrowsHonestly more result (file_state bytes synced past) (file_state same synced later)
unappended result Q bytes more same synced size past later failed is by stays h =
    subst
    (λ (xs : List ℕ). GrowsHonestly more result (file_state bytes synced past)
    (file_state xs synced later))
    (append-nil bytes ∙ sym stays)
    (subst
    (λ (xs : List (ℕ × ℕ)). GrowsHonestly more result (file_state bytes synced past)
    (file_state (bytes ++ []) synced xs))
    (past_is bytes synced size past later is by)
    (none_appended result Q bytes more synced past failed h))

pub synced_now : {T E : Type 0} (result : Result T E) (bytes : List ℕ) (synced size : ℕ)
    (past later : List (ℕ × ℕ)) → size ≡ length bytes → later ≡ past ++ (synced, size) ∷ []
    → IsFileInMemory bytes synced past
    → SyncsHonestly result (file_state bytes synced past) (file_state bytes size later)
synced_now result bytes synced size past later is by h =
    subst
    (λ (xs : List ℕ). SyncsHonestly result (file_state bytes synced past)
    (file_state xs size later))
    (append-nil bytes)
    (subst
    (λ (n : ℕ). SyncsHonestly result (file_state bytes synced past)
    (file_state (bytes ++ []) n later))
    (sym is)
    (subst
    (λ (xs : List (ℕ × ℕ)). SyncsHonestly result (file_state bytes synced past)
    (file_state (bytes ++ []) (length bytes) xs))
    (past_is bytes synced size past later is by)
    (all_synced result bytes synced past h)))
