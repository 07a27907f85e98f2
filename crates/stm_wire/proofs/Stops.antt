-- A frame that is open all along and done at its last byte: what a stop at any of its bytes leaves.
use Rattle.std.proofs.Common.{◌≡◌, ⊎_elim, ℕ, zero, suc, ◌+◌, ◌<◌, ◌≤◌, List, [], ◌∷◌, ◌++◌, length, take, Some, refl, sym, ap, ap₂, ◌∙◌, subst, arith, append_assoc}
use Rattle.std.proofs.lemmas.Bool.{cases_lt}
use Rattle.std.proofs.lemmas.List.{append-nil, take-append-le, take_all, length-append, length-take, length-drop}
use Rattle.stm_wire.proofs.Names.{ack, answer, change_of, ChipData, Connected, Device, Fed, Feeds, IsDevice, IsOpen, IsRefusedIn, IsSettled, IsStoppedSafely, PartlyFed, Phase, phase_after}
use Rattle.stm_wire.proofs.Names.{SameOutside, step_reply, verdict, with_rest}
use Rattle.stm_wire.specs.declared.verdict.Verdict.TheVariants.{Done}
use Rattle.stm_wire.proofs.Flash.{same_flash, effect_within}
use Rattle.stm_wire.proofs.Mild.{Fits, FitsAll, Mild, Tame, harmless, mild_empty}
use Rattle.stm_wire.proofs.Closed.{awaits_loses, harmless_loses}
use Rattle.stm_wire.proofs.Awaited.{step_small}
use Rattle.stm_wire.proofs.Bound.{IsCounted}
use Rattle.stm_wire.proofs.Enough.{Enough, empty_enough, opened}
use Rattle.stm_wire.proofs.Feeding.{Fed-split}
use Rattle.stm_wire.proofs.Steps.{OpenAlong, IsDone, replies_along, fed-along, feeds-done}

pub along-append : (chip : ChipData) (codes rest xs ys : List ℕ) → OpenAlong chip codes rest xs → OpenAlong chip codes (rest ++ xs) ys → OpenAlong chip codes rest (xs ++ ys)
along-append chip codes rest [] ys a b = subst (λ (r : List ℕ). OpenAlong chip codes r ys) (append-nil rest) b
along-append chip codes rest (x ∷ xs) ys a b =
    (a.0, along-append chip codes (rest ++ x ∷ []) xs ys a.1 (subst (λ (r : List ℕ). OpenAlong chip codes r ys) (sym (append_assoc rest (x ∷ []) xs)) b))

pub along-take : (chip : ChipData) (codes rest xs : List ℕ) (n : ℕ) → OpenAlong chip codes rest xs → OpenAlong chip codes rest (take n xs)
along-take chip codes rest xs zero a = tt
along-take chip codes rest [] (suc n) a = tt
along-take chip codes rest (x ∷ xs) (suc n) a = (a.0, along-take chip codes (rest ++ x ∷ []) xs n a.1)

pub replies-few : (rest bytes : List ℕ) → length (replies_along rest bytes) ≤ length bytes
replies-few rest [] = omega arith
replies-few rest (x ∷ bytes) =
    let first = step_reply (rest ++ x ∷ []) in
    let more = replies_along (rest ++ x ∷ []) bytes in
    omega (arith, length-append first more, step_small (rest ++ x ∷ []), replies-few (rest ++ x ∷ []) bytes)

-- so many settling bytes are enough behind any beginning of a frame whose counts are bytes
pub record Suffices (d : Device) (byte most : ℕ) (frame : List ℕ) : Type 0 where
  pub counted : (n : ℕ) → IsCounted (take n frame)
  pub enough : Enough d.chip d.codes byte most frame

-- of which all but the last byte is open
pub suffices_along : (d : Device) (byte most : ℕ) (body : List ℕ) (last : ℕ) → OpenAlong d.chip d.codes [] body → Suffices d byte most (body ++ last ∷ []) → (n : ℕ) → n ≤ length body
    → IsRefusedIn d.chip d.codes byte most (take n body)
suffices_along d byte most body last along s n le =
    let same = take-append-le n body (last ∷ []) le in
    let open' : IsOpen d.chip d.codes (take n body) = opened d.chip d.codes (take n body) (along-take d.chip d.codes [] body n along) in
    subst (IsRefusedIn d.chip d.codes byte most) same (s.enough n (s.counted n) (subst (IsOpen d.chip d.codes) (sym same) open'))

-- open along its body, done at its last byte
pub record IsWhole (d : Device) (body : List ℕ) (last : ℕ) : Type 0 where
  pub along : OpenAlong d.chip d.codes [] body
  pub done : verdict d.chip d.codes (body ++ last ∷ []) ≡ Some Done
  pub few : length body + (1 + length (answer d.chip d.version d.codes d.flash (body ++ last ∷ []))) ≤ 4096

-- a stop in a step that is open along its body
module _ (old : Device) (body : List ℕ) (last : ℕ) (is : IsDevice old) (settled : IsSettled old) (along : OpenAlong old.chip old.codes [] body) where
  here : old ≡ with_rest [] old
  here = ap₂ (λ (p : Phase) (xs : List ℕ). let r : Device = record old { owed = xs; phase = p } in r) settled.phase settled.owed

  -- within it
  pub within : (n : ℕ) (mid : Device) → n ≤ length body → Fed (take n (body ++ last ∷ [])) old mid
      → mid ≡ record old { owed = replies_along [] (take n body); phase = Connected (take n body) }
  within n mid le f =
      let same = take-append-le n body (last ∷ []) le in
      let g : Fed (take n body) old mid = subst (λ (xs : List ℕ). Fed xs old mid) same f in
      fed-along (take n body) [] [] old mid (along-take old.chip old.codes [] body n along) (subst (λ (x : Device). Fed (take n body) x mid) here g)

  -- its last byte
  pub before_last : (mid : Device) → Fed (body ++ last ∷ []) old mid → Feeds last (record old { owed = replies_along [] body; phase = Connected body }) mid
  before_last mid f =
      let parts = Fed-split body (last ∷ []) old mid f in
      let first = fed-along body [] [] old parts.0 along (subst (λ (x : Device). Fed body x parts.0) here parts.1) in
      let one : Feeds last parts.0 mid = subst (λ (x : Device). Feeds last parts.0 x) (sym parts.2.2) parts.2.1 in
      subst (λ (x : Device). Feeds last x mid) first one

  module _ (byte most : ℕ) (pages : List ℕ) (short : length body ≤ 4096) (mild : (j : ℕ) → Mild old.chip old.codes byte pages (take j (body ++ last ∷ []))) (enough : Suffices old byte most (body ++ last ∷ [])) where
    within_safely : (n : ℕ) (mid : Device) → n ≤ length body → Fed (take n (body ++ last ∷ [])) old mid → IsStoppedSafely old byte most pages mid
    within_safely n mid le f =
        let next : Device = record old { owed = replies_along [] (take n body); phase = Connected (take n body) } in
        let m : Mild old.chip old.codes byte pages (take n body) = subst (Mild old.chip old.codes byte pages) (take-append-le n body (last ∷ []) le) (mild n) in
        subst (IsStoppedSafely old byte most pages) (sym (within n mid le f)) (record {
          same_chip = refl;
          same_version = refl;
          same_codes = refl;
          harmless = harmless byte pages next is.size m;
          awaits = suffices_along old byte most body last along enough n le;
          flash = same_flash old.chip pages old.flash old.flash refl;
          owed = omega (arith, replies-few [] (take n body), length-take n body, short);
        })

    -- what its last byte leaves is given
    pub stopped_from : ((mid : Device) → Fed (body ++ last ∷ []) old mid → IsStoppedSafely old byte most pages mid) → (d : Device) → PartlyFed (body ++ last ∷ []) old d → IsStoppedSafely old byte most pages d
    stopped_from done d (n, (mid, f, (k, e))) =
        let s : IsStoppedSafely old byte most pages mid = ⊎_elim
        (λ (lt : n < length body + 1). within_safely n mid (omega arith) f)
        (λ (ge : length body + 1 ≤ n). done mid (subst (λ (xs : List ℕ). Fed xs old mid) (take_all n (body ++ last ∷ []) (omega (arith, length-append body (last ∷ [])))) f))
        (cases_lt n (length body + 1)) in
        record {
          same_chip = ap (λ (x : Device). x.chip) e ∙ s.same_chip;
          same_version = ap (λ (x : Device). x.version) e ∙ s.same_version;
          same_codes = ap (λ (x : Device). x.codes) e ∙ s.same_codes;
          harmless = harmless_loses byte pages mid d s.harmless (k, e);
          awaits = awaits_loses byte most mid d (k, e) s.awaits;
          flash = subst (λ (x : Device). SameOutside old.chip pages old.flash x.flash) (sym e) s.flash;
          owed = (let l = ap (λ (x : Device). length x.owed) e in let few = s.owed in let m = length-drop k mid.owed in omega arith);
        }

-- and in one that is done at its end
module _ (old : Device) (body : List ℕ) (last : ℕ) (is : IsDevice old) (settled : IsSettled old) (whole : IsWhole old body last) where
  pub at_end : (mid : Device) → Fed (body ++ last ∷ []) old mid → IsDone (record old { owed = replies_along [] body; phase = Connected body }) (body ++ last ∷ []) mid
  at_end mid f = feeds-done last body (record old { owed = replies_along [] body; phase = Connected body }) mid refl whole.done (before_last old body last is settled whole.along mid f)

  module _ (byte : ℕ) (pages : List ℕ) (mild : (j : ℕ) → Mild old.chip old.codes byte pages (take j (body ++ last ∷ []))) where
    pub fits : Fits old.chip pages (body ++ last ∷ []) (Some Done)
    fits =
        let frame = body ++ last ∷ [] in
        let m : FitsAll old.chip old.codes pages (take (length frame) frame ++ []) = mild (length frame) zero in
        let same : take (length frame) frame ++ [] ≡ frame = append-nil (take (length frame) frame) ∙ take_all (length frame) frame (omega arith) in
        subst (Fits old.chip pages frame) whole.done (subst (FitsAll old.chip old.codes pages) same m)

  module _ (byte most : ℕ) (pages : List ℕ) (two : 2 ≤ most) (mild : (j : ℕ) → Mild old.chip old.codes byte pages (take j (body ++ last ∷ []))) (enough : Suffices old byte most (body ++ last ∷ [])) where
    done_safely : (mid : Device) → Fed (body ++ last ∷ []) old mid → IsStoppedSafely old byte most pages mid
    done_safely mid f =
        let frame = body ++ last ∷ [] in
        let done = at_end mid f in
        let reply = ack ∷ answer old.chip old.version old.codes old.flash frame in
        let next : Device = record old { flash = done.0; owed = replies_along [] body ++ reply; phase = phase_after frame } in
        let fitting = fits byte pages mild in
        let changed = effect_within old.chip pages (change_of frame) old.flash done.0 is.size fitting.1 done.1 in
        subst (IsStoppedSafely old byte most pages) (sym done.2) (record {
          same_chip = refl;
          same_version = refl;
          same_codes = refl;
          harmless = harmless byte pages next (changed.same_length ∙ is.size) (subst (Tame old.chip old.codes byte pages) (sym fitting.0) (mild_empty old.chip old.codes byte pages));
          awaits = empty_enough next byte most two fitting.0;
          flash = changed;
          owed = omega (arith, replies-few [] body, length-append (replies_along [] body) reply, whole.few);
        })

    pub stopped_safely : (d : Device) → PartlyFed (body ++ last ∷ []) old d → IsStoppedSafely old byte most pages d
    stopped_safely d fed = stopped_from old body last is settled whole.along byte most pages (omega (arith, whole.few)) mild enough done_safely d fed
