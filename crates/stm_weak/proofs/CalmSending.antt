-- A calm frame is sent to a device that waits for a command.
use Rattle.std.proofs.Common.{◌≡◌, inl, inr, ℕ, ◌<◌, List, [], ◌∷◌, ◌++◌, drop, Option, Some, refl}
use Rattle.std.proofs.Common.{sym, ◌∙◌, ap, subst, append_assoc}
use Rattle.stm_wire.specs.declared.verdict.Verdict.{Verdict}
use Rattle.stm_wire.specs.declared.verdict.Verdict.TheVariants.{Done, Refused}
use Rattle.stm_wire.proofs.Names.{ChipData, Connected, Device, Phase, Receives, Takes, verdict}
use Rattle.stm_weak.specs.WeakDevice.{WeakDevice, WeakFeeds}
use Rattle.stm_weak.specs.WeakRuns.{Feed, HasNoReset, IsNow, IsUnread, Reset, Take, WeakBefall}
use Rattle.stm_weak.specs.WeakRuns.{AreFedBytes, WeakHappening, fed_bytes}
use Rattle.stm_weak.proofs.Calm.{calm_nothing}
use Rattle.stm_weak.proofs.CalmDevices.{IsCalm, IsCalmIn, calm_unread}
use Rattle.stm_weak.proofs.CalmFrames.{IsCalmAlong, IsCalmFrame, IsEnd}
use Rattle.stm_weak.proofs.Unread.{Has, IsOpenTo, has_fed}

-- the whole list ended
has_ended : (chip : ChipData) (codes done : List ℕ) (byte : ℕ) (w mid : WeakDevice)
    → Has chip codes done w → WeakFeeds byte w mid → IsEnd chip codes (done ++ byte ∷ [])
    → Has chip codes [] mid
has_ended chip codes done byte w mid has feeds ends =
    let now = feeds.now in
    let bytes = done ++ byte ∷ [] in
    let P : Phase → Type 0 = λ p. Receives now p byte mid.device in
    let chip_is : now.chip ≡ chip = feeds.can_be.chip ∙ has.same_chip in
    let codes_is : now.codes ≡ codes = feeds.can_be.codes ∙ has.same_codes in
    let to : verdict now.chip now.codes bytes ≡ verdict chip codes bytes =
    ap (λ c. verdict c now.codes bytes) chip_is ∙ ap (λ k. verdict chip k bytes) codes_is in
    let takes : Takes now bytes (verdict now.chip now.codes bytes) mid.device =
    subst P (feeds.can_be.phase ∙ has.same_phase) feeds.feeds.receives in
    by chip_is codes_is to takes ends
  where
    by : feeds.now.chip ≡ chip → feeds.now.codes ≡ codes
        → verdict feeds.now.chip feeds.now.codes (done ++ byte ∷ [])
        ≡ verdict chip codes (done ++ byte ∷ [])
        → Takes feeds.now (done ++ byte ∷ [])
        (verdict feeds.now.chip feeds.now.codes (done ++ byte ∷ [])) mid.device
        → IsEnd chip codes (done ++ byte ∷ []) → Has chip codes [] mid
    by chip_is codes_is to takes (inl (is, after)) =
        let Q : Option Verdict → Type 0 =
        λ v. Takes feeds.now (done ++ byte ∷ []) v mid.device in
        let t : Takes feeds.now (done ++ byte ∷ []) (Some Done) mid.device =
        subst Q (to ∙ is) takes in
        record {
          same_chip = ap (λ (d : Device). d.chip) t.2 ∙ chip_is;
          same_codes = ap (λ (d : Device). d.codes) t.2 ∙ codes_is;
          same_phase = ap (λ (d : Device). d.phase) t.2 ∙ after;
        }
    by chip_is codes_is to takes (inr is) =
        let Q : Option Verdict → Type 0 =
        λ v. Takes feeds.now (done ++ byte ∷ []) v mid.device in
        let t : Takes feeds.now (done ++ byte ∷ []) (Some Refused) mid.device =
        subst Q (to ∙ is) takes in
        record {
          same_chip = ap (λ (d : Device). d.chip) t ∙ chip_is;
          same_codes = ap (λ (d : Device). d.codes) t ∙ codes_is;
          same_phase = ap (λ (d : Device). d.phase) t;
        }

-- it has what came, or waits behind the whole list
abbrev IsAt : ChipData → List ℕ → List ℕ → List ℕ → WeakDevice → Type 0
IsAt chip codes done [] w = Has chip codes [] w
IsAt chip codes done (byte ∷ more) w = Has chip codes done w

at_now : (chip : ChipData) (codes done : List ℕ) (k : ℕ) (w mid : WeakDevice)
    → IsNow (record w.device { owed = drop k w.device.owed }) w mid → Has chip codes done w
    → Has chip codes done mid
at_now chip codes done k w mid now has = record {
  same_chip = ap (λ (d : Device). d.chip) now.device ∙ has.same_chip;
  same_codes = ap (λ (d : Device). d.codes) now.device ∙ has.same_codes;
  same_phase = ap (λ (d : Device). d.phase) now.device ∙ has.same_phase;
}

at_taken : (chip : ChipData) (codes done rest : List ℕ) (k : ℕ) (w mid : WeakDevice)
    → IsNow (record w.device { owed = drop k w.device.owed }) w mid → IsAt chip codes done rest w
    → IsAt chip codes done rest mid
at_taken chip codes done [] k w mid now has = at_now chip codes [] k w mid now has
at_taken chip codes done (byte ∷ more) k w mid now has = at_now chip codes done k w mid now has

-- what it is then, for this byte, and where that was the whole frame
pub record IsLeft (byte : ℕ) (more : List ℕ) (new : WeakDevice) : Type 0 where
  pub calm : IsCalm byte new
  pub waits : more ≡ [] → new.device.phase ≡ Connected []

calm_here : (chip : ChipData) (codes rest : List ℕ) (byte : ℕ) (w : WeakDevice)
    → Has chip codes rest w → IsCalmIn chip codes byte (Connected rest) → IsCalm byte w
calm_here chip codes rest byte w has calm =
    let P : Phase → Type 0 = λ p. IsCalmIn chip codes byte p in
    let Q : List ℕ → Type 0 = λ k. IsCalmIn chip k byte w.device.phase in
    let S : ChipData → Type 0 = λ c. IsCalmIn c w.device.codes byte w.device.phase in
    subst S (sym has.same_chip) (subst Q (sym has.same_codes)
    (subst P (sym has.same_phase) calm))

left_at : (chip : ChipData) (codes done more : List ℕ) (byte : ℕ) (w new : WeakDevice) → new ≡ w
    → IsAt chip codes done more w → IsCalmAlong chip codes byte done more → IsLeft byte more new
left_at chip codes done more byte w new e has along =
    subst (IsLeft byte more) (sym e) (by more has along)
  where
    by : (rest : List ℕ) → IsAt chip codes done rest w → IsCalmAlong chip codes byte done rest
        → IsLeft byte rest w
    by [] has along = record {
      calm = calm_here chip codes [] byte w has (calm_nothing chip codes byte);
      waits = λ e. has.same_phase;
    }
    by (next ∷ rest) has along = record {
      calm = calm_here chip codes done byte w has along.0;
      waits = λ e. absurd (let h : next ∷ rest ≡ [] = e in cc);
    }

at_next : (chip : ChipData) (codes whole done : List ℕ) (own : ℕ) (after : List ℕ)
    (w mid : WeakDevice) → Has chip codes done w → WeakFeeds own w mid
    → IsOpenTo chip codes done (own ∷ after) → done ++ own ∷ after ≡ whole
    → IsEnd chip codes whole → IsAt chip codes (done ++ own ∷ []) after mid
at_next chip codes whole done own [] w mid here feeds open_on whole_is ends =
    let E : List ℕ → Type 0 = λ xs. IsEnd chip codes xs in
    has_ended chip codes done own w mid here feeds (subst E (sym whole_is) ends)
at_next chip codes whole done own (x ∷ xs) w mid here feeds open_on whole_is ends =
    has_fed chip codes done own w mid here feeds open_on.0

open_next : (chip : ChipData) (codes done : List ℕ) (own : ℕ) (after : List ℕ)
    → IsOpenTo chip codes done (own ∷ after) → IsOpenTo chip codes (done ++ own ∷ []) after
open_next chip codes done own [] open_on = tt
open_next chip codes done own (x ∷ xs) open_on = open_on.1

at_first : (chip : ChipData) (codes rest : List ℕ) (w : WeakDevice) → Has chip codes [] w
    → IsAt chip codes [] rest w
at_first chip codes [] w has = has
at_first chip codes (x ∷ xs) w has = has

pub begun_left : (chip : ChipData) (codes whole : List ℕ) (byte : ℕ)
    (happenings : List WeakHappening) (w new : WeakDevice) (done rest more : List ℕ)
    → IsEnd chip codes whole → HasNoReset happenings → rest ≡ fed_bytes happenings ++ more
    → done ++ rest ≡ whole → IsAt chip codes done rest w → IsOpenTo chip codes done rest
    → IsCalmAlong chip codes byte done rest → WeakBefall happenings w new
    → IsLeft byte more new
begun_left chip codes whole byte [] w new done rest more ends no_reset is frame has waits along
    led =
    let P : List ℕ → Type 0 = λ xs. IsAt chip codes done xs w in
    let Q : List ℕ → Type 0 = λ xs. IsCalmAlong chip codes byte done xs in
    left_at chip codes done more byte w new led (subst P is has) (subst Q is along)
begun_left chip codes whole byte (Reset ∷ happenings) w new done rest more ends no_reset is frame
    has waits along led = absurd no_reset
begun_left chip codes whole byte (Take k ∷ happenings) w new done rest more ends no_reset is frame
    has waits along (mid, now, led) =
    begun_left chip codes whole byte happenings mid new done rest more ends no_reset is frame
    (at_taken chip codes done rest k w mid now has) waits along led
begun_left chip codes whole byte (Feed own ∷ happenings) w new done rest more ends no_reset is
    frame has waits along (mid, feeds, led) =
    let after = fed_bytes happenings ++ more in
    let H : List ℕ → Type 0 = λ xs. IsAt chip codes done xs w in
    let O : List ℕ → Type 0 = λ xs. IsOpenTo chip codes done xs in
    let Q : List ℕ → Type 0 = λ xs. IsCalmAlong chip codes byte done xs in
    let F : List ℕ → Type 0 = λ xs. done ++ xs ≡ whole in
    let here : Has chip codes done w = subst H is has in
    let next = done ++ own ∷ [] in
    begun_left chip codes whole byte happenings mid new next after more ends no_reset refl
    (append_assoc done (own ∷ []) after ∙ subst F is frame)
    (at_next chip codes whole done own after w mid here feeds (subst O is waits)
    (subst F is frame) ends)
    (open_next chip codes done own after (subst O is waits)) (subst Q is along).1 led

-- A beginning of a calm frame is sent to a device that waits.
pub frame_left : (chip : ChipData) (codes frame : List ℕ) (byte : ℕ)
    (happenings : List WeakHappening) (w new : WeakDevice) (more : List ℕ)
    → IsCalmFrame chip codes frame → byte < 256 → HasNoReset happenings
    → fed_bytes happenings ++ more ≡ frame → Has chip codes [] w → WeakBefall happenings w new
    → IsLeft byte more new
frame_left chip codes frame byte happenings w new more calm small no_reset is has led =
    begun_left chip codes frame byte happenings w new [] frame more calm.ends no_reset (sym is)
    refl (at_first chip codes frame w has) calm.waits (calm.calm byte small) led

-- Where all bytes are calm, what is sent of it is unread.
unread_along : (chip : ChipData) (codes whole : List ℕ) (happenings : List WeakHappening)
    (w new : WeakDevice) (done rest more : List ℕ) → IsEnd chip codes whole → HasNoReset happenings
    → AreFedBytes happenings → rest ≡ fed_bytes happenings ++ more → done ++ rest ≡ whole
    → IsAt chip codes done rest w → IsOpenTo chip codes done rest
    → ((byte : ℕ) → byte < 256 → IsCalmAlong chip codes byte done rest)
    → (led : WeakBefall happenings w new) → IsUnread happenings w new led
unread_along chip codes whole [] w new done rest more ends no_reset small is frame has waits along
    led = tt
unread_along chip codes whole (Reset ∷ happenings) w new done rest more ends no_reset small is frame
    has waits along led = absurd no_reset
unread_along chip codes whole (Take k ∷ happenings) w new done rest more ends no_reset small is
    frame has waits along (mid, now, led) =
    unread_along chip codes whole happenings mid new done rest more ends no_reset small is frame
    (at_taken chip codes done rest k w mid now has) waits along led
unread_along chip codes whole (Feed own ∷ happenings) w new done rest more ends no_reset small is
    frame has waits along (mid, feeds, led) =
    let after = fed_bytes happenings ++ more in
    let H : List ℕ → Type 0 = λ xs. IsAt chip codes done xs w in
    let O : List ℕ → Type 0 = λ xs. IsOpenTo chip codes done xs in
    let Q : List ℕ → Type 0 =
    λ xs. (byte : ℕ) → byte < 256 → IsCalmAlong chip codes byte done xs in
    let F : List ℕ → Type 0 = λ xs. done ++ xs ≡ whole in
    let here : Has chip codes done w = subst H is has in
    let calm : (byte : ℕ) → byte < 256 → IsCalmAlong chip codes byte done (own ∷ after) =
    subst Q is along in (
      calm_unread own w (calm_here chip codes done own w here (calm own small.0).0),
      unread_along chip codes whole happenings mid new (done ++ own ∷ []) after more ends no_reset
          small.1 refl (append_assoc done (own ∷ []) after ∙ subst F is frame)
          (at_next chip codes whole done own after w mid here feeds (subst O is waits)
          (subst F is frame) ends)
          (open_next chip codes done own after (subst O is waits))
          (λ byte lt. (calm byte lt).1) led,
    )

pub calm_frame_unread : (chip : ChipData) (codes frame : List ℕ) (happenings : List WeakHappening)
    (w new : WeakDevice) (more : List ℕ) → IsCalmFrame chip codes frame → HasNoReset happenings
    → AreFedBytes happenings → fed_bytes happenings ++ more ≡ frame → Has chip codes [] w
    → (led : WeakBefall happenings w new) → IsUnread happenings w new led
calm_frame_unread chip codes frame happenings w new more calm no_reset small is has led =
    unread_along chip codes frame happenings w new [] frame more calm.ends no_reset small (sym is)
    refl (at_first chip codes frame w has) calm.waits calm.calm led
