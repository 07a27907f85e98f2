-- Calls after which nothing is promised of the device.
use Rattle.std.proofs.Common.{◌≡◌, ℕ, ⊎_elim, inl, inr, List, ◌++◌, length, Option, None, Result, Ok, Err, IsErrAnd, IfErr, IsTrue, refl, sym, ◌∙◌, ap, subst}
use Rattle.std.proofs.Math.Seq.{take-length}
use Rattle.stm_wire.specs.declared.fault.WireFault.{WireFault}
use Rattle.stm_wire.specs.declared.fault.WireFault.TheVariants.{Line}
use Rattle.stm_wire.proofs.Names.{Adds, BreaksOff, Call, calls_of, CanGo, CanProtect, ChipData, Device, EndsSettled, FedAndTaken, GoesOn, is_inside, is_listed, IsHeldToEnd, LeavesOnly, LeftBySending}
use Rattle.stm_wire.proofs.Names.{LossStaysHarmless, PartlyFed, RigState, SettlesWithin, Turn}
use Rattle.stm_wire.specs.lemmas.MomentLaws.{joined, weaker}
use Rattle.stm_wire.specs.lemmas.DialogueLaws.{GoesOn-adds, GoesOn-append}
use Rattle.stm_journal.proofs.Names.{AreFetches}
use Rattle.stm_session.proofs.Names.{BeginsNothing, CanLeave, Cause, cause_of, Fault, fault_of, IsJournalOrMemory, IsOfLine, IsOfTalking, IsOutsideFault, IsSafe, IsSettledSame, IsSettledThen}
use Rattle.stm_session.proofs.Names.{IsUnbegun, IsUnheard, Leaves, LeftByFrame, LeftByLeaving, LoadsUnless, of_line, of_protocol}
use Rattle.stm_session.proofs.Asking.{line_outside}
use Rattle.stm_session.proofs.Orders.{GoesOn-both}
use Rattle.stm_session.proofs.Openings.{left_by_loading, moments_of_asking, moments_of_loading, refused_nothing, unsent_outside, untouched_is_unbegun}
use Rattle.stm_session.proofs.Unbegun.{further}

-- the journal was read, the device settled, and then came a dialogue
pub settled_then : (turns : List Turn) (a b c d : Option (List Call)) → GoesOn AreFetches a b → GoesOn (SettlesWithin 0x7F 131072) b c → GoesOn (EndsSettled 0x7F 131072) b c → Adds (calls_of turns) c d
    → GoesOn (IsSettledThen turns) a d
settled_then turns a b c d fetched settles settled said =
    GoesOn-append AreFetches Then (IsSettledThen turns) a b d fetched
    (GoesOn-append Both (λ xs. xs ≡ calls_of turns) Then b c d (GoesOn-both (SettlesWithin 0x7F 131072) (EndsSettled 0x7F 131072) b c settles settled)
    (GoesOn-adds (λ xs. xs ≡ calls_of turns) (calls_of turns) c d said refl) (λ xs ys x y. (xs, ap (λ (l : List Call). xs ++ l) y, x)))
    (λ fetches rest are x. record { fetches = fetches; are_fetches = are; settling = x.0; settles = x.2.0; settled = x.2.1; is = ap (λ (l : List Call). fetches ++ l) x.1 })
  where
    Both : List Call → Type 0
    Both xs = SettlesWithin 0x7F 131072 xs × EndsSettled 0x7F 131072 xs

    Then : List Call → Type 0
    Then xs = (settling : List Call) × (xs ≡ settling ++ calls_of turns) × Both settling

-- a fault of talking to a device is none of the journal or of memory
heard_or_not : (cause : Cause) → IsOfTalking cause → IsUnheard cause → ⊥
heard_or_not of_line heard unheard = unheard
heard_or_not of_protocol heard unheard = unheard
heard_or_not cause heard unheard = heard

line_used : (e : Fault) → IsOfLine e → IsJournalOrMemory e → ⊥
line_used e line unsent = heard_or_not (cause_of e) line unsent

pub frame_used : (e : WireFault) → IsOfLine (fault_of e)
frame_used Line = tt
frame_used e = tt

-- nothing was sent, since the journal couldn't be read
module _ (lost : LossStaysHarmless) (frame : List ℕ) (refusal : Option Fault) (old mid : RigState) (safe : IsSafe old.device) where
  pub leaves_unread : {T U : Type 0} (e : Fault) (result : Result U Fault) → LoadsUnless {T = T} refusal old mid (Err e) → IsErrAnd result (λ x. x ≡ e) → Leaves frame old mid result
  leaves_unread e (Ok x) loads is = absurd is
  leaves_unread e (Err x) loads is =
      record {
        moments = weaker (IsUnbegun old) (LeftByLeaving frame old) old mid (moments_of_loading lost old mid safe refusal (Err e) loads) (λ d journal u. inl u);
        honest = loads.honest;
        left = inl (untouched_is_unbegun lost old safe mid.device mid.journal loads.left);
        unsent = λ of. loads.left;
        fed = tt;
      }

  -- the journal was read
  module _ (loads : LoadsUnless {T = Unit {0}} refusal old mid (Ok tt)) where
    pub safe_then : IsSafe mid.device
    safe_then = subst (λ (d : Device). IsSafe d) (sym loads.same) safe

    -- the device couldn't be settled
    pub leaves_unsettled : {T U : Type 0} {Done : T → Type 0} (new : RigState) (e : Fault) (result : Result U Fault) → BeginsNothing mid new (Err e) Done → IsOfLine e → IsErrAnd result (λ x. x ≡ e)
        → Leaves frame old new result
    leaves_unsettled new e (Ok x) begins of is = absurd is
    leaves_unsettled new e (Err x) begins of is =
        record {
          moments = weaker (IsUnbegun old) (LeftByLeaving frame old) old new (moments_of_asking lost old mid safe refusal new (tt {0}) (Err e) loads begins) (λ d journal u. inl u);
          honest = begins.honest;
          left = inl (further old mid (left_by_loading lost old mid safe refusal (tt {0}) loads) new.device new.journal begins.left);
          unsent = λ said. absurd (line_used e of (let P : Fault → Type 0 = λ y. IsJournalOrMemory y in subst P is said));
          fed = tt;
        }

    -- the device was settled
    module _ {Done : Unit {0} → Type 0} (settled : RigState) (begins : BeginsNothing mid settled (Ok tt) Done) where
      unbegun : IsUnbegun old settled.device settled.journal
      unbegun = further old mid (left_by_loading lost old mid safe refusal (tt {0}) loads) settled.device settled.journal begins.left

      reached : IsSettledSame old.device settled.device
      reached = record { settled = begins.settled; make = unbegun.make; flash = unbegun.flash }

      listed_then : (code : ℕ) → IsTrue (is_listed old.device.codes code) → IsTrue (is_listed settled.device.codes code)
      listed_then code listed = subst (λ (codes : List ℕ). IsTrue (is_listed codes code)) (sym unbegun.make.codes) listed

      pub can_go : (address : ℕ) → CanLeave 0x21 old.device → IsTrue (is_inside old.device.chip address) → CanGo address settled.device
      can_go address can inside =
          record { settled = begins.settled; listed = listed_then 0x21 can.listed; inside = subst (λ (c : ChipData). IsTrue (is_inside c address)) (sym unbegun.make.chip) inside }

      pub can_protect : (code : ℕ) → CanLeave code old.device → CanProtect code settled.device
      can_protect code can = record { settled = begins.settled; listed = listed_then code can.listed }

      by_frame : (d : Device) (journal : List ℕ) → LeftBySending frame settled d journal → LeftByFrame frame old d journal
      by_frame d journal left = (left.0 ∙ unbegun.journal_same, (settled.device, reached, left.1))

      moments_of_frame : (new : RigState) → LeavesOnly (LeftBySending frame settled) settled new → LeavesOnly (LeftByLeaving frame old) old new
      moments_of_frame new sent =
          joined (IsUnbegun old) (LeftBySending frame settled) (LeftByLeaving frame old) old settled new (moments_of_asking lost old mid safe refusal settled (tt {0}) (Ok tt) loads begins) sent
          (λ d journal u. inl u) (λ d journal left. inr (by_frame d journal left))

      pub leaves_broken : {U : Type 0} {turns : List Turn} {e : WireFault} (new : RigState) (result : Result U Fault) → BreaksOff e frame turns settled new → IsErrAnd result (λ x. x ≡ fault_of e)
          → Leaves frame old new result
      leaves_broken new (Ok x) breaks is = absurd is
      leaves_broken {e = e} new (Err x) breaks is =
          let sent = breaks.honestly begins.honest in
          record {
            moments = moments_of_frame new sent.moments;
            honest = sent.honest;
            left = inr (by_frame new.device new.journal (sent.journal, sent.fed));
            unsent = λ said. absurd (line_used (fault_of e) (frame_used e) (let P : Fault → Type 0 = λ y. IsJournalOrMemory y in subst P is said));
            fed = tt;
          }

      pub leaves_fed : {U : Type 0} {turns : List Turn} (new : RigState) (x : U) → IsHeldToEnd frame turns settled new → Leaves frame old new (Ok x)
      leaves_fed new x holds =
          let sent = holds.honestly begins.honest in
          let whole : PartlyFed frame settled.device new.device = (length frame, let F : List ℕ → Type 0 = λ bytes. FedAndTaken bytes settled.device new.device in subst F (sym (take-length frame)) sent.fed) in
          record {
            moments = moments_of_frame new sent.moments;
            honest = sent.honest;
            left = inr (by_frame new.device new.journal (sent.journal, whole));
            unsent = tt;
            fed = (settled.device, reached, sent.fed);
          }

-- a journal that isn't refused, and couldn't be read
pub fails_unread : {T U : Type 0} (refusal : Option Fault) (old new : RigState) (e : Fault) (result : Result U Fault) → LoadsUnless {T = T} refusal old new (Err e) → refusal ≡ None → IsErrAnd result (λ x. x ≡ e)
    → IfErr result IsOutsideFault
fails_unread refusal old new e (Ok x) loads none is = absurd is
fails_unread refusal old new e (Err x) loads none is = subst IsOutsideFault (sym is) (⊎_elim (λ unsent. unsent_outside e unsent) (λ said. refused_nothing refusal e none said) loads.refused)

-- a dialogue that only the line broke off
pub fails_by_line : {U : Type 0} (e : WireFault) (result : Result U Fault) → e ≡ Line → IsErrAnd result (λ x. x ≡ fault_of e) → IfErr result IsOutsideFault
fails_by_line e (Ok x) line is = absurd is
fails_by_line e (Err x) line is = subst IsOutsideFault (sym is) (line_outside e line)
