-- One call of the program, step behind step.
use Rattle.std.proofs.Common.{◌≡◌, ℕ, Bool, true, false, List, [], ◌∷◌, length, Option, Some, None}
use Rattle.std.proofs.Common.{IsTrue, Result, Ok, Err, MatchResult, refl, sym, ◌∙◌, ap, subst}
use Rattle.std.proofs.Common.{◌+◌, ◌-◌, ◌<◌, arith, slice_index}
use Rattle.stm_image.specs.Lay.{AgreesWith, laid_byte, lay}
use Rattle.stm_image.specs.Pairs.{Pairs, byte_at, raw_pairs}
use Rattle.stm_wire.proofs.Names.{ChipData, Device, IsDevice, IsModel, IsReady, IsReadyPhase, IsSettled, Phase, RigState}
use Rattle.stm_chip.specs.Document.{IsChipWith}
use Rattle.stm_journal.proofs.Names.{flashes_before_segments, journal_of}
use Rattle.stm_session.specs.declared.fault.Fault.{Fault}
use Rattle.stm_session.specs.declared.information.Info.{Info}
use Rattle.stm_session.proofs.Names.{CommandData, IsSafe, IsUnbegun, open_refusal, run_refusal, Runs, state_at, Undoable, written_then}
use Rattle.stm_words.specs.declared.sequel.Sequel.{Sequel}
use Rattle.stm_files.specs.Ending.{EndsJournal}
use Rattle.stm_work.specs.declared.action.Action.TheVariants as action
use Rattle.stm_work.specs.declared.answer.Answer.{Answer}
use Rattle.stm_work.specs.declared.answer.Answer.TheVariants as answer
use Rattle.stm_work.specs.declared.content.Content.{Content}
use Rattle.stm_work.specs.declared.content.Content.TheVariants.{Placed, AtBase}
use Rattle.stm_work.specs.declared.failure.Failure.{Failure}
use Rattle.stm_work.specs.declared.failure.Failure.TheVariants.{Session}
use Rattle.stm_work.specs.declared.steps.Steps.{Steps}
use Rattle.stm_work.specs.Action.{Calls, DoesAction, GoesTo, HandsOn}
use Rattle.stm_work.specs.Answer.{outcomes_told}
use Rattle.stm_work.specs.Conduct.{PromisesInfo, RunsTold, WritesVerified}
use Rattle.stm_work.specs.Content.{ImageOn, IsRawImage}
use Rattle.stm_work.specs.OneCall.{CallsEndAsAsked, CanCall, EndsAsAsked, EndsLetGo, HasGone, IsJournalKept}
use Rattle.stm_work.specs.OneCall.{IsWritten, image_on}
use Rattle.stm_work.specs.Steps.{FollowsSession, GoesBehind, KeepsJournal, MayGo, MayKeep}

-- what the layers below promise
pub record Laws {R : Type 0} (view : R → RigState) : Type 0 where
  pub model : (rig : R) → (view rig).is_honest → IsModel (view rig)
  pub unrefused : (table : List ChipData) (commands : List CommandData) (d : Device)
      (journal : List ℕ) → IsSafe d → IsChipWith table d.chip.id d.chip
      → run_refusal (journal_of journal) d table commands ≡ None
      → Undoable (flashes_before_segments d.chip (state_at journal).stack d.flash) d journal
  pub ready : (d : Device) → IsDevice d → IsReady d → IsSafe d
  pub long : (set : Pairs) (address : ℕ) (bytes : List ℕ) → length (lay set address bytes) ≡ length bytes
  pub laid : (set : Pairs) (address : ℕ) (bytes : List ℕ) (i : ℕ) → i < length bytes
      → slice_index (lay set address bytes) i ≡ laid_byte (byte_at set (address + i)) (slice_index bytes i)

-- an answer
abbrev okay : {A : Type 0} → A → Result A Failure
okay x = Ok x

same-ok : (a b : Steps) → okay a ≡ okay b → b ≡ a
same-ok a b e = cc

module _ {R : Type 0} (view : R → RigState) (laws : Laws view) where
  -- a settled device of an honest Rig is safe
  settled-safe : (rig : R) → (view rig).is_honest → IsSettled (view rig).device
      → IsSafe (view rig).device
  settled-safe rig honest settled =
      let d : Device = (view rig).device in
      let P : Phase → Type 0 = λ p. IsReadyPhase d.codes p in
      laws.ready d (laws.model rig honest).device
      (record {
        phase = subst P (sym settled.phase) tt;
        owed = omega (arith, ap length settled.owed);
      })

  module _ (table : List ChipData) where
    -- the image was placed
    record IsPlaced (content : Content) (old mid : R) (image : Pairs) : Type 0 where
      can : CanCall table (view mid)
      chip : (view mid).device.chip ≡ (view old).device.chip
      flash : (view mid).device.flash ≡ (view old).device.flash
      image_is : image ≡ image_on (view old).device.chip content

    still-can : (old mid : R) → CanCall table (view old) → (view mid).is_honest
        → IsUnbegun (view old) (view mid).device (view mid).journal → CanCall table (view mid)
    still-can old mid can honest unbegun =
        let K : ChipData → Type 0 = λ c. IsChipWith table c.id c in
        record {
          honest = honest;
          safe = unbegun.safe;
          knows = subst K (sym unbegun.make.chip) can.knows;
        }

    placed : (content : Content) (old mid : R) (image : Pairs) → CanCall table (view old)
        → ImageOn view table content old mid (Ok image) → IsPlaced content old mid image
    placed (Placed own names) old mid image can (said, same) =
        let own-is : image ≡ own = cc in
        let P : R → Type 0 = λ x. IsPlaced (Placed own names) old x image in
        subst P (sym same) (record { can = can; chip = refl; flash = refl; image_is = own-is })
    placed (AtBase bytes names) old mid image can asks = by-told asks.told asks.asks asks.goes_on
      where
        by-told : (told : Result Info Fault) → PromisesInfo table (view old) (view asks.mid) told
            → MatchResult told (λ info. (mid ≡ asks.mid)
            × IsRawImage info.base bytes.items (okay image))
            (λ fault. (mid ≡ asks.mid) × (okay image ≡ Err (Session fault)))
            → IsPlaced (AtBase bytes names) old mid image
        by-told (Err fault) asked (same, failed) = absurd (cc)
        by-told (Ok info) asked (same, is) =
            let d : Device = (view old).device in
            let informs = asked.promised.informs can.honest can.safe in
            let listed = asked.describes.listed in
            let own : asked.describes.chip ≡ d.chip =
            can.knows.only asked.describes.chip listed.held (listed.id_is ∙ informs.told.id) in
            let base : info.base ≡ d.chip.base = asked.describes.base
            ∙ ap (λ (c : ChipData). c.base) own in
            let P : R → Type 0 = λ x. IsPlaced (AtBase bytes names) old x image in
            subst P (sym same) (record {
              can = still-can old asks.mid can informs.honest informs.left;
              chip = informs.left.make.chip;
              flash = informs.left.flash;
              image_is = is ∙ ap (λ (n : ℕ). raw_pairs n bytes.items) base;
            })

    -- an image agrees with bytes over which it was laid
    laid-agrees : (image : Pairs) (base : ℕ) (bytes : List ℕ) → AgreesWith image base (lay image base bytes)
    laid-agrees image base bytes place d =
        let long = laws.long image base bytes in
        let from = d.from in
        let within = d.within in
        let at : base + (place - base) ≡ place = omega (arith, from) in
        d.differs (laws.laid image base bytes (place - base) (omega (arith, from, within, long))
        ∙ ap (λ o. laid_byte o (slice_index bytes (place - base))) (ap (byte_at image) at ∙ d.held))

    -- the run of the write and the verify answered Ok
    ran : (image : Pairs) (old new : R) (said : Answer) → CanCall table (view old)
        → WritesVerified table image (view old) (view new) (Ok said)
        → IsWritten view table image (view old).device.chip (view old).device.flash new
    ran image old new said can verified = by-refusal
        (run_refusal (journal_of (view old).journal) d table commands) refl
      where
        d : Device
        d = (view old).device

        commands : List CommandData
        commands = written_then image verified.part

        runs : RunsTold table (written_then image verified.part) (view old) (view new) (Ok said)
        runs = verified.runs

        by-refusal : (o : Option Fault)
            → run_refusal (journal_of (view old).journal) d table commands ≡ o
            → IsWritten view table image d.chip d.flash new
        by-refusal (Some fault) e = absurd
            ((runs.promised.refused can.honest can.safe fault e).answers)
        by-refusal None e =
            let flashes : List (List ℕ) =
            flashes_before_segments d.chip (state_at (view old).journal).stack d.flash in
            let u : Undoable flashes d (view old).journal =
            laws.unrefused table commands d (view old).journal can.safe can.knows e in
            let r : Runs commands flashes (view old) (view new) (Ok said) outcomes_told =
            runs.promised.runs can.honest flashes u can.knows e in
            let A : List ℕ → Type 0 = λ f. AgreesWith image d.chip.base f in
            record {
              begun = old;
              chip_found = refl;
              flash_found = refl;
              part = verified.part;
              done = runs.order;
              seen = verified.seen;
              flash_is = r.done.flash;
              agrees = subst A (sym r.done.flash) (laid-agrees image d.chip.base d.flash);
              chip_is = r.done.make.chip;
              settled = r.settled;
              finished = r.done.finished;
              honest = r.honest;
            }

    -- the same in the whole action
    wrote : (content : Content) (old new : R) (said : Answer) → CanCall table (view old)
        → DoesAction view table (action.WriteAndVerify content) old new (Ok said)
        → IsWritten view table (image_on (view old).device.chip content) (view old).device.chip
        (view old).device.flash new
    wrote content old new said can does = by-image does.image does.places does.goes_on
      where
        I : Type 0
        I = IsWritten view table (image_on (view old).device.chip content) (view old).device.chip
            (view old).device.flash new

        by-run : (image : Pairs) → IsPlaced content old does.mid image
            → (runs : Result Answer Fault) → WritesVerified table image (view does.mid) (view new) runs
            → HandsOn (λ (x : Answer). x) runs (Ok said) → I
        by-run image is (Err fault) done hands = absurd (cc)
        by-run image is (Ok told) done hands =
            let w = ran image does.mid new told is.can done in
            let W : Pairs → ChipData → List ℕ → Type 0 = λ i c f. IsWritten view table i c f new in
            let W1 : ChipData → Type 0 = λ c. W image c (view does.mid).device.flash in
            let W2 : List ℕ → Type 0 = λ f. W image (view old).device.chip f in
            let W3 : Pairs → Type 0 = λ i. W i (view old).device.chip (view old).device.flash in
            subst W3 is.image_is (subst W2 is.flash (subst W1 is.chip w))

        by-image : (image : Result Pairs Failure) → ImageOn view table content old does.mid image
            → MatchResult image (λ image. Calls (λ (x : Answer). x)
            (λ a b runs. WritesVerified table image (view a) (view b) runs) does.mid new
            (Ok said)) (λ failure. (new ≡ does.mid) × (okay said ≡ Err failure)) → I
        by-image (Err failure) places (same, failed) = absurd (cc)
        by-image (Ok image) places (runs, done, hands) =
            by-run image (placed content old does.mid image can places) runs done hands

    -- the journal was kept, or stays
    record HasKept (keeps : Bool) (written kept : R) : Type 0 where
      is : IsJournalKept view keeps written kept
      honest : (view kept).is_honest
      settled : IsSettled (view kept).device
      flash : (view kept).device.flash ≡ (view written).device.flash
      empty : IsTrue keeps → (view kept).journal ≡ []

    has-kept : (keeps : Bool) (written mid : R) (count : Option ℕ) → (view written).is_honest
        → IsSettled (view written).device → MayKeep view keeps written mid (Ok count)
        → HasKept keeps written mid
    has-kept false written mid count honest settled (same, none) =
        let H : R → Type 0 = λ x. HasKept false written x in
        subst H (sym same) (record {
          is = refl;
          honest = honest;
          settled = settled;
          flash = refl;
          empty = λ t. absurd (cc);
        })
    has-kept true written mid count honest settled (said, keeps, is) = by-said said keeps is
      where
        by-said : (said : Result ℕ Failure) → KeepsJournal view written mid said
            → MatchResult said (λ n. okay count ≡ Ok (Some n)) (λ failure. okay count ≡ Err failure)
            → HasKept true written mid
        by-said (Err failure) k failed = absurd (cc)
        by-said (Ok n) k counted =
            let ended : EndsJournal (view written) (view mid) = k.ends honest in
            record {
              is = ended;
              honest = ended.honest;
              settled = record { phase = ended.phase ∙ settled.phase; owed = ended.owed };
              flash = ended.flash;
              empty = λ t. ended.journal;
            }

    -- Go answered Ok
    went : (flash : List ℕ) (address : ℕ) (kept new : R) (u : Unit {0}) → (view kept).is_honest
        → IsSettled (view kept).device → (view kept).device.flash ≡ flash
        → GoesTo address (view kept) (view new) (Ok u)
        → HasGone flash address (view kept) (view new)
    went flash address kept new u honest settled is goes =
        by-refusal (open_refusal (journal_of (view kept).journal)) refl
      where
        by-refusal : (o : Option Fault) → open_refusal (journal_of (view kept).journal) ≡ o
            → HasGone flash address (view kept) (view new)
        by-refusal (Some fault) e = absurd ((goes.parts.refused honest fault e).answers)
        by-refusal None e =
            let l = goes.parts.leaves honest (settled-safe kept honest settled) e in
            record {
              calls = goes.parts.sent;
              moments = l.moments;
              last = l.fed.0;
              settled = l.fed.1.settled;
              flash_is = l.fed.1.flash ∙ is;
              sent = l.fed.2;
              left = λ can. goes.left honest e can;
              journal = goes.parts.kept honest;
            }

    may-go : (flash : List ℕ) (go : Option ℕ) (kept new : R) (u : Unit {0}) → (view kept).is_honest
        → IsSettled (view kept).device → (view kept).device.flash ≡ flash
        → MayGo view table go kept new (Ok u)
        → EndsLetGo view flash go kept new × ((view new).journal ≡ (view kept).journal)
    may-go flash None kept new u honest settled is (same, gone) =
        let flash-is = ap (λ (r : R). (view r).device.flash) same ∙ is in
        ((same, flash-is), ap (λ (r : R). (view r).journal) same)
    may-go flash (Some address) kept new u honest settled is (said, goes, done) =
        by-said said goes done
      where
        E : Type 0
        E = HasGone flash address (view kept) (view new)
            × ((view new).journal ≡ (view kept).journal)

        by-parted : (parted : Result (Unit {0}) Fault) (told : Answer)
            → GoesTo address (view kept) (view new) parted
            → HandsOn (λ (x : Unit {0}). answer.Nothing) parted (Ok told) → E
        by-parted (Err fault) told g hands = absurd (cc)
        by-parted (Ok x) told g hands =
            let h = went flash address kept new x honest settled is g in (h, h.journal)

        by-said : (said : Result Answer Failure) → DoesAction view table (action.Go address) kept new said
            → MatchResult said (λ (x : Answer). okay u ≡ Ok tt) (λ failure. okay u ≡ Err failure)
            → E
        by-said (Err failure) g failed = absurd (cc)
        by-said (Ok told) (parted, g, hands) done = by-parted parted told g hands

    module _ (content : Content) (sequel : Sequel) (old new : R) (steps : Steps)
        (can : CanCall table (view old)) (none : steps.failure ≡ None) where
      abbrev chip : ChipData
      chip = (view old).device.chip

      abbrev flash : List ℕ
      flash = (view old).device.flash

      abbrev E : Type 0
      E = EndsAsAsked view table content sequel chip flash new

      behind-keep : (written mid : R) (kept : Result (Option ℕ) Failure)
          → IsWritten view table (image_on chip content) chip flash written
          → MayKeep view sequel.keeps written mid kept
          → GoesBehind view table sequel.go mid new kept steps → E
      behind-keep written mid (Err failure) w keeps goes = let e : steps.failure ≡ Some failure =
          goes.err.2 in absurd (cc)
      behind-keep written mid (Ok count) w keeps goes = by-gone goes.ok.1.0 goes.ok.1.1 goes.ok.1.2
        where
          k : HasKept sequel.keeps written mid
          k = has-kept sequel.keeps written mid count w.honest w.settled keeps

          by-gone : (gone : Result (Unit {0}) Failure) → MayGo view table sequel.go mid new gone
              → MatchResult gone (λ (x : Unit {0}). steps.failure ≡ None)
              (λ failure. steps.failure ≡ Some failure) → E
          by-gone (Err failure) goes failed = absurd (cc)
          by-gone (Ok u) goes done =
              let g = may-go (lay (image_on chip content) chip.base flash) sequel.go mid new u
              k.honest k.settled (k.flash ∙ w.flash_is) goes in
              record {
                written = written;
                writes = w;
                kept = mid;
                keeps = k.is;
                ends = g.0;
                empty = λ t. g.1 ∙ k.empty t;
              }

  pub calls-end-as-asked : CallsEndAsAsked R view
  calls-end-as-asked table board content sequel old new steps can none takes =
      by-said takes.said takes.works takes.ok takes.err
    where
      E : Type 0
      E = EndsAsAsked view table content sequel (view old).device.chip (view old).device.flash new

      by-said : (said : Result Answer Failure)
          → DoesAction view table (action.WriteAndVerify content) old takes.written said
          → MatchResult said (λ answer. (own : Steps) × (okay steps ≡ Ok own)
          × FollowsSession view table board sequel takes.written new answer own) (λ failure. Unit {0})
          → MatchResult said (λ answer. Unit {0})
          (λ failure. (new ≡ takes.written) × (okay steps ≡ Err failure)) → E
      by-said (Err failure) does ok (same, failed) = absurd (cc)
      by-said (Ok told) does (own, same, follows) err =
          let e : own ≡ steps = same-ok steps own same in
          let F : Steps → Type 0 = λ s. GoesBehind view table sequel.go follows.mid new follows.kept
          s in
          behind-keep table content sequel old new steps can none takes.written follows.mid
          follows.kept (wrote table content old takes.written told can does) follows.keeps
          (subst F e follows.goes)
