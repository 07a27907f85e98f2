-- A read that may be refused: what each of its steps leaves of a device that follows the model, and what a stop in it does.
use Rattle.std.proofs.Common.{lit≤, ◌≡◌, ◌⊎◌, inl, inr, ℕ, ◌+◌, ◌-◌, ◌/◌, ◌%◌, ◌≤◌, Bool, true, false, ◌&&◌, ◌==◌, List, [], ◌∷◌, ◌++◌, length, take, drop, get_or, Option, Some, IsTrue, refl, sym, ◌∙◌, ap, ap₂, subst, arith, eq-eqb, if◌then◌else◌, length-append, min, Result, Ok, Err, IsErrAnd}
use Rattle.std.proofs.lemmas.List.{take_min, take-append-le}
use Rattle.stm_wire.proofs.Names.{ack, address_bytes, AsksSafely, at_end, can_read, CanTell, ChipData, command, complement, Connected, Device, done_if, Fed, Feeds, is_readable, IsDevice, IsSettled}
use Rattle.stm_wire.proofs.Names.{IsStoppedSafely, LeavesAnswer, LeftBySending, nack, OwesFirst, owing, PartlyFed, PartSentHonestly, Phase, read_frame, read_head, read_verdict, Receives}
use Rattle.stm_wire.proofs.Names.{refusable_frame, RefusableReadsChangeNothing, reply_to, RigState, SentHonestly, Takes, TakesAddress, told_bytes, Verdict, verdict, WireFault, with_checksum}
use Rattle.stm_wire.proofs.Names.{with_rest, xor}
use Rattle.stm_wire.specs.declared.fault.WireFault.TheVariants.{Line}
use Rattle.stm_wire.specs.lemmas.FlashLaws.{same_all}
use Rattle.stm_wire.specs.Stopped.{read}
use Rattle.stm_wire.proofs.Flash.{same_flash}
use Rattle.stm_wire.proofs.Mild.{Mild, harmless, mild_empty}
use Rattle.stm_wire.proofs.Stopped.{mild_read_frame}
use Rattle.stm_wire.proofs.Enough.{counts_none, empty_enough, enough_short, no_count}
use Rattle.stm_wire.proofs.StoppedFrames.{asking_changes_nothing, read_suffices}
use Rattle.stm_wire.proofs.Stops.{Suffices, along-append, before_last, replies-few, stopped_from}
use Rattle.stm_wire.specs.declared.verdict.Verdict.TheVariants.{Refused}
use Rattle.stm_wire.specs.lemmas.MomentLaws.{weaker}
use Rattle.stm_wire.proofs.Address.{address-waits, addressed, verdict-listed, command-waits, after_address-right, address-first, address-step, number_of-address_bytes, settled-is}
use Rattle.stm_wire.proofs.Feeding.{Fed-split}
use Rattle.stm_wire.proofs.Reading.{count-first, count-step}
use Rattle.stm_wire.proofs.Steps.{OpenAlong, replies_along, fed-along, code-first, code-step}
use Rattle.stm_wire.proofs.Turns.{PartlyFed-first, PartlyFed-all}

takes-refused : (old new : Device) (bytes : List ℕ) → verdict old.chip old.codes bytes ≡ Some Refused → Takes old bytes (verdict old.chip old.codes bytes) new
    → new ≡ record old { owed = old.owed ++ nack ∷ []; phase = Connected [] }
takes-refused old new bytes refused t =
    let P : Option Verdict → Type 0 = λ v. Takes old bytes v new in
    let make : List ℕ → Device = λ xs. record old { owed = old.owed ++ xs; phase = Connected [] } in
    subst P refused t ∙ ap make (ap (λ v. reply_to v old.chip old.version old.codes old.flash bytes) refused)

-- the last byte of a step that is refused
pub feeds-refused : (byte : ℕ) (rest : List ℕ) (old new : Device) → old.phase ≡ Connected rest → verdict old.chip old.codes (rest ++ byte ∷ []) ≡ Some Refused → Feeds byte old new
    → new ≡ record old { owed = old.owed ++ nack ∷ []; phase = Connected [] }
feeds-refused byte rest old new phase refused f =
    let P : Phase → Type 0 = λ p. Receives old p byte new in
    takes-refused old new (rest ++ byte ∷ []) refused (subst P phase f.receives)

-- all of that step
fed-refused : (bytes : List ℕ) (byte : ℕ) (rest : List ℕ) (d new : Device) → OpenAlong d.chip d.codes rest bytes → replies_along rest bytes ≡ [] → verdict d.chip d.codes ((rest ++ bytes) ++ byte ∷ []) ≡ Some Refused
    → Fed (bytes ++ byte ∷ []) (with_rest rest d) new → new ≡ record d { owed = nack ∷ []; phase = Connected [] }
fed-refused bytes byte rest d new waits reply refused f =
    let parts = Fed-split bytes (byte ∷ []) (with_rest rest d) new f in
    let make : List ℕ → Device = λ xs. record d { owed = xs; phase = Connected (rest ++ bytes) } in
    let first = fed-along bytes rest [] d parts.0 waits parts.1 ∙ ap make reply in
    let P : Device → Type 0 = λ e. Feeds byte e parts.2.0 in
    let Q : Device → Type 0 = λ e. e ≡ record d { owed = nack ∷ []; phase = Connected [] } in
    subst Q (sym parts.2.2) (feeds-refused byte (rest ++ bytes) (with_rest (rest ++ bytes) d) parts.2.0 refl refused (subst P first parts.2.1))

-- no reply begins with both answers
two_answers : (xs ys : List ℕ) → nack ∷ xs ≡ ack ∷ ys → ⊥
two_answers xs ys e = let first : nack ≡ ack = ap (λ (zs : List ℕ). get_or zs 0 0) e in omega (arith, first)

-- an answer was taken, and no byte is owed behind it
answer_taken : (d new : Device) → IsSettled d → owing (nack ∷ []) new ≡ record d { owed = nack ∷ []; phase = Connected [] } → new ≡ d
answer_taken d new settled e = ap (λ (x : Device). let r : Device = record x { owed = drop 1 x.owed } in r) e ∙ sym (settled-is d settled)

module _ (address : ℕ) (d : Device) (is : IsDevice d) (settled : IsSettled d) where
  here : d ≡ with_rest [] d
  here = settled-is d settled

  code_waits : OpenAlong d.chip d.codes [] (command 0x11)
  code_waits = command-waits d.chip d.codes 0x11 is.read refl

  pub code_answers : LeavesAnswer (command 0x11) d
  code_answers new f = inl (code-first 0x11 d here code_waits new f)

  pub code_told : (new : Device) → Fed (command 0x11) d (owing (ack ∷ []) new) → new ≡ with_rest (command 0x11) d
  code_told new f = code-step 0x11 d here code_waits new f

  pub code_unrefused : (new : Device) → Fed (command 0x11) d (owing (nack ∷ []) new) → ⊥
  code_unrefused new f =
      let first = code-first 0x11 d here code_waits (owing (nack ∷ []) new) f in
      two_answers new.owed first.0 first.1

  -- the address lies outside the flash
  module _ (outside : is_readable d.chip address ≡ false) where
    pub address_open : OpenAlong d.chip d.codes (command 0x11) (address_bytes address)
    address_open =
        let at = λ (rest : List ℕ). verdict-listed d.chip d.codes 0x11 rest is.read in (
          at (address / 16777216 ∷ []),
          (at (address / 16777216 ∷ address / 65536 % 256 ∷ []), (at (address / 16777216 ∷ address / 65536 % 256 ∷ address / 256 % 256 ∷ []), (at (address_bytes address), tt))),
        )

    pub address_refuses : verdict d.chip d.codes ((command 0x11 ++ address_bytes address) ++ xor (address_bytes address) ∷ []) ≡ Some Refused
    address_refuses =
        let x = xor (address_bytes address) in
        let choose : Bool → Bool → ℕ → Option Verdict = λ t i a. if t && i then read_verdict d.chip a [] else at_end Refused [] in
        let P : ℕ → Type 0 = λ a. choose (x == x) (is_readable d.chip a) a ≡ Some Refused in
        verdict-listed d.chip d.codes 0x11 (with_checksum (address_bytes address)) is.read
        ∙ subst P (sym (number_of-address_bytes address)) (ap₂ (λ t i. choose t i address) (eq-eqb x x refl) outside)

    outside_step : (old new : Device) → old ≡ with_rest (command 0x11) d → Fed (with_checksum (address_bytes address)) old new → new ≡ record d { owed = nack ∷ []; phase = Connected [] }
    outside_step old new at f =
        let P : Device → Type 0 = λ e. Fed (with_checksum (address_bytes address)) e new in
        fed-refused (address_bytes address) (xor (address_bytes address)) (command 0x11) d new address_open refl address_refuses (subst P at f)

  takes : IsTrue (is_readable d.chip address) → TakesAddress 0x11 address d
  takes inside = record { settled = settled; takes = inl refl; inside = inside }

  pub address_answers : (old : Device) → old ≡ with_rest (command 0x11) d → LeavesAnswer (with_checksum (address_bytes address)) old
  address_answers old at new f =
      elim (is_readable d.chip address) as (λ t. is_readable d.chip address ≡ t → OwesFirst ack new ⊎ OwesFirst nack new)
      [ true ↦ λ e. inl (address-first 0x11 address d is (takes e) old at new f) | false ↦ λ e. inr ([], ap (λ (x : Device). x.owed) (outside_step e old new at f)) ] refl

  pub address_told : (old new : Device) → old ≡ with_rest (command 0x11) d → Fed (with_checksum (address_bytes address)) old (owing (ack ∷ []) new)
      → IsTrue (is_readable d.chip address) × (new ≡ with_rest (read_head address) d)
  address_told old new at f =
      elim (is_readable d.chip address) as (λ t. is_readable d.chip address ≡ t → IsTrue (is_readable d.chip address) × (new ≡ with_rest (read_head address) d)) [
        | true ↦ λ e. (e, address-step 0x11 address d is (takes e) old new at f)
        | false ↦ λ e. absurd (two_answers [] new.owed (sym (ap (λ (x : Device). x.owed) (outside_step e old (owing (ack ∷ []) new) at f))))
      ] refl

  pub address_refused : (old new : Device) → old ≡ with_rest (command 0x11) d → Fed (with_checksum (address_bytes address)) old (owing (nack ∷ []) new)
      → (is_readable d.chip address ≡ false) × (new ≡ d)
  address_refused old new at f =
      elim (is_readable d.chip address) as (λ t. is_readable d.chip address ≡ t → (is_readable d.chip address ≡ false) × (new ≡ d)) [
        | true ↦ λ e. (let first = address-first 0x11 address d is (takes e) old at (owing (nack ∷ []) new) f in absurd (two_answers new.owed first.0 first.1))
        | false ↦ λ e. (e, answer_taken d new settled (outside_step e old (owing (nack ∷ []) new) at f))
      ] refl

  -- the address lies inside
  module _ (size : ℕ) (some : 1 ≤ size) (inside : IsTrue (is_readable d.chip address)) where
    pub count_open : OpenAlong d.chip d.codes (read_head address) ((size - 1) ∷ [])
    count_open = (verdict-listed d.chip d.codes 0x11 (with_checksum (address_bytes address) ++ (size - 1) ∷ []) is.read ∙ after_address-right (is_readable d.chip) (read_verdict d.chip) address ((size - 1) ∷ []) inside, tt)

    pub count_refuses : can_read d.chip address size ≡ false → verdict d.chip d.codes ((read_head address ++ (size - 1) ∷ []) ++ complement (size - 1) ∷ []) ≡ Some Refused
    count_refuses over =
        let e : (size - 1) + 1 ≡ size = omega arith in
        let P : ℕ → Type 0 = λ n. Some (done_if (complement (size - 1) == complement (size - 1) && can_read d.chip address n)) ≡ Some Refused in
        let choose : Bool → Bool → Option Verdict = λ x y. Some (done_if (x && y)) in
        verdict-listed d.chip d.codes 0x11 (with_checksum (address_bytes address) ++ (size - 1) ∷ complement (size - 1) ∷ []) is.read
        ∙ after_address-right (is_readable d.chip) (read_verdict d.chip) address ((size - 1) ∷ complement (size - 1) ∷ []) inside
        ∙ subst P (sym e) (ap₂ choose (eq-eqb (complement (size - 1)) (complement (size - 1)) refl) over)

    over_step : can_read d.chip address size ≡ false → (old new : Device) → old ≡ with_rest (read_head address) d → Fed (command (size - 1)) old new → new ≡ record d { owed = nack ∷ []; phase = Connected [] }
    over_step over old new at f =
        let P : Device → Type 0 = λ e. Fed (command (size - 1)) e new in
        fed-refused ((size - 1) ∷ []) (complement (size - 1)) (read_head address) d new count_open refl (count_refuses over) (subst P at f)

    can : IsTrue (can_read d.chip address size) → CanTell address size d
    can fits = record { settled = settled; readable = fits }

    pub count_answers : (old : Device) → old ≡ with_rest (read_head address) d → LeavesAnswer (command (size - 1)) old
    count_answers old at new f =
        elim (can_read d.chip address size) as (λ t. can_read d.chip address size ≡ t → OwesFirst ack new ⊎ OwesFirst nack new)
        [ true ↦ λ e. inl (count-first address size d some is (can e) old at new f) | false ↦ λ e. inr ([], ap (λ (x : Device). x.owed) (over_step e old new at f)) ] refl

    pub count_told : (old new : Device) → old ≡ with_rest (read_head address) d → Fed (command (size - 1)) old (owing (ack ∷ []) new)
        → CanTell address size d × (new ≡ record d { owed = told_bytes address size d; phase = Connected [] })
    count_told old new at f =
        elim (can_read d.chip address size) as (λ t. can_read d.chip address size ≡ t → CanTell address size d × (new ≡ record d { owed = told_bytes address size d; phase = Connected [] })) [
          | true ↦ λ e. (can e, count-step address size d some is (can e) old new at f)
          | false ↦ λ e. absurd (two_answers [] new.owed (sym (ap (λ (x : Device). x.owed) (over_step e old (owing (ack ∷ []) new) at f))))
        ] refl

    pub count_refused : (old new : Device) → old ≡ with_rest (read_head address) d → Fed (command (size - 1)) old (owing (nack ∷ []) new) → (can_read d.chip address size ≡ false) × (new ≡ d)
    count_refused old new at f =
        elim (can_read d.chip address size) as (λ t. can_read d.chip address size ≡ t → (can_read d.chip address size ≡ false) × (new ≡ d)) [
          | true ↦ λ e. (let first = count-first address size d some is (can e) old at (owing (nack ∷ []) new) f in absurd (two_answers new.owed first.0 first.1))
          | false ↦ λ e. (e, answer_taken d new settled (over_step e old (owing (nack ∷ []) new) at f))
        ] refl

-- a beginning of some bytes is one of those and more
pub part_first : (xs ys : List ℕ) (a b : RigState) → PartSentHonestly xs a b → PartSentHonestly (xs ++ ys) a b
part_first xs ys a b f = record {
  honest = f.honest;
  journal = f.journal;
  fed = PartlyFed-first xs ys a.device b.device f.fed;
  moments = weaker (LeftBySending xs a) (LeftBySending (xs ++ ys) a) a b f.moments (λ d journal l. (l.0, PartlyFed-first xs ys a.device d l.1));
}

-- so is the whole
pub part_all : (xs : List ℕ) (a b : RigState) → SentHonestly xs a b → PartSentHonestly xs a b
part_all xs a b f = record { honest = f.honest; journal = f.journal; fed = PartlyFed-all xs a.device b.device f.fed; moments = f.moments }

-- the code and the address are sent in any case
pub head_sent : (address size : ℕ) (chip : ChipData) (a b : RigState) → PartSentHonestly (read_head address) a b → PartSentHonestly (refusable_frame chip address size) a b
head_sent address size chip a b f =
    elim (is_readable chip address) as (λ t. PartSentHonestly (if t then read_frame address size else read_head address) a b) [ true ↦ part_first (read_head address) (command (size - 1)) a b f | false ↦ f ]

-- the count behind an address inside the flash
pub frame_sent : (address size : ℕ) (chip : ChipData) (a b : RigState) → IsTrue (is_readable chip address) → PartSentHonestly (read_frame address size) a b → PartSentHonestly (refusable_frame chip address size) a b
frame_sent address size chip a b inside f = rw inside f

-- the line failed before it was answered
pub asked_failed : (address size : ℕ) (bytes : List ℕ) (a b : RigState) (e : WireFault) (result : Result Bool WireFault) → IsErrAnd result (λ x. x ≡ e) → PartSentHonestly (refusable_frame a.device.chip address size) a b → e ≡ Line
    → AsksSafely address size bytes a b result
asked_failed address size bytes a b e (Ok x) is part line = absurd is
asked_failed address size bytes a b e (Err x) is part line = record { sent = part; same = tt; told = tt; fails = is ∙ line }

-- a stop within a step that is refused at its last byte
module _ (old : Device) (body : List ℕ) (last : ℕ) (is : IsDevice old) (settled : IsSettled old) (waits : OpenAlong old.chip old.codes [] body) (refused : verdict old.chip old.codes (body ++ last ∷ []) ≡ Some Refused) (few : length body ≤ 4000)
    (byte : ℕ) (mild : (j : ℕ) → Mild old.chip old.codes byte [] (take j (body ++ last ∷ []))) (enough : Suffices old byte 267 (body ++ last ∷ [])) where
  at_last : (mid : Device) → Fed (body ++ last ∷ []) old mid → IsStoppedSafely old byte 267 [] mid
  at_last mid f =
      let next : Device = record old { owed = replies_along [] body ++ nack ∷ []; phase = Connected [] } in
      let at : mid ≡ next = feeds-refused last body (record old { owed = replies_along [] body; phase = Connected body }) mid refl refused (before_last old body last is settled waits mid f) in
      subst (IsStoppedSafely old byte 267 []) (sym at) (record {
        same_chip = refl;
        same_version = refl;
        same_codes = refl;
        harmless = harmless byte [] next is.size (mild_empty old.chip old.codes byte []);
        awaits = empty_enough next byte 267 (lit≤ tt) refl;
        flash = same_flash old.chip [] old.flash old.flash refl;
        owed = omega (arith, few, replies-few [] body, length-append (replies_along [] body) (nack ∷ []));
      })

  pub refused_safely : (d : Device) → PartlyFed (body ++ last ∷ []) old d → IsStoppedSafely old byte 267 [] d
  refused_safely d fed = stopped_from old body last is settled waits byte 267 [] (omega (arith, few)) mild enough at_last d fed

module _ (old d : Device) (byte address size : ℕ) (is : IsDevice old) (settled : IsSettled old) (some : 1 ≤ size) (most : size ≤ 256) where
  mild_frame : (j : ℕ) → Mild old.chip old.codes byte [] (take j (read_frame address size))
  mild_frame j = mild_read_frame old.chip old.codes byte [] address size j

  mild_head : (j : ℕ) → Mild old.chip old.codes byte [] (take j (read_head address))
  mild_head j =
      let head = read_head address in
      let i = min j (length head) in
      let le : i ≤ length head = omega arith in
      subst (Mild old.chip old.codes byte []) (take-append-le i head (command (size - 1)) le ∙ take_min j head) (mild_frame i)

  suffices_head : Suffices old byte 267 (read_head address)
  suffices_head = record {
    counted = counts_none 0x11 0xEE (with_checksum (address_bytes address)) refl refl;
    enough = enough_short old.chip old.codes byte 267 0x11 (0xEE ∷ with_checksum (address_bytes address)) (lit≤ tt) (no_count 0x11 byte refl refl) refl;
  }

  outside_safely : is_readable old.chip address ≡ false → PartlyFed (read_head address) old d → IsStoppedSafely old byte 267 [] d
  outside_safely outside fed =
      let body = command 0x11 ++ address_bytes address in
      let along = along-append old.chip old.codes [] (command 0x11) (address_bytes address) (command-waits old.chip old.codes 0x11 is.read refl) (address_open address old is settled outside) in
      refused_safely old body (xor (address_bytes address)) is settled along (address_refuses address old is settled outside) (omega arith) byte mild_head suffices_head d fed

  to_address : IsTrue (is_readable old.chip address) → OpenAlong old.chip old.codes [] (read_head address)
  to_address inside = along-append old.chip old.codes [] (command 0x11) (with_checksum (address_bytes address)) (command-waits old.chip old.codes 0x11 is.read refl)
      (address-waits old.chip old.codes 0x11 address is.read (addressed old.chip 0x11 (inl refl)) inside)

  over_safely : IsTrue (is_readable old.chip address) → can_read old.chip address size ≡ false → PartlyFed (read_frame address size) old d → IsStoppedSafely old byte 267 [] d
  over_safely inside over fed =
      let body = read_head address ++ (size - 1) ∷ [] in
      let along = along-append old.chip old.codes [] (read_head address) ((size - 1) ∷ []) (to_address inside) (count_open address old is settled size some inside) in
      refused_safely old body (complement (size - 1)) is settled along (count_refuses address old is settled size some inside over) (omega arith) byte mild_frame (read_suffices old byte 267 address size (lit≤ tt)) d fed

  inside_safely : IsTrue (is_readable old.chip address) → PartlyFed (read_frame address size) old d → IsStoppedSafely old byte 267 [] d
  inside_safely inside fed =
      elim (can_read old.chip address size) as (λ t. can_read old.chip address size ≡ t → IsStoppedSafely old byte 267 [] d)
      [ true ↦ λ e. (asking_changes_nothing old d byte (read_frame address size) is settled (read address size some most e refl) fed).0 | false ↦ λ e. over_safely inside e fed ] refl

  pub read_safely : PartlyFed (refusable_frame old.chip address size) old d → IsStoppedSafely old byte 267 [] d
  read_safely fed =
      elim (is_readable old.chip address) as (λ t. is_readable old.chip address ≡ t → PartlyFed (if t then read_frame address size else read_head address) old d → IsStoppedSafely old byte 267 [] d)
      [ true ↦ λ e f. inside_safely e f | false ↦ λ e f. outside_safely e f ] refl fed

pub reads_change_nothing : RefusableReadsChangeNothing
reads_change_nothing old d byte address size is settled some most fed =
    let s = read_safely old d byte address size is settled some most fed in
    (s, same_all old.chip old.flash d.flash is.size s.flash)
