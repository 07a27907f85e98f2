-- The steps of a command, on a device that waits for them.
use Rattle.std.proofs.Common.{◌≡◌, ℕ, List, [], ◌∷◌, ◌++◌, drop, Option, Some, None, refl, sym, ◌∙◌, ap, ap₂, subst, append_assoc, append-nil}
use Rattle.stm_wire.proofs.Names.{ack, answer, change_of, ChipData, command, Connected, Device, Effect, Fed, Feeds, LeavesFirst, owing, Phase, phase_after, Receives, reply_to, step_reply, Takes}
use Rattle.stm_wire.proofs.Names.{Verdict, verdict, with_rest}
use Rattle.stm_wire.specs.declared.verdict.Verdict.TheVariants.{Done}
use Rattle.stm_wire.proofs.Feeding.{Fed-split}

-- a done list changed_flash the flash, and left its reply
abbrev pub IsDone : Device → List ℕ → Device → Type 0
IsDone old bytes new =
    (flash : List ℕ) × Effect old.chip (change_of bytes) old.flash flash
    × (new ≡ record old { flash = flash; owed = old.owed ++ ack ∷ answer old.chip old.version old.codes old.flash bytes; phase = phase_after bytes })

-- no verdict comes while these bytes follow the rest
abbrev pub OpenAlong : ChipData → List ℕ → List ℕ → List ℕ → Type 0
OpenAlong chip codes rest [] = Unit {0}
OpenAlong chip codes rest (byte ∷ bytes) = (verdict chip codes (rest ++ byte ∷ []) ≡ None) × OpenAlong chip codes (rest ++ byte ∷ []) bytes

-- what is replied meanwhile
abbrev pub replies_along : List ℕ → List ℕ → List ℕ
replies_along rest [] = []
replies_along rest (byte ∷ bytes) = step_reply (rest ++ byte ∷ []) ++ replies_along (rest ++ byte ∷ []) bytes

takes-none : (old new : Device) (bytes : List ℕ) → verdict old.chip old.codes bytes ≡ None → Takes old bytes (verdict old.chip old.codes bytes) new
    → new ≡ record old { owed = old.owed ++ step_reply bytes; phase = Connected bytes }
takes-none old new bytes none t =
    let P : Option Verdict → Type 0 = λ v. Takes old bytes v new in
    let owing : List ℕ → Device = λ xs. record old { owed = old.owed ++ xs; phase = Connected bytes } in
    subst P none t ∙ ap owing (ap (λ v. reply_to v old.chip old.version old.codes old.flash bytes) none)

pub feeds-none : (byte : ℕ) (rest : List ℕ) (old new : Device) → old.phase ≡ Connected rest → verdict old.chip old.codes (rest ++ byte ∷ []) ≡ None → Feeds byte old new
    → new ≡ record old { owed = old.owed ++ step_reply (rest ++ byte ∷ []); phase = Connected (rest ++ byte ∷ []) }
feeds-none byte rest old new phase none f =
    let P : Phase → Type 0 = λ p. Receives old p byte new in
    takes-none old new (rest ++ byte ∷ []) none (subst P phase f.receives)

-- fed after a rest, with no verdict
pub fed-along : (bytes rest owed : List ℕ) (d new : Device) → OpenAlong d.chip d.codes rest bytes → Fed bytes (record d { owed = owed; phase = Connected rest }) new
    → new ≡ record d { owed = owed ++ replies_along rest bytes; phase = Connected (rest ++ bytes) }
fed-along [] rest owed d new waits f =
    let make : List ℕ → List ℕ → Device = λ xs ys. record d { owed = xs; phase = Connected ys } in
    f ∙ ap₂ make (sym (append-nil owed)) (sym (append-nil rest))
fed-along (byte ∷ bytes) rest owed d new waits f =
    let one = feeds-none byte rest (record d { owed = owed; phase = Connected rest }) f.0 refl waits.0 f.1 in
    let P : Device → Type 0 = λ e. Fed bytes e new in
    let make : List ℕ → List ℕ → Device = λ xs ys. record d { owed = xs; phase = Connected ys } in
    let reply = step_reply (rest ++ byte ∷ []) in
    fed-along bytes (rest ++ byte ∷ []) (owed ++ reply) d new waits.1 (subst P one f.2)
    ∙ ap₂ make (append_assoc owed reply (replies_along (rest ++ byte ∷ []) bytes)) (append_assoc rest (byte ∷ []) bytes)

-- a step that is acknowledged, and whose acknowledgement was taken
pub acknowledged-step : (rest bytes : List ℕ) (d old new : Device) → old ≡ with_rest rest d → OpenAlong d.chip d.codes rest bytes → replies_along rest bytes ≡ ack ∷ [] → Fed bytes old (owing (ack ∷ []) new) → new ≡ with_rest (rest ++ bytes) d
acknowledged-step rest bytes d old new here waits reply f =
    let P : Device → Type 0 = λ e. Fed bytes e (owing (ack ∷ []) new) in
    let fed = fed-along bytes rest [] d (owing (ack ∷ []) new) waits (subst P here f) in
    let make : List ℕ → Device = λ xs. record d { owed = xs; phase = Connected (rest ++ bytes) } in
    ap (λ (e : Device). let r : Device = record e { owed = drop 1 e.owed } in r) (fed ∙ ap make reply)

pub acknowledged-first : (rest bytes : List ℕ) (d old : Device) → old ≡ with_rest rest d → OpenAlong d.chip d.codes rest bytes → replies_along rest bytes ≡ ack ∷ [] → LeavesFirst ack bytes old
acknowledged-first rest bytes d old here waits reply new f =
    let P : Device → Type 0 = λ e. Fed bytes e new in
    ([], ap (λ (e : Device). e.owed) (fed-along bytes rest [] d new waits (subst P here f)) ∙ reply)

takes-done : (old new : Device) (bytes : List ℕ) → verdict old.chip old.codes bytes ≡ Some Done → Takes old bytes (verdict old.chip old.codes bytes) new → IsDone old bytes new
takes-done old new bytes done t =
    let P : Option Verdict → Type 0 = λ v. Takes old bytes v new in
    let t' = subst P done t in
    let make : List ℕ → Device = λ xs. record old { flash = t'.0; owed = old.owed ++ xs; phase = phase_after bytes } in
    (t'.0, t'.1, t'.2 ∙ ap make (ap (λ v. reply_to v old.chip old.version old.codes old.flash bytes) done))

-- the last byte of a command
pub feeds-done : (byte : ℕ) (rest : List ℕ) (old new : Device) → old.phase ≡ Connected rest → verdict old.chip old.codes (rest ++ byte ∷ []) ≡ Some Done → Feeds byte old new → IsDone old (rest ++ byte ∷ []) new
feeds-done byte rest old new phase done f =
    let P : Phase → Type 0 = λ p. Receives old p byte new in
    takes-done old new (rest ++ byte ∷ []) done (subst P phase f.receives)

-- the last step of a command
pub fed-done : (bytes : List ℕ) (byte : ℕ) (rest : List ℕ) (d new : Device) → OpenAlong d.chip d.codes rest bytes → replies_along rest bytes ≡ [] → verdict d.chip d.codes ((rest ++ bytes) ++ byte ∷ []) ≡ Some Done
    → Fed (bytes ++ byte ∷ []) (with_rest rest d) new → IsDone (with_rest (rest ++ bytes) d) ((rest ++ bytes) ++ byte ∷ []) new
fed-done bytes byte rest d new waits reply done f =
    let parts = Fed-split bytes (byte ∷ []) (with_rest rest d) new f in
    let make : List ℕ → Device = λ xs. record d { owed = xs; phase = Connected (rest ++ bytes) } in
    let first = fed-along bytes rest [] d parts.0 waits parts.1 ∙ ap make reply in
    let P : Device → Type 0 = λ e. Feeds byte e parts.2.0 in
    let Q : Device → Type 0 = λ e. IsDone (with_rest (rest ++ bytes) d) ((rest ++ bytes) ++ byte ∷ []) e in
    subst Q (sym parts.2.2) (feeds-done byte (rest ++ bytes) (with_rest (rest ++ bytes) d) parts.2.0 refl done (subst P first parts.2.1))

-- the code of a command, whichever it is, and its acknowledgement
module _ (code : ℕ) (d : Device) (settled : d ≡ with_rest [] d) (waits : OpenAlong d.chip d.codes [] (command code)) where
  pub code-first : LeavesFirst ack (command code) d
  code-first = acknowledged-first [] (command code) d d settled waits refl

  pub code-step : (new : Device) → Fed (command code) d (owing (ack ∷ []) new) → new ≡ with_rest (command code) d
  code-step new f = acknowledged-step [] (command code) d d new settled waits refl f
