-- Get and Get ID: commands of a code alone, done at its complement.
use Rattle.std.proofs.Common.{◌≡◌, ℕ, ◌/◌, ◌%◌, List, [], ◌∷◌, ◌++◌, length, drop, Some, IsTrue, refl, sym, ◌∙◌, ap, ap₂, subst, arith, length-append, append_assoc}
use Rattle.std.proofs.lemmas.List.{append_cancel_right}
use Rattle.stm_wire.specs.declared.verdict.Verdict.TheVariants.{Done}
use Rattle.stm_wire.proofs.Names.{ack, answer, Change, change_of, command, command_verdict, complement, Connected, Device, Effect, Fed, is_listed, IsSettled, LeavesFirst, Nothing, OwesFirst, owing}
use Rattle.stm_wire.proofs.Names.{Phase, phase_after}
use Rattle.stm_wire.proofs.Steps.{fed-done}
use Rattle.stm_wire.proofs.Address.{verdict-listed, settled-is}
use Rattle.stm_wire.proofs.Receiving.{answered}

-- the data that the device answers to this code
abbrev pub data_of : ℕ → Device → List ℕ
data_of code d = answer d.chip d.version d.codes d.flash (command code)

module _ (code : ℕ) (d : Device) (settled : IsSettled d) (listed : IsTrue (is_listed d.codes code)) (ends : command_verdict d.chip code [] ≡ Some Done) (changes : change_of (command code) ≡ Nothing)
    (stays : phase_after (command code) ≡ Connected []) where
  after : (new : Device) → Fed (command code) d new → new ≡ record d { owed = ack ∷ data_of code d; phase = Connected [] }
  after new f =
      let P : Device → Type 0 = λ e. Fed (command code) e new in
      let r = fed-done (code ∷ []) (complement code) [] d new (refl, tt) refl (verdict-listed d.chip d.codes code [] listed ∙ ends) (subst P (settled-is d settled) f) in
      let E : Change → Type 0 = λ c. Effect d.chip c d.flash r.0 in
      let same : r.0 ≡ d.flash = subst E changes r.1 in
      let make : List ℕ → Phase → Device = λ flash p. record d { flash = flash; owed = ack ∷ data_of code d; phase = p } in
      r.2 ∙ ap₂ make same stays

  pub asked-first : LeavesFirst ack (command code) d
  asked-first new f = (data_of code d, ap (λ (e : Device). e.owed) (after new f))

  pub asked-step : (new : Device) → Fed (command code) d (owing (ack ∷ []) new) → new ≡ record d { owed = data_of code d; phase = Connected [] }
  asked-step new f = ap (λ (e : Device). let r : Device = record e { owed = drop 1 e.owed } in r) (after (owing (ack ∷ []) new) f)

-- the id that came is the chip's
pub id_answered : (id : ℕ) (d mid new : Device) → IsSettled d → mid ≡ record d { owed = 1 ∷ d.chip.id / 256 ∷ d.chip.id % 256 ∷ ack ∷ []; phase = Connected [] } → mid ≡ owing (1 ∷ id / 256 ∷ id % 256 ∷ ack ∷ []) new
    → (id ≡ d.chip.id) × (new ≡ d)
id_answered id d mid new settled before taken =
    let all = answered (1 ∷ d.chip.id / 256 ∷ d.chip.id % 256 ∷ ack ∷ []) (1 ∷ id / 256 ∷ id % 256 ∷ ack ∷ []) d mid new settled before taken refl in
    let high : id / 256 ≡ d.chip.id / 256 = cc in
    let low : id % 256 ≡ d.chip.id % 256 = cc in
    (omega (arith, high, low), all.1)

-- the version and the codes that came are the device's
pub codes_answered : (version : ℕ) (codes : List ℕ) (d mid last new : Device) → IsSettled d → mid ≡ record d { owed = length d.codes ∷ d.version ∷ (d.codes ++ ack ∷ []); phase = Connected [] }
    → mid ≡ owing (length codes ∷ version ∷ codes) last → last ≡ owing (ack ∷ []) new → (version ≡ d.version) × (codes ≡ d.codes) × (new ≡ d)
codes_answered version codes d mid last new settled before taken end =
    let xs = length d.codes ∷ d.version ∷ (d.codes ++ ack ∷ []) in
    let ys = length codes ∷ version ∷ (codes ++ ack ∷ []) in
    let parts : xs ≡ length codes ∷ version ∷ (codes ++ last.owed) = ap (λ (e : Device). e.owed) (sym before ∙ taken) in
    let size : length codes ≡ length d.codes = cc in
    let whole : mid ≡ owing ys new = taken ∙ ap (λ (e : Device). owing (length codes ∷ version ∷ codes) e) end ∙ ap (λ zs. let r : Device = record new { owed = length codes ∷ version ∷ zs } in r) (sym (append_assoc codes (ack ∷ []) new.owed)) in
    let all = answered xs ys d mid new settled before whole (omega (arith, size, length-append codes (ack ∷ []), length-append d.codes (ack ∷ []))) in
    let same_version : version ≡ d.version = cc in
    let tails : codes ++ ack ∷ [] ≡ d.codes ++ ack ∷ [] = cc in
    (same_version, append_cancel_right codes d.codes (ack ∷ []) tails, all.1)

-- after the codes the acknowledgement is owed
pub codes_owed : (version : ℕ) (codes : List ℕ) (d mid last : Device) → mid ≡ record d { owed = length d.codes ∷ d.version ∷ (d.codes ++ ack ∷ []); phase = Connected [] }
    → mid ≡ owing (length codes ∷ version ∷ codes) last → OwesFirst ack last
codes_owed version codes d mid last before taken =
    let parts : length d.codes ∷ d.version ∷ (d.codes ++ ack ∷ []) ≡ length codes ∷ version ∷ (codes ++ last.owed) = ap (λ (e : Device). e.owed) (sym before ∙ taken) in
    let size : length codes ≡ length d.codes = cc in
    let tails : d.codes ++ ack ∷ [] ≡ codes ++ last.owed = cc in
    ([], rest codes d.codes last.owed size tails)
  where
    rest : (ys bs xs : List ℕ) → length ys ≡ length bs → bs ++ ack ∷ [] ≡ ys ++ xs → xs ≡ ack ∷ []
    rest [] [] xs size e = sym e
    rest [] (b ∷ bs) xs size e = absurd (omega (arith, size))
    rest (y ∷ ys) [] xs size e = absurd (omega (arith, size))
    rest (y ∷ ys) (b ∷ bs) xs size e = let f : bs ++ ack ∷ [] ≡ ys ++ xs = cc in rest ys bs xs (omega (arith, size)) f
