-- Go: the code, and the address at whose checksum it is done.
use Rattle.std.proofs.Common.{◌≡◌, ℕ, ◌/◌, ◌%◌, List, [], ◌∷◌, ◌++◌, Some, refl, sym, ◌∙◌, ap, subst}
use Rattle.stm_wire.proofs.Names.{ack, address_bytes, at_end, CanGo, command, Device, Fed, Gone, is_inside, LeavesFirst, owing, verdict, with_checksum, with_rest, xor}
use Rattle.stm_wire.specs.declared.verdict.Verdict.TheVariants.{Done}
use Rattle.stm_wire.proofs.Steps.{OpenAlong, fed-done}
use Rattle.stm_wire.proofs.Address.{verdict-listed, after_address-right, command-waits}

module _ (address : ℕ) (d : Device) (can : CanGo address d) where
  pub go-code : OpenAlong d.chip d.codes [] (command 0x21)
  go-code = command-waits d.chip d.codes 0x21 can.listed refl

  waits : OpenAlong d.chip d.codes (command 0x21) (address_bytes address)
  waits =
      let at = λ (rest : List ℕ). verdict-listed d.chip d.codes 0x21 rest can.listed in
      (at (address / 16777216 ∷ []), (at (address / 16777216 ∷ address / 65536 % 256 ∷ []), (at (address / 16777216 ∷ address / 65536 % 256 ∷ address / 256 % 256 ∷ []), (at (address_bytes address), tt))))

  done : verdict d.chip d.codes (command 0x21 ++ with_checksum (address_bytes address)) ≡ Some Done
  done = verdict-listed d.chip d.codes 0x21 (with_checksum (address_bytes address)) can.listed ∙ after_address-right (is_inside d.chip) (λ n end. at_end Done end) address [] can.inside

  after : (old new : Device) → old ≡ with_rest (command 0x21) d → Fed (with_checksum (address_bytes address)) old new → new ≡ record d { flash = new.flash; owed = ack ∷ []; phase = Gone }
  after old new here f =
      let P : Device → Type 0 = λ e. Fed (with_checksum (address_bytes address)) e new in
      let r = fed-done (address_bytes address) (xor (address_bytes address)) (command 0x21) d new waits refl done (subst P here f) in
      let make : List ℕ → Device = λ flash. record d { flash = flash; owed = ack ∷ []; phase = Gone } in
      r.2 ∙ ap make (sym (ap (λ (e : Device). e.flash) r.2))

  pub go-first : (old : Device) → old ≡ with_rest (command 0x21) d → LeavesFirst ack (with_checksum (address_bytes address)) old
  go-first old here new f = ([], ap (λ (e : Device). e.owed) (after old new here f))

  pub gone : (old new : Device) → old ≡ with_rest (command 0x21) d → Fed (with_checksum (address_bytes address)) old (owing (ack ∷ []) new) → new.phase ≡ Gone
  gone old new here f = ap (λ (e : Device). e.phase) (after old (owing (ack ∷ []) new) here f)
