-- The end of a read: the count, and the bytes.
use Rattle.std.proofs.Common.{◌≡◌, inl, ℕ, ◌+◌, ◌-◌, ◌/◌, ◌%◌, ◌≤◌, Bool, ◌&&◌, ◌==◌, List, [], ◌∷◌, ◌++◌, length, take, drop, Option, Some, IsTrue, refl, sym, ◌∙◌, ap, ap₂, subst, arith, eq-eqb}
use Rattle.stm_wire.proofs.Names.{ack, address_bytes, address_turns, BreaksOff, can_read, CanRead, CanTell, command, complement, Connected, Device, done_if, Fed, HasRead, is_readable, IsDevice}
use Rattle.stm_wire.proofs.Names.{IsHeldToEnd, learns, LeavesFirst, number_of, owing, read_frame, read_turns, read_verdict, readable_bytes, RigState, step_turns, TakesAddress, told_bytes, Verdict}
use Rattle.stm_wire.proofs.Names.{verdict, WireFault, with_checksum, with_rest}
use Rattle.stm_wire.proofs.Tellings.{flash-readable, flash-told, length-readable, readable-address}
use Rattle.stm_wire.specs.declared.verdict.Verdict.TheVariants.{Done}
use Rattle.std.proofs.Common.{replicate, append-nil}
use Rattle.std.proofs.lemmas.List.{length-replicate}
use Rattle.stm_wire.proofs.Holding.{Holds-append, Holds-then, BreaksOff-first, BreaksOff-second, BreaksOff-then}
use Rattle.stm_wire.proofs.Receiving.{answered}
use Rattle.stm_wire.proofs.Steps.{OpenAlong, fed-done}
use Rattle.stm_wire.proofs.Address.{verdict-listed, after_address-right, number_of-address_bytes}

pub takes-address : (address size : ℕ) (d : Device) → 1 ≤ size → CanTell address size d → TakesAddress 0x11 address d
takes-address address size d some can = record { settled = can.settled; takes = inl refl; inside = readable-address d.chip address size some can.readable }

-- what lies in the flash is told
pub tells : (address size : ℕ) (d : Device) → CanRead address size d → CanTell address size d
tells address size d can = record { settled = can.settled; readable = flash-readable d.chip address size can.inside }

module _ (address size : ℕ) (d : Device) (some : 1 ≤ size) (is : IsDevice d) (can : CanTell address size d) where
  head : List ℕ
  head = command 0x11 ++ with_checksum (address_bytes address)

  inside : IsTrue (is_readable d.chip address)
  inside = readable-address d.chip address size some can.readable

  count-waits : OpenAlong d.chip d.codes (command 0x11 ++ with_checksum (address_bytes address)) ((size - 1) ∷ [])
  count-waits = (verdict-listed d.chip d.codes 0x11 (with_checksum (address_bytes address) ++ (size - 1) ∷ []) is.read ∙ after_address-right (is_readable d.chip) (read_verdict d.chip) address ((size - 1) ∷ []) inside, tt)

  count-done : verdict d.chip d.codes ((command 0x11 ++ with_checksum (address_bytes address) ++ (size - 1) ∷ []) ++ complement (size - 1) ∷ []) ≡ Some Done
  count-done =
      let e : (size - 1) + 1 ≡ size = omega arith in
      let P : ℕ → Type 0 = λ n. Some (done_if (complement (size - 1) == complement (size - 1) && can_read d.chip address n)) ≡ Some Done in
      let choose : Bool → Bool → Option Verdict = λ x y. Some (done_if (x && y)) in
      verdict-listed d.chip d.codes 0x11 (with_checksum (address_bytes address) ++ (size - 1) ∷ complement (size - 1) ∷ []) is.read
      ∙ after_address-right (is_readable d.chip) (read_verdict d.chip) address ((size - 1) ∷ complement (size - 1) ∷ []) inside
      ∙ subst P (sym e) (ap₂ choose (eq-eqb (complement (size - 1)) (complement (size - 1)) refl) can.readable)

  after : (old new : Device) → old ≡ with_rest (command 0x11 ++ with_checksum (address_bytes address)) d → Fed (command (size - 1)) old new
      → new ≡ record d { owed = ack ∷ told_bytes address size d; phase = Connected [] }
  after old new here f =
      let P : Device → Type 0 = λ e. Fed (command (size - 1)) e new in
      let done = fed-done ((size - 1) ∷ []) (complement (size - 1)) (command 0x11 ++ with_checksum (address_bytes address)) d new count-waits refl count-done (subst P here f) in
      let make : List ℕ → ℕ → ℕ → Device = λ flash n a. record d { flash = flash; owed = ack ∷ readable_bytes d.chip d.flash a n; phase = Connected [] } in
      let e : (size - 1) + 1 ≡ size = omega arith in
      let number = number_of (address / 16777216) (address / 65536 % 256) (address / 256 % 256) (address % 256) in
      done.2 ∙ ap (λ (flash : List ℕ). make flash ((size - 1) + 1) number) done.1 ∙ ap₂ (make d.flash) e (number_of-address_bytes address)

  pub count-first : (old : Device) → old ≡ with_rest (command 0x11 ++ with_checksum (address_bytes address)) d → LeavesFirst ack (command (size - 1)) old
  count-first old here new f = (told_bytes address size d, ap (λ (e : Device). e.owed) (after old new here f))

  pub count-step : (old new : Device) → old ≡ with_rest (command 0x11 ++ with_checksum (address_bytes address)) d → Fed (command (size - 1)) old (owing (ack ∷ []) new)
      → new ≡ record d { owed = told_bytes address size d; phase = Connected [] }
  count-step old new here f = ap (λ (e : Device). let r : Device = record e { owed = drop 1 e.owed } in r) (after old (owing (ack ∷ []) new) here f)

  pub length-told : length (told_bytes address size d) ≡ size
  length-told = length-readable d.chip d.flash address size is.size can.readable

  pub has_told : (buf : List ℕ) (old new : Device) → length buf ≡ size → old ≡ record d { owed = told_bytes address size d; phase = Connected [] } → old ≡ owing buf new → (buf ≡ told_bytes address size d) × (new ≡ d)
  has_told buf old new full before taken = answered (told_bytes address size d) buf d old new can.settled before taken (full ∙ sym length-told)

-- the flash's bytes were told
pub has_read : (address size : ℕ) (d : Device) (some : 1 ≤ size) (is : IsDevice d) (can : CanRead address size d) (buf : List ℕ) (old new : Device) → length buf ≡ size
    → old ≡ record d { owed = told_bytes address size d; phase = Connected [] } → old ≡ owing buf new → HasRead address buf d new
has_read address size d some is can buf old new full before taken =
    let all = has_told address size d some is (tells address size d can) buf old new full before taken in
    record { same = all.1; read = all.0 ∙ flash-told d.chip d.flash address size can.inside ∙ ap (λ n. take n (drop (address - d.chip.base) d.flash)) (sym full) }

-- a read that was broken off before its bytes came could have brought any
pub read_broken : (fault : WireFault) (address n : ℕ) (a b : RigState) → BreaksOff fault (command 0x11 ++ with_checksum (address_bytes address)) (address_turns 0x11 address) a b
    → (answer : List ℕ) × (length answer ≡ n) × BreaksOff fault (read_frame address n) (read_turns address answer) a b
read_broken fault address n a b p =
    let head = command 0x11 ++ with_checksum (address_bytes address) in
    let answer = replicate n 0 in
    let size : length answer ≡ n = length-replicate n 0 in
    let P : ℕ → Type 0 = λ m. BreaksOff fault (read_frame address m) (read_turns address answer) a b in
    let Q : List ℕ → Type 0 = λ zs. BreaksOff fault zs (read_turns address answer) a b in
    let count = command (length answer - 1) in (
      answer,
      size,
      subst P size (subst Q (append-nil (head ++ count))
          (BreaksOff-first fault (head ++ count) [] (address_turns 0x11 address ++ step_turns count) (learns answer) a b (BreaksOff-first fault head count (address_turns 0x11 address) (step_turns count) a b p))),
    )

pub read_broken-2 : (fault : WireFault) (address n : ℕ) (a b c : RigState) → IsHeldToEnd (command 0x11 ++ with_checksum (address_bytes address)) (address_turns 0x11 address) a b
    → BreaksOff fault (command (n - 1)) (step_turns (command (n - 1))) b c
    → (answer : List ℕ) × (length answer ≡ n) × BreaksOff fault (read_frame address n) (read_turns address answer) a c
read_broken-2 fault address n a b c p q =
    let head = command 0x11 ++ with_checksum (address_bytes address) in
    let answer = replicate n 0 in
    let size : length answer ≡ n = length-replicate n 0 in
    let count = command (n - 1) in
    let Q : List ℕ → Type 0 = λ zs. BreaksOff fault zs ((address_turns 0x11 address ++ step_turns count) ++ learns answer) a c in
    let R : ℕ → Type 0 = λ m. BreaksOff fault (read_frame address n) ((address_turns 0x11 address ++ step_turns (command (m - 1))) ++ learns answer) a c in (
      answer,
      size,
      subst R (sym size) (subst Q (append-nil (head ++ count))
          (BreaksOff-first fault (head ++ count) [] (address_turns 0x11 address ++ step_turns count) (learns answer) a c (BreaksOff-second fault head count (address_turns 0x11 address) (step_turns count) a b c p q))),
    )

-- the address and the count, and then the bytes
module _ (address n : ℕ) (a b c d : RigState) (head : IsHeldToEnd (command 0x11 ++ with_checksum (address_bytes address)) (address_turns 0x11 address) a b) (count : IsHeldToEnd (command (n - 1)) (step_turns (command (n - 1))) b c) where
  asked : IsHeldToEnd (read_frame address n) (address_turns 0x11 address ++ step_turns (command (n - 1))) a c
  asked = Holds-append (command 0x11 ++ with_checksum (address_bytes address)) (command (n - 1)) (address_turns 0x11 address) (step_turns (command (n - 1))) a b c head count

  pub read_held : (answer : List ℕ) → length answer ≡ n → IsHeldToEnd [] (learns answer) c d → IsHeldToEnd (read_frame address n) (read_turns address answer) a d
  read_held answer size p =
      let R : ℕ → Type 0 = λ m. IsHeldToEnd (read_frame address n) ((address_turns 0x11 address ++ step_turns (command (m - 1))) ++ learns answer) a d in
      subst R (sym size) (Holds-then (read_frame address n) (address_turns 0x11 address ++ step_turns (command (n - 1))) (learns answer) a c d asked p)

  pub read_broken-3 : (fault : WireFault) → (answer : List ℕ) × (length answer ≡ n) × BreaksOff fault [] (learns answer) c d
      → (answer : List ℕ) × (length answer ≡ n) × BreaksOff fault (read_frame address n) (read_turns address answer) a d
  read_broken-3 fault (answer, size, p) =
      let R : ℕ → Type 0 = λ m. BreaksOff fault (read_frame address n) ((address_turns 0x11 address ++ step_turns (command (m - 1))) ++ learns answer) a d in
      (answer, size, subst R (sym size) (BreaksOff-then fault (read_frame address n) (address_turns 0x11 address ++ step_turns (command (n - 1))) (learns answer) a c d asked p))
