-- The code and the address of a command that reads or writes.
use Rattle.std.proofs.Common.{◌≡◌, ◌⊎◌, inl, inr, ℕ, ◌/◌, ◌%◌, Bool, ◌&&◌, ◌==◌, List, [], ◌∷◌, ◌++◌, Option, None, IsTrue, refl, sym, ◌∙◌, ap₂, subst, arith, if◌then◌else◌, eq-eqb}
use Rattle.stm_wire.proofs.Names.{ack, address_bytes, after_address, at_end, ChipData, command, command_verdict, complement, Device, Fed, is_listed, IsDevice, IsSettled, LeavesFirst, number_of, owing}
use Rattle.stm_wire.proofs.Names.{Phase, read_verdict, takes_at, TakesAddress, Verdict, verdict, with_checksum, with_rest, write_verdict, xor}
use Rattle.stm_wire.specs.declared.verdict.Verdict.TheVariants.{Refused}
use Rattle.stm_wire.proofs.Steps.{OpenAlong, replies_along, acknowledged-step, acknowledged-first}

pub number_of-address_bytes : (address : ℕ) → number_of (address / 16777216) (address / 65536 % 256) (address / 256 % 256) (address % 256) ≡ address
number_of-address_bytes address = omega arith

pub verdict-listed : (chip : ChipData) (codes : List ℕ) (code : ℕ) (rest : List ℕ) → IsTrue (is_listed codes code) → verdict chip codes (code ∷ complement code ∷ rest) ≡ command_verdict chip code rest
verdict-listed chip codes code rest listed =
    let choose : Bool → Bool → Option Verdict = λ x y. if x && y then command_verdict chip code rest else at_end Refused rest in
    ap₂ choose (eq-eqb (complement code) (complement code) refl) listed

-- the code waits for what follows it
pub command-waits : (chip : ChipData) (codes : List ℕ) (code : ℕ) → IsTrue (is_listed codes code) → command_verdict chip code [] ≡ None → OpenAlong chip codes [] (command code)
command-waits chip codes code listed none = (refl, (verdict-listed chip codes code [] listed ∙ none, tt))

pub after_address-right : (takes : ℕ → Bool) (next : ℕ → List ℕ → Option Verdict) (address : ℕ) (rest : List ℕ) → IsTrue (takes address)
    → after_address takes next (with_checksum (address_bytes address) ++ rest) ≡ next address rest
after_address-right takes next address rest inside =
    let n = number_of (address / 16777216) (address / 65536 % 256) (address / 256 % 256) (address % 256) in
    let x = xor (address_bytes address) in
    let choose : Bool → Bool → ℕ → Option Verdict = λ t i a. if t && i then next a rest else at_end Refused rest in
    let P : ℕ → Type 0 = λ a. choose (x == x) (takes a) a ≡ next address rest in
    subst P (sym (number_of-address_bytes address)) (ap₂ (λ t i. choose t i address) (eq-eqb x x refl) inside)

-- the code is followed by an address
pub record Addressed (chip : ChipData) (code : ℕ) : Type 0 where
  pub next : ℕ → List ℕ → Option Verdict
  pub goes_on : (rest : List ℕ) → command_verdict chip code rest ≡ after_address (takes_at chip code) next rest
  pub waits : (address : ℕ) → next address [] ≡ None

pub addressed : (chip : ChipData) (code : ℕ) → (code ≡ 0x11) ⊎ (code ≡ 0x31) → Addressed chip code
addressed chip code (inl e) =
    let P : ℕ → Type 0 = λ c. Addressed chip c in
    subst P (sym e) (record { next = read_verdict chip; goes_on = λ rest. refl; waits = λ address. refl })
addressed chip code (inr e) =
    let P : ℕ → Type 0 = λ c. Addressed chip c in
    subst P (sym e) (record { next = write_verdict chip; goes_on = λ rest. refl; waits = λ address. refl })

pub address-waits : (chip : ChipData) (codes : List ℕ) (code address : ℕ) → IsTrue (is_listed codes code) → Addressed chip code → IsTrue (takes_at chip code address)
    → OpenAlong chip codes (command code) (with_checksum (address_bytes address))
address-waits chip codes code address listed a inside =
    let at = λ (rest : List ℕ). verdict-listed chip codes code rest listed ∙ a.goes_on rest in (
      at (address / 16777216 ∷ []),
      (
        at (address / 16777216 ∷ address / 65536 % 256 ∷ []),
        (
          at (address / 16777216 ∷ address / 65536 % 256 ∷ address / 256 % 256 ∷ []),
          (at (address_bytes address), (at (with_checksum (address_bytes address) ++ []) ∙ after_address-right (takes_at chip code) a.next address [] inside ∙ a.waits address, tt)),
        ),
      ),
    )

pub address-reply : (code address : ℕ) → (code ≡ 0x11) ⊎ (code ≡ 0x31) → replies_along (command code) (with_checksum (address_bytes address)) ≡ ack ∷ []
address-reply code address (inl e) =
    let P : ℕ → Type 0 = λ c. replies_along (command c) (with_checksum (address_bytes address)) ≡ ack ∷ [] in subst P (sym e) refl
address-reply code address (inr e) =
    let P : ℕ → Type 0 = λ c. replies_along (command c) (with_checksum (address_bytes address)) ≡ ack ∷ [] in subst P (sym e) refl

pub code-listed : (code : ℕ) (d : Device) → IsDevice d → (code ≡ 0x11) ⊎ (code ≡ 0x31) → IsTrue (is_listed d.codes code)
code-listed code d is (inl e) = let P : ℕ → Type 0 = λ c. IsTrue (is_listed d.codes c) in subst P (sym e) is.read
code-listed code d is (inr e) = let P : ℕ → Type 0 = λ c. IsTrue (is_listed d.codes c) in subst P (sym e) is.write

pub code-open : (chip : ChipData) (code : ℕ) → (code ≡ 0x11) ⊎ (code ≡ 0x31) → command_verdict chip code [] ≡ None
code-open chip code (inl e) = let P : ℕ → Type 0 = λ c. command_verdict chip c [] ≡ None in subst P (sym e) refl
code-open chip code (inr e) = let P : ℕ → Type 0 = λ c. command_verdict chip c [] ≡ None in subst P (sym e) refl

pub settled-is : (d : Device) → IsSettled d → d ≡ with_rest [] d
settled-is d s =
    let make : Phase → List ℕ → Device = λ p xs. record d { owed = xs; phase = p } in
    ap₂ make s.phase s.owed

module _ (code address : ℕ) (d : Device) (is : IsDevice d) (takes : TakesAddress code address d) where
  pub code-waits : OpenAlong d.chip d.codes [] (command code)
  code-waits = command-waits d.chip d.codes code (code-listed code d is takes.takes) (code-open d.chip code takes.takes)

  waits : OpenAlong d.chip d.codes (command code) (with_checksum (address_bytes address))
  waits = address-waits d.chip d.codes code address (code-listed code d is takes.takes) (addressed d.chip code takes.takes) takes.inside

  pub address-first : (old : Device) → old ≡ with_rest (command code) d → LeavesFirst ack (with_checksum (address_bytes address)) old
  address-first old here = acknowledged-first (command code) (with_checksum (address_bytes address)) d old here waits (address-reply code address takes.takes)

  pub address-step : (old new : Device) → old ≡ with_rest (command code) d → Fed (with_checksum (address_bytes address)) old (owing (ack ∷ []) new)
      → new ≡ with_rest (command code ++ with_checksum (address_bytes address)) d
  address-step old new here f = acknowledged-step (command code) (with_checksum (address_bytes address)) d old new here waits (address-reply code address takes.takes) f
