-- The erase of one page, by each of the two commands.
use Rattle.std.proofs.Common.{◌≡◌, ℕ, ◌/◌, ◌%◌, Bool, true, ◌&&◌, List, [], ◌∷◌, ◌++◌, drop, Option, Some, IsTrue, nat_lt, refl, sym, ◌∙◌, ap, ap₂, subst, arith, eq-eqb, lt-ltb}
use Rattle.stm_wire.proofs.Names.{ack, CanErase, command, Connected, Device, done_if, erased_pages, EraseKind, Fed, is_listed, IsDevice, LeavesFirst, ListsKind, owing, page_count, pair_of, Verdict}
use Rattle.stm_wire.proofs.Names.{verdict, with_checksum, with_pages_erased, with_rest, xor}
use Rattle.stm_wire.specs.declared.chip.EraseKind.TheVariants.{Page, Extended}
use Rattle.stm_wire.specs.declared.verdict.Verdict.TheVariants.{Done}
use Rattle.stm_wire.proofs.Steps.{OpenAlong, fed-done}
use Rattle.stm_wire.proofs.Address.{verdict-listed, command-waits}

-- a device of this kind lists its code
page-listed : (n : ℕ) (d : Device) → IsDevice d → CanErase Page n d → IsTrue (is_listed d.codes 0x43)
page-listed n d is can = let P : EraseKind → Type 0 = λ k. ListsKind k d.codes in (subst P can.same_kind is.erase).0

extended-listed : (n : ℕ) (d : Device) → IsDevice d → CanErase Extended n d → IsTrue (is_listed d.codes 0x44)
extended-listed n d is can = let P : EraseKind → Type 0 = λ k. ListsKind k d.codes in (subst P can.same_kind is.erase).0

-- the last step, from which the device comes out with the page erased
module _ (n code : ℕ) (d : Device) (settled : d ≡ with_rest [] d) (bytes : List ℕ)
    (ends : (new : Device) → Fed bytes (with_rest (command code) d) new → new ≡ record d { flash = erased_pages d.chip (n ∷ []) d.flash; owed = ack ∷ []; phase = Connected [] }) where
  after : (old new : Device) → old ≡ with_rest (command code) d → Fed bytes old new → new ≡ record d { flash = erased_pages d.chip (n ∷ []) d.flash; owed = ack ∷ []; phase = Connected [] }
  after old new here f = let P : Device → Type 0 = λ e. Fed bytes e new in ends new (subst P here f)

  pub pages-first : (old : Device) → old ≡ with_rest (command code) d → LeavesFirst ack bytes old
  pages-first old here new f = ([], ap (λ (e : Device). e.owed) (after old new here f))

  pub pages-step : (old new : Device) → old ≡ with_rest (command code) d → Fed bytes old (owing (ack ∷ []) new) → new ≡ with_pages_erased (n ∷ []) d
  pages-step old new here f =
      ap (λ (e : Device). let r : Device = record e { owed = drop 1 e.owed } in r) (after old (owing (ack ∷ []) new) here f)
      ∙ sym (ap (λ (e : Device). let r : Device = record e { flash = erased_pages d.chip (n ∷ []) d.flash } in r) settled)

module _ (n : ℕ) (d : Device) (is : IsDevice d) (can : CanErase Page n d) where
  byte-listed : IsTrue (is_listed d.codes 0x43)
  byte-listed = page-listed n d is can

  pub byte-code : OpenAlong d.chip d.codes [] (command 0x43)
  byte-code = command-waits d.chip d.codes 0x43 byte-listed refl

  byte-waits : OpenAlong d.chip d.codes (command 0x43) (0 ∷ n ∷ [])
  byte-waits = (verdict-listed d.chip d.codes 0x43 (0 ∷ []) byte-listed, (verdict-listed d.chip d.codes 0x43 (0 ∷ n ∷ []) byte-listed, tt))

  byte-done : verdict d.chip d.codes (command 0x43 ++ 0 ∷ n ∷ n ∷ []) ≡ Some Done
  byte-done =
      let choose : Bool → Bool → Option Verdict = λ x y. Some (done_if (x && (y && true))) in
      verdict-listed d.chip d.codes 0x43 (0 ∷ n ∷ n ∷ []) byte-listed ∙ ap₂ choose (eq-eqb n n refl) (lt-ltb n (page_count d.chip) can.exists)

  pub byte-ends : (new : Device) → Fed (0 ∷ n ∷ n ∷ []) (with_rest (command 0x43) d) new → new ≡ record d { flash = erased_pages d.chip (n ∷ []) d.flash; owed = ack ∷ []; phase = Connected [] }
  byte-ends new f =
      let r = fed-done (0 ∷ n ∷ []) n (command 0x43) d new byte-waits refl byte-done f in
      r.2 ∙ ap (λ (flash : List ℕ). let e : Device = record d { flash = flash; owed = ack ∷ []; phase = Connected [] } in e) r.1

module _ (n : ℕ) (d : Device) (is : IsDevice d) (can : CanErase Extended n d) where
  high : ℕ
  high = n / 256

  pair-listed : IsTrue (is_listed d.codes 0x44)
  pair-listed = extended-listed n d is can

  pub pair-code : OpenAlong d.chip d.codes [] (command 0x44)
  pair-code = command-waits d.chip d.codes 0x44 pair-listed refl

  pair-waits : OpenAlong d.chip d.codes (command 0x44) (0 ∷ 0 ∷ n / 256 ∷ n % 256 ∷ [])
  pair-waits =
      let at = λ (rest : List ℕ). verdict-listed d.chip d.codes 0x44 rest pair-listed in
      (at (0 ∷ []), (at (0 ∷ 0 ∷ []), (at (0 ∷ 0 ∷ n / 256 ∷ []), (at (0 ∷ 0 ∷ n / 256 ∷ n % 256 ∷ []), tt))))

  pair-number : pair_of (n / 256) (n % 256) ≡ n
  pair-number = omega arith

  pair-done : verdict d.chip d.codes (command 0x44 ++ with_checksum (0 ∷ 0 ∷ n / 256 ∷ n % 256 ∷ [])) ≡ Some Done
  pair-done =
      let check = xor (0 ∷ 0 ∷ n / 256 ∷ n % 256 ∷ []) in
      let choose : Bool → Bool → Option Verdict = λ x y. Some (done_if (x && (y && true))) in
      let exists : IsTrue (nat_lt (pair_of (n / 256) (n % 256)) (page_count d.chip)) = lt-ltb (pair_of (n / 256) (n % 256)) (page_count d.chip) (omega (arith, can.exists)) in
      verdict-listed d.chip d.codes 0x44 (with_checksum (0 ∷ 0 ∷ n / 256 ∷ n % 256 ∷ [])) pair-listed ∙ ap₂ choose (eq-eqb check check refl) exists

  pub pair-ends : (new : Device) → Fed (with_checksum (0 ∷ 0 ∷ n / 256 ∷ n % 256 ∷ [])) (with_rest (command 0x44) d) new → new ≡ record d { flash = erased_pages d.chip (n ∷ []) d.flash; owed = ack ∷ []; phase = Connected [] }
  pair-ends new f =
      let r = fed-done (0 ∷ 0 ∷ n / 256 ∷ n % 256 ∷ []) (xor (0 ∷ 0 ∷ n / 256 ∷ n % 256 ∷ [])) (command 0x44) d new pair-waits refl pair-done f in
      let e : List ℕ → Device = λ flash. record d { flash = flash; owed = ack ∷ []; phase = Connected [] } in
      r.2 ∙ ap e (r.1 ∙ ap (λ p. erased_pages d.chip (p ∷ []) d.flash) pair-number)
