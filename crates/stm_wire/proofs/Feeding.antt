-- Bytes fed one after another, and owed bytes that are lost meanwhile.
use Rattle.std.proofs.Common.{if◌then◌else◌, true≢false, ◌≡◌, ℕ, zero, suc, Bool, true, false, ◌==◌, List, [], ◌∷◌, ◌++◌, drop, Option, Some, None, refl, sym, ◌∙◌, ap, subst}
use Rattle.stm_wire.proofs.Names.{ack, Connected, Device, Fed, Feeds, Fresh, Gone, is_protection, IsLoose, LosesOwed, Phase, phase_after, Receives, reply_of, Takes, Verdict, verdict}
use Rattle.stm_wire.specs.declared.verdict.Verdict.TheVariants.{Done, Refused, Loose}
use Rattle.stm_wire.specs.lemmas.MomentLaws.{LosesOwed-trans}

-- what was lost at the front can be lost after bytes came at the end
pub drop-append : (n : ℕ) (xs ys : List ℕ) → (m : ℕ) × (drop n xs ++ ys ≡ drop m (xs ++ ys))
drop-append zero xs ys = (0, refl)
drop-append (suc n) [] ys = (0, refl)
drop-append (suc n) (x ∷ xs) ys = let r = drop-append n xs ys in (suc r.0, r.1)

loose-lost : (n : ℕ) (a : Device) (bytes : List ℕ) (b : Bool) (c : Device) → is_protection bytes ≡ b → IsLoose (record a { owed = drop n a.owed }) bytes c → (e : Device) × IsLoose a bytes e × LosesOwed e c
loose-lost n a bytes true c is t =
    let m = drop-append n a.owed (reply_of a bytes) in (
      record c { owed = a.owed ++ reply_of a bytes },
      record { chip = t.chip; version = t.version; codes = t.codes; same_length = t.same_length; flash = t.flash; phase = t.phase; owed = λ _. refl },
      (m.0, ap (λ (xs : List ℕ). let r : Device = record c { owed = xs } in r) (t.owed is ∙ m.1)),
    )
loose-lost n a bytes false c is t = (
  c,
  record { chip = t.chip; version = t.version; codes = t.codes; same_length = t.same_length; flash = t.flash; phase = t.phase; owed = λ yes. absurd (true≢false (sym yes ∙ is)) },
  (0, refl),
)

takes-lost : (n : ℕ) (a : Device) (bytes : List ℕ) (v : Option Verdict) (c : Device) → Takes (record a { owed = drop n a.owed }) bytes v c → (e : Device) × Takes a bytes v e × LosesOwed e c
takes-lost n a bytes None c t =
    let m = drop-append n a.owed (reply_of a bytes) in (
      record a { owed = a.owed ++ reply_of a bytes; phase = Connected bytes },
      refl,
      (m.0, t ∙ ap (λ (xs : List ℕ). let r : Device = record a { owed = xs; phase = Connected bytes } in r) m.1),
    )
takes-lost n a bytes (Some Refused) c t =
    let m = drop-append n a.owed (reply_of a bytes) in (
      record a { owed = a.owed ++ reply_of a bytes; phase = Connected [] },
      refl,
      (m.0, t ∙ ap (λ (xs : List ℕ). let r : Device = record a { owed = xs; phase = Connected [] } in r) m.1),
    )
takes-lost n a bytes (Some Done) c t =
    let m = drop-append n a.owed (reply_of a bytes) in (
      record a { flash = t.0; owed = a.owed ++ reply_of a bytes; phase = phase_after bytes },
      (t.0, t.1, refl),
      (m.0, t.2 ∙ ap (λ (xs : List ℕ). let r : Device = record a { flash = t.0; owed = xs; phase = phase_after bytes } in r) m.1),
    )
takes-lost n a bytes (Some Loose) c t = loose-lost n a bytes (is_protection bytes) c refl t

fresh-lost : (n : ℕ) (a : Device) (b : Bool) (c : Device) → c ≡ (if b then record a { owed = drop n a.owed ++ ack ∷ []; phase = Connected [] } else record a { owed = drop n a.owed }) → (e : Device) × (e ≡ (if b then record a { owed = a.owed ++ ack ∷ []; phase = Connected [] } else a)) × LosesOwed e c
fresh-lost n a true c t =
    let m = drop-append n a.owed (ack ∷ []) in
    (record a { owed = a.owed ++ ack ∷ []; phase = Connected [] }, refl, (m.0, t ∙ ap (λ (xs : List ℕ). let r : Device = record a { owed = xs; phase = Connected [] } in r) m.1))
fresh-lost n a false c t = (a, refl, (n, t))

pub receives-lost : (n : ℕ) (a : Device) (phase : Phase) (byte : ℕ) (c : Device) → Receives (record a { owed = drop n a.owed }) phase byte c → (e : Device) × Receives a phase byte e × LosesOwed e c
receives-lost n a Fresh byte c r = fresh-lost n a (byte == 0x7F) c r
receives-lost n a (Connected rest) byte c r = takes-lost n a (rest ++ byte ∷ []) (verdict a.chip a.codes (rest ++ byte ∷ [])) c r
receives-lost n a Gone byte c r = (a, refl, (n, r))

-- a byte that is fed after a loss can be fed before it
pub feeds-lost : (a b c : Device) (byte : ℕ) → LosesOwed a b → Feeds byte b c → (e : Device) × Feeds byte a e × LosesOwed e c
feeds-lost a b c byte l f =
    let P : Device → Type 0 = λ d. Feeds byte d c in
    let f' = subst P l.1 f in
    let r = receives-lost l.0 a a.phase byte c f'.receives in
    (r.0, record { receives = r.1 }, r.2)

pub fed-lost : (bytes : List ℕ) (a b c : Device) → LosesOwed a b → Fed bytes b c → (e : Device) × Fed bytes a e × LosesOwed e c
fed-lost [] a b c l f = (a, refl, LosesOwed-trans a b c l (0, f))
fed-lost (byte ∷ bytes) a b c l f =
    let first = feeds-lost a b f.0 byte l f.1 in
    let rest = fed-lost bytes first.0 f.0 c first.2 f.2 in
    (rest.0, (first.0, first.1, rest.1), rest.2)

pub Fed-append : (xs ys : List ℕ) (a b c : Device) → Fed xs a b → Fed ys b c → Fed (xs ++ ys) a c
Fed-append [] ys a b c f g =
    let P : Device → Type 0 = λ d. Fed ys d c in
    subst P f g
Fed-append (x ∷ xs) ys a b c f g = (f.0, f.1, Fed-append xs ys f.0 b c f.2 g)

pub Fed-split : (xs ys : List ℕ) (a c : Device) → Fed (xs ++ ys) a c → (b : Device) × Fed xs a b × Fed ys b c
Fed-split [] ys a c f = (a, refl, f)
Fed-split (x ∷ xs) ys a c f =
    let r = Fed-split xs ys f.0 c f.2 in
    (r.0, (f.0, f.1, r.1), r.2)
