-- How many copies of a byte end the list that a device waits in.
use Rattle.std.proofs.Common.{lit≤, lit<, ◌≡◌, ℕ, zero, suc, ◌+◌, ◌-◌, ◌*◌, ◌<◌, ◌≤◌, ⊎_elim, ◌&&◌}
use Rattle.std.proofs.Common.{Bool, true, false, IsTrue, cond, eqb, List, [], ◌∷◌, ◌++◌, length}
use Rattle.std.proofs.Common.{replicate, refl, sym, ap, ◌∙◌, subst, append_assoc, arith, min, max}
use Rattle.std.proofs.Common.{Option, Some, None}
use Rattle.std.proofs.lemmas.Bool.{cond_both, cases_lt}
use Rattle.std.proofs.lemmas.List.{length_push, take-append-le, take_all}
use Rattle.stm_wire.proofs.Names.{AwaitedIsLimited, Awaits, AwaitsIn, ChipData, complement, Connected, Device, EraseKind, Fresh, Gone, is_listed, IsEnough, IsOpen, IsOpenPhase, IsRefusedIn, ListsKind}
use Rattle.stm_wire.proofs.Names.{MoreSuffice, most_awaited, most_for, Phase, Verdict, verdict}
use Rattle.stm_wire.specs.declared.verdict.Verdict.TheVariants.{Done, Refused, Loose}
use Rattle.stm_wire.specs.declared.chip.EraseKind.TheVariants.{Page, Extended}
use Rattle.stm_wire.proofs.Mild.{no_pair}
use Rattle.stm_wire.proofs.Bound.{CanCount, IsBytes, IsCounted, by_recursion, counted, counted_more}
use Rattle.stm_wire.proofs.Bound.{list_least, list_most, list_short, longest_list, open_short}

enough_more : (v : Option Verdict) (P Q : Type 0) (left more : ℕ) → left ≤ more → (P → Q)
    → IsEnough v P left → IsEnough v Q more
enough_more None P Q left more le f e = f e
enough_more (Some Refused) P Q left more le f e = tt
enough_more (Some Done) P Q left more le f e = omega arith
enough_more (Some Loose) P Q left more le f e = omega arith

-- by the verdict
enough_by : (v : Option Verdict) (P : Type 0) (left : ℕ) → (v ≡ None → P)
    → (v ≡ Some Done → 2 ≤ left) → (v ≡ Some Loose → 2 ≤ left) → IsEnough v P left
enough_by None P left open' done loose = open' refl
enough_by (Some Refused) P left open' done loose = tt
enough_by (Some Done) P left open' done loose = done refl
enough_by (Some Loose) P left open' done loose = loose refl

-- more are enough too
pub refused_more : (chip : ChipData) (codes : List ℕ) (byte left more : ℕ) (rest : List ℕ)
    → left ≤ more → IsRefusedIn chip codes byte left rest → IsRefusedIn chip codes byte more rest
unfolding IsRefusedIn
refused_more chip codes byte zero more rest le w = absurd w
refused_more chip codes byte (suc left) zero rest le w = absurd (omega arith)
refused_more chip codes byte (suc left) (suc more) rest le w =
    let P : ℕ → Type 0 = λ n. IsRefusedIn chip codes byte n (rest ++ byte ∷ []) in
    enough_more (verdict chip codes (rest ++ byte ∷ [])) (P left) (P more) left more (omega arith)
    (λ p. refused_more chip codes byte left more (rest ++ byte ∷ []) (omega arith) p) w

-- two equal bytes are no pair
refused_twice : (chip : ChipData) (codes : List ℕ) (byte : ℕ) → IsRefusedIn chip codes byte 2 []
unfolding IsRefusedIn
refused_twice chip codes byte = rw (no_pair byte) tt

pub refused_empty : (chip : ChipData) (codes : List ℕ) (byte left : ℕ) → 2 ≤ left
    → IsRefusedIn chip codes byte left []
refused_empty chip codes byte left two = refused_more chip codes byte 2 left [] two
    (refused_twice chip codes byte)

in_more : (chip : ChipData) (codes : List ℕ) (byte left more : ℕ) (p : Phase) → left ≤ more
    → AwaitsIn chip codes byte left p → AwaitsIn chip codes byte more p
in_more chip codes byte left more Fresh le w = λ same. let three = w same in omega arith
in_more chip codes byte left more (Connected rest) le w = refused_more chip codes byte left more
    rest le w
in_more chip codes byte left more Gone le w = tt

pub more_suffice : MoreSuffice
more_suffice d byte left more le w = in_more d.chip d.codes byte left more d.phase le w

pub at_least : (kind : EraseKind) (byte : ℕ) → 267 ≤ most_for kind byte
at_least Page byte = lit≤ tt
at_least Extended byte = cond_both (eqb byte 0x7F) 131047 (min 131047 (max 267 (514 * byte + 8)))
    (λ n. 267 ≤ n) (λ _. lit≤ tt) (λ _. omega arith)

-- wherever a device is
pub awaits_at : (d : Device) (byte left : ℕ) (p : Phase) → d.phase ≡ p → AwaitsIn d.chip d.codes
    byte left p → Awaits byte left d
awaits_at d byte left p e w = subst (AwaitsIn d.chip d.codes byte left) (sym e) w

-- the byte was taken, and the list is open
pub nearer_open : (chip : ChipData) (codes : List ℕ) (byte : ℕ) (rest : List ℕ)
    → verdict chip codes (rest ++ byte ∷ []) ≡ None → (n : ℕ) → IsRefusedIn chip codes byte (suc n)
    rest → IsRefusedIn chip codes byte n (rest ++ byte ∷ [])
unfolding IsRefusedIn
nearer_open chip codes byte rest v n w =
    subst (λ (o : Option Verdict). IsEnough o (IsRefusedIn chip codes byte n (rest ++ byte ∷ [])) n)
    v w

-- or it is done, and a pair is left
two_left : (chip : ChipData) (codes : List ℕ) (byte : ℕ) (rest : List ℕ)
    → verdict chip codes (rest ++ byte ∷ []) ≡ Some Done → (n : ℕ) → IsRefusedIn chip codes byte
    (suc n) rest → 2 ≤ n
unfolding IsRefusedIn
two_left chip codes byte rest v n w =
    subst (λ (o : Option Verdict). IsEnough o (IsRefusedIn chip codes byte n (rest ++ byte ∷ [])) n)
    v w

pub nearer_done : (chip : ChipData) (codes : List ℕ) (byte : ℕ) (rest : List ℕ)
    → verdict chip codes (rest ++ byte ∷ []) ≡ Some Done → (n : ℕ) → IsRefusedIn chip codes byte
    (suc n) rest → IsRefusedIn chip codes byte n []
nearer_done chip codes byte rest v n w = refused_empty chip codes byte n
    (two_left chip codes byte rest v n w)

-- one at least is needed
pub refused_some : (chip : ChipData) (codes : List ℕ) (byte : ℕ) (rest : List ℕ)
    → IsRefusedIn chip codes byte 0 rest → ⊥
unfolding IsRefusedIn
refused_some chip codes byte rest w = w

-- a list that has a verdict behind so many of the byte
pub ends_behind : (chip : ChipData) (codes : List ℕ) (byte : ℕ) (k : ℕ) (v : Verdict)
    (rest : List ℕ) (left : ℕ) → verdict chip codes (rest ++ replicate (suc k) byte) ≡ Some v
    → k + 3 ≤ left → IsRefusedIn chip codes byte left rest
unfolding IsRefusedIn
ends_behind chip codes byte k v rest zero e le = absurd (omega arith)
ends_behind chip codes byte zero v rest (suc left) e le =
    let P = IsRefusedIn chip codes byte left (rest ++ byte ∷ []) in
    subst (λ (o : Option Verdict). IsEnough o P left) (sym e)
    (enough_by (Some v) P left (λ none. cc) (λ _. omega arith) (λ _. omega arith))
ends_behind chip codes byte (suc k) v rest (suc left) e le =
    let P = IsRefusedIn chip codes byte left (rest ++ byte ∷ []) in
    let more : verdict chip codes ((rest ++ byte ∷ []) ++ replicate (suc k) byte) ≡ Some v =
    ap (verdict chip codes) (append_assoc rest (byte ∷ []) (replicate (suc k) byte)) ∙ e in
    let next : P = ends_behind chip codes byte k v (rest ++ byte ∷ []) left more (omega arith) in
    enough_by (verdict chip codes (rest ++ byte ∷ [])) P left (λ _. next) (λ _. omega arith)
    (λ _. omega arith)

-- how many are enough by the code that the list begins with
abbrev pub awaited : List ℕ → ℕ → List ℕ → ℕ
awaited codes byte [] = 2
awaited codes byte (c ∷ []) = cond (eqb byte (complement c)) (3 + longest_list codes c) 1
awaited codes byte (c ∷ x ∷ rest) = 3 + (longest_list codes c + 1 - length (c ∷ x ∷ rest))

awaited_some : (codes : List ℕ) (byte : ℕ) (rest : List ℕ) → 1 ≤ awaited codes byte rest
awaited_some codes byte [] = lit≤ tt
awaited_some codes byte (c ∷ []) = cond_both (eqb byte (complement c)) (3 + longest_list codes c) 1
    (λ n. 1 ≤ n) (λ _. omega arith) (λ _. lit≤ tt)
awaited_some codes byte (c ∷ x ∷ rest) = omega arith

pub open_more : (chip : ChipData) (codes rest : List ℕ) (byte : ℕ) → IsOpen chip codes rest
    → verdict chip codes (rest ++ byte ∷ []) ≡ None → IsOpen chip codes (rest ++ byte ∷ [])
open_more chip codes rest byte o e n = ⊎_elim
    (λ (lt : n < length rest + 1). let le : n ≤ length rest = omega arith in rw take-append-le
    (o n))
    (λ (ge : length rest + 1 ≤ n). let all = take_all n (rest ++ byte ∷ [])
    (omega (arith, length_push rest byte)) in rw all e)
    (cases_lt n (length rest + 1))

pub bytes_more : (rest : List ℕ) (byte : ℕ) → IsBytes rest → byte < 256
    → IsBytes (rest ++ byte ∷ [])
bytes_more [] byte by small = (small, tt)
bytes_more (x ∷ rest) byte by small = (by.0, bytes_more rest byte by.1 small)

pub refused_pair : (chip : ChipData) (codes : List ℕ) (c byte : ℕ) → c ≡ byte
    → verdict chip codes (c ∷ byte ∷ []) ≡ Some Refused
refused_pair chip codes c byte e = rw (e, no_pair byte) refl

-- a pair of a code and another byte than its complement is refused
pub refused_other : (chip : ChipData) (codes : List ℕ) (c byte : ℕ) → eqb byte (complement c)
    ≡ false → verdict chip codes (c ∷ byte ∷ []) ≡ Some Refused
refused_other chip codes c byte e = rw e refl

-- what isn't refused is one
is_pair : (chip : ChipData) (codes : List ℕ) (c byte : ℕ) (v : Option Verdict)
    → (Some Refused ≡ v → ⊥) → verdict chip codes (c ∷ byte ∷ []) ≡ v → eqb byte (complement c)
    ≡ true
is_pair chip codes c byte v other e = go (eqb byte (complement c)) refl
  where
    go : (t : Bool) → eqb byte (complement c) ≡ t → t ≡ true
    go true is = refl
    go false is = absurd (other (sym (refused_other chip codes c byte is) ∙ e))

-- an open list is longer by the byte
falls_open : (chip : ChipData) (codes : List ℕ) (byte : ℕ) (rest : List ℕ)
    → IsCounted (rest ++ byte ∷ []) → IsOpen chip codes (rest ++ byte ∷ []) →
    verdict chip codes (rest ++ byte ∷ []) ≡ None → awaited codes byte (rest ++ byte ∷ []) < awaited
    codes byte rest
falls_open chip codes byte [] by o e = rw (no_pair byte) (lit< tt)
falls_open chip codes byte (c ∷ []) by o e = let least = list_least codes c in rw
    (is_pair chip codes c byte None (λ h. cc) e) (omega arith)
falls_open chip codes byte (c ∷ x ∷ rest) by o e =
    let h = open_short chip codes c x (rest ++ byte ∷ []) by o in let l = length_push rest byte in
    omega arith

-- a done one ends an exchange of more than one byte, unless these are a pair
falls_done : (chip : ChipData) (codes : List ℕ) (byte : ℕ) (rest : List ℕ)
    → verdict chip codes (rest ++ byte ∷ []) ≡ Some Done → 2 < awaited codes byte rest
falls_done chip codes byte [] e = absurd (let h : None ≡ Some Done = e in cc)
falls_done chip codes byte (c ∷ []) e = rw (is_pair chip codes c byte (Some Done) (λ h. cc) e)
    (omega arith)
falls_done chip codes byte (c ∷ x ∷ rest) e = omega arith

-- a loose one too
falls_loose : (chip : ChipData) (codes : List ℕ) (byte : ℕ) (rest : List ℕ)
    → verdict chip codes (rest ++ byte ∷ []) ≡ Some Loose → 2 < awaited codes byte rest
falls_loose chip codes byte [] e = absurd (let h : None ≡ Some Loose = e in cc)
falls_loose chip codes byte (c ∷ []) e = rw (is_pair chip codes c byte (Some Loose) (λ h. cc) e)
    (omega arith)
falls_loose chip codes byte (c ∷ x ∷ rest) e = omega arith

-- so many are enough
by_code : (chip : ChipData) (codes : List ℕ) (byte left c : ℕ) (rest : List ℕ) → CanCount c byte
    → IsCounted (c ∷ rest) → IsOpen chip codes (c ∷ rest) → awaited codes byte (c ∷ rest) ≤ left
    → IsRefusedIn chip codes byte left (c ∷ rest)
unfolding IsRefusedIn
by_code chip codes byte zero c rest can by o le = let some = awaited_some codes byte (c ∷ rest) in
    absurd (omega arith)
by_code chip codes byte (suc left) c rest can by o le =
    let more : List ℕ = c ∷ (rest ++ byte ∷ []) in
    let P = IsRefusedIn chip codes byte left more in
    let all : IsCounted more = counted_more c rest byte can by in
    enough_by (verdict chip codes more) P left
    (λ e.
    let open' : IsOpen chip codes more = open_more chip codes (c ∷ rest) byte o e in
    let falls : awaited codes byte more < awaited codes byte (c ∷ rest) = falls_open chip codes byte
    (c ∷ rest) all open' e in
    by_code chip codes byte left c (rest ++ byte ∷ []) can all open' (omega (arith, falls, le)))
    (λ e. let falls = falls_done chip codes byte (c ∷ rest) e in omega (arith, falls, le))
    (λ e. let falls = falls_loose chip codes byte (c ∷ rest) e in omega (arith, falls, le))

-- no more than the longest list allows
awaited_under : (codes : List ℕ) (byte n : ℕ) → 264 ≤ n → ((c : ℕ) → longest_list codes c ≤ n)
    → (rest : List ℕ) → awaited codes byte rest ≤ 3 + n
awaited_under codes byte n least most [] = omega arith
awaited_under codes byte n least most (c ∷ []) =
    let l = most c in cond_both (eqb byte (complement c)) (3 + longest_list codes c) 1
    (λ k. k ≤ 3 + n) (λ _. omega arith) (λ _. omega arith)
awaited_under codes byte n least most (c ∷ x ∷ rest) = let l = most c in omega arith

in_under : (chip : ChipData) (codes : List ℕ) (byte n : ℕ) → byte < 256 → 264 ≤ n
    → ((c : ℕ) → longest_list codes c ≤ n) → (p : Phase) → IsOpenPhase chip codes p
    → AwaitsIn chip codes byte (3 + n) p
in_under chip codes byte n small least most Fresh o = λ _. omega arith
in_under chip codes byte n small least most (Connected []) o = refused_empty chip codes byte (3 + n)
    (omega arith)
in_under chip codes byte n small least most (Connected (c ∷ rest)) o = by_code chip codes byte
    (3 + n) c rest (λ _. small, λ _. small) (counted (c ∷ rest) (by_recursion (c ∷ rest) o.1)) o.0
    (awaited_under codes byte n least most (c ∷ rest))
in_under chip codes byte n small least most Gone o = tt

unlisted : (t : Bool) → (IsTrue t → ⊥) → t ≡ false
unlisted true never = absurd (never refl)
unlisted false never = refl

-- of any device
pub awaited_limited : AwaitedIsLimited
awaited_limited d is byte small = go d.chip.kind is.erase
  where
    go : (kind : EraseKind) → ListsKind kind d.codes → Awaits byte (most_awaited kind) d
    go Page lists = in_under d.chip d.codes byte 264 small (lit≤ tt)
        (λ c. let l = list_short d.codes c (unlisted (is_listed d.codes 0x44) lists.1) in omega
        arith) d.phase is.phase
    go Extended lists = in_under d.chip d.codes byte 131044 small (lit≤ tt) (list_most d.codes)
        d.phase is.phase

-- a list that isn't an erase by 44 is short
pub ends_short : (chip : ChipData) (codes : List ℕ) (byte : ℕ) (c : ℕ) (rest : List ℕ)
    → CanCount c byte → IsCounted (c ∷ rest) → IsOpen chip codes (c ∷ rest) → eqb c 0x44 ≡ false
    → IsRefusedIn chip codes byte 267 (c ∷ rest)
ends_short chip codes byte c rest can by o other = by_code chip codes byte 267 c rest can by o
    (most rest)
  where
    at : Bool → Bool → ℕ
    at listed is = cond (listed && is) 131044 264

    none : (listed : Bool) → at listed false ≡ 264
    none true = refl
    none false = refl

    short : longest_list codes c ≡ 264
    short = ap (at (is_listed codes 0x44)) other ∙ none (is_listed codes 0x44)

    most : (rest : List ℕ) → awaited codes byte (c ∷ rest) ≤ 267
    most [] = cond_both (eqb byte (complement c)) (3 + longest_list codes c) 1 (λ k. k ≤ 267)
        (λ _. omega (arith, short)) (λ _. lit≤ tt)
    most (x ∷ rest) = omega (arith, short)

-- and any is no longer than the longest
pub ends_any : (chip : ChipData) (codes : List ℕ) (byte : ℕ) (c : ℕ) (rest : List ℕ)
    → CanCount c byte → IsCounted (c ∷ rest) → IsOpen chip codes (c ∷ rest) → IsRefusedIn chip codes
    byte 131047 (c ∷ rest)
ends_any chip codes byte c rest can by o = by_code chip codes byte 131047 c rest can by o
    (awaited_under codes byte 131044 (lit≤ tt) (list_most codes) (c ∷ rest))
