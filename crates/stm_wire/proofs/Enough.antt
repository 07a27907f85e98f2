-- How many settling bytes are enough where a frame of stmflash's own was begun.
use Rattle.std.proofs.Common.{lit≤, lit<, ◌≡◌, ℕ, zero, suc, ◌+◌, ◌*◌, ◌/◌, ◌%◌, ◌<◌, ◌≤◌, ◌⊎◌, inl}
use Rattle.std.proofs.Common.{inr, ⊎_elim, Bool, true, false, cond, ◌&&◌, eqb, leb, List, [], ◌∷◌}
use Rattle.std.proofs.Common.{◌++◌, length, take, replicate, get_or, refl, sym, ap, ◌∙◌, subst}
use Rattle.std.proofs.Common.{append_assoc, arith, Option, Some, None, min, max, nat_lt, IsTrue}
use Rattle.std.proofs.lemmas.Bool.{eq-eqb, ne_eqb, cases_eq, cases_lt, false≢true}
use Rattle.std.proofs.lemmas.Bool.Decides.{nat_tests}
use Rattle.std.proofs.lemmas.List.{append-nil, length-replicate}
use Rattle.stm_wire.proofs.Names.{all_exist, all_verdict, Awaits, ChipData, Connected, Device, done_if, erase_frame, EraseKind, Intent, is_listed, IsOpen, IsRefusedIn, ListsKind, most_for, pair_of}
use Rattle.stm_wire.proofs.Names.{settling_byte, two_byte_numbers, Verdict, verdict, xor}
use Rattle.stm_wire.specs.declared.chip.EraseKind.TheVariants.{Page, Extended}
use Rattle.stm_wire.specs.declared.intent.Intent.TheVariants.{Erase, Program}
use Rattle.stm_wire.specs.declared.verdict.Verdict.TheVariants.{Refused, Loose}
use Rattle.stm_wire.proofs.Address.{verdict-listed}
use Rattle.stm_wire.proofs.Bound.{CanCount, IsCounted}
use Rattle.stm_wire.proofs.Ending.{at_least, awaits_at, ends_any, ends_behind, ends_short}
use Rattle.stm_wire.proofs.Ending.{open_more, refused_empty, refused_more, refused_other}
use Rattle.stm_wire.proofs.Steps.{OpenAlong}

pub empty_enough : (d : Device) (byte most : ℕ) → 2 ≤ most → d.phase ≡ Connected []
    → Awaits byte most d
empty_enough d byte most two e = awaits_at d byte most (Connected []) e
    (refused_empty d.chip d.codes byte most two)

-- so many of the byte are enough behind any beginning of a frame
abbrev pub Enough : ChipData → List ℕ → ℕ → ℕ → List ℕ → Type 0
Enough chip codes byte most frame = (n : ℕ) → IsCounted (take n frame)
    → IsOpen chip codes (take n frame) → IsRefusedIn chip codes byte most (take n frame)

-- of a frame that is no erase by 44
pub enough_short : (chip : ChipData) (codes : List ℕ) (byte most c : ℕ) (frame : List ℕ)
    → 267 ≤ most → CanCount c byte → eqb c 0x44 ≡ false → Enough chip codes byte most (c ∷ frame)
enough_short chip codes byte most c frame le can other zero by o = refused_empty chip codes byte
    most (omega arith)
enough_short chip codes byte most c frame le can other (suc n) by o = refused_more chip codes byte
    267 most (c ∷ take n frame) le (ends_short chip codes byte c (take n frame) can by o other)

-- no count follows these codes
pub no_count : (c byte : ℕ) → eqb c 0x31 ≡ false → eqb c 0x43 ≡ false → CanCount c byte
no_count c byte e f = (λ g. absurd (false≢true (sym e ∙ g)), λ g. absurd (false≢true (sym f ∙ g)))

pub counts_none : (c x : ℕ) (ys : List ℕ) → eqb c 0x31 ≡ false → eqb c 0x43 ≡ false → (n : ℕ)
    → IsCounted (take n (c ∷ x ∷ ys))
counts_none c x ys e f zero = tt
counts_none c x ys e f (suc zero) = tt
counts_none c x ys e f (suc (suc n)) =
    (λ g. absurd (false≢true (sym e ∙ g)), λ g. absurd (false≢true (sym f ∙ g)))

-- a write's count
pub counts_write : (x a b c d check count : ℕ) (data' : List ℕ) → count < 256 → (n : ℕ)
    → IsCounted (take n (0x31 ∷ x ∷ a ∷ b ∷ c ∷ d ∷ check ∷ count ∷ data'))
counts_write x a b c d check count data' small n = go n
  where
    no : (P : Type 0) → eqb 0x31 0x43 ≡ true → P
    no P e = absurd (false≢true e)

    go : (n : ℕ) → IsCounted (take n (0x31 ∷ x ∷ a ∷ b ∷ c ∷ d ∷ check ∷ count ∷ data'))
    go zero = tt
    go (suc zero) = tt
    go (suc (suc zero)) = (λ _. lit< tt, no _)
    go (suc (suc (suc zero))) = (λ _. lit< tt, no _)
    go (suc (suc (suc (suc zero)))) = (λ _. lit< tt, no _)
    go (suc (suc (suc (suc (suc zero))))) = (λ _. lit< tt, no _)
    go (suc (suc (suc (suc (suc (suc zero)))))) = (λ _. lit< tt, no _)
    go (suc (suc (suc (suc (suc (suc (suc zero))))))) = (λ _. lit< tt, no _)
    go (suc (suc (suc (suc (suc (suc (suc (suc n)))))))) = (λ _. small, no _)

-- an erase's of one page
pub counts_page : (x N check : ℕ) (n : ℕ) → IsCounted (take n (0x43 ∷ x ∷ 0 ∷ N ∷ check ∷ []))
counts_page x N check zero = tt
counts_page x N check (suc zero) = tt
counts_page x N check (suc (suc zero)) = (λ e. absurd (false≢true e), λ _. lit< tt)
counts_page x N check (suc (suc (suc n))) = (λ e. absurd (false≢true e), λ _. lit< tt)

-- a list of pages by 44 that is whole has a verdict
pub pages_end : (chip : ChipData) (codes : List ℕ) (h l : ℕ) (ys : List ℕ)
    → IsTrue (is_listed codes 0x44) → pair_of h l < 0xFFF0 → length ys ≡ 2 * (pair_of h l + 1) + 1
    → (v : Verdict) × (verdict chip codes (0x44 ∷ 0xBB ∷ h ∷ l ∷ ys) ≡ Some v)
pages_end chip codes h l ys listed few len = (
  done_if test,
  verdict-listed chip codes 0x44 (h ∷ l ∷ ys) listed ∙ by (eqb n 0xFFFF) (leb 0xFFF0 n)
      (eqb (length ys) (size + 1)) (ne_eqb n 0xFFFF (λ e. omega (arith, e, few)))
      (grind (arith, nat_tests)) (eq-eqb (length ys) (size + 1) len),
)
  where
    n : ℕ
    n = pair_of h l

    size : ℕ
    size = 2 * (n + 1)

    test : Bool
    test = eqb (get_or ys size 0) (xor ((h ∷ l ∷ []) ++ take size ys)) && all_exist chip
        (two_byte_numbers (take size ys))

    by : (s t u : Bool) → s ≡ false → t ≡ false → u ≡ true → cond s (all_verdict ys)
        (cond t (cond (eqb (length ys) 1) (Some Loose) None) (cond u (Some (done_if test)) None))
        ≡ Some (done_if test)
    by s t u es et eu = rw (es, et, eu) refl

-- how many the limit is, by the byte
most_cases : (byte : ℕ) → (131047 ≤ most_for Extended byte)
    ⊎ ((byte ≤ 254) × (514 * byte + 8 ≤ most_for Extended byte))
most_cases byte = go (eqb byte 0x7F)
  where
    go : (t : Bool) → let most = cond t 131047 (min 131047 (max 267 (514 * byte + 8))) in
        (131047 ≤ most) ⊎ ((byte ≤ 254) × (514 * byte + 8 ≤ most))
    go true = inl (lit≤ tt)
    go false = ⊎_elim (λ (low : byte < 255). inr (omega arith, omega arith))
        (λ (high : 255 ≤ byte). inl (omega arith)) (cases_lt byte 255)

-- of an erase of one page by 44
module _ (chip : ChipData) (codes : List ℕ) (byte h l check : ℕ)
    (listed : IsTrue (is_listed codes 0x44)) where
  abbrev frame : List ℕ
  frame = 0x44 ∷ 0xBB ∷ 0 ∷ 0 ∷ h ∷ l ∷ check ∷ []

  abbrev most : ℕ
  most = most_for Extended byte

  -- the list that goes on with the byte, where its count is known
  behind : (a b : ℕ) (ys : List ℕ) (k : ℕ) (rest : List ℕ)
      → rest ++ replicate (suc k) byte ≡ 0x44 ∷ 0xBB ∷ a ∷ b ∷ ys → pair_of a b < 0xFFF0
      → length ys ≡ 2 * (pair_of a b + 1) + 1 → k + 3 ≤ most
      → IsRefusedIn chip codes byte most rest
  behind a b ys k rest e few len le =
      let end = pages_end chip codes a b ys listed few len in
      ends_behind chip codes byte k end.0 rest most (ap (verdict chip codes) e ∙ end.1) le

  module _ (low : byte ≤ 254) (many : 514 * byte + 8 ≤ most) (least : 267 ≤ most) where
    abbrev size : ℕ → ℕ
    size a = 2 * (pair_of a byte + 1) + 1

    -- the byte twice is the count
    count_itself : IsRefusedIn chip codes byte most (0x44 ∷ 0xBB ∷ [])
    count_itself =
        let len = length-replicate (size byte) byte in
        behind byte byte (replicate (size byte) byte) (suc (size byte)) (0x44 ∷ 0xBB ∷ []) refl
        (omega arith) len (omega arith)

    -- and where it is the complement of the code too
    code_itself : IsRefusedIn chip codes byte most (0x44 ∷ [])
    code_itself = ⊎_elim
        (λ (same : byte ≡ 0xBB).
        let len = length-replicate (size byte) byte in
        let more = byte ∷ replicate (suc (size byte)) byte in
        let pair : byte ∷ more ≡ 0xBB ∷ more = ap (λ (x : ℕ). x ∷ more) same in
        behind byte byte (replicate (size byte) byte) (suc (suc (size byte))) (0x44 ∷ [])
        (ap (λ (xs : List ℕ). 0x44 ∷ xs) pair) (omega arith) len (omega arith))
        (λ (other : byte ≡ 0xBB → ⊥). ends_behind chip codes byte 0 Refused (0x44 ∷ []) most
        (refused_other chip codes 0x44 byte (ne_eqb byte 0xBB other)) (omega arith))
        (cases_eq byte 0xBB)

    half : IsRefusedIn chip codes byte most (0x44 ∷ 0xBB ∷ 0 ∷ [])
    half =
        let len = length-replicate (size 0) byte in
        behind 0 byte (replicate (size 0) byte) (size 0) (0x44 ∷ 0xBB ∷ 0 ∷ []) refl (omega arith)
        len (omega arith)

  enough_low : byte ≤ 254 → 514 * byte + 8 ≤ most → Enough chip codes byte most frame
  enough_low low many zero by o = refused_empty chip codes byte most
      (let least = at_least Extended byte in omega arith)
  enough_low low many (suc zero) by o = code_itself low many (at_least Extended byte)
  enough_low low many (suc (suc zero)) by o = count_itself low many (at_least Extended byte)
  enough_low low many (suc (suc (suc zero))) by o = half low many (at_least Extended byte)
  enough_low low many (suc (suc (suc (suc zero)))) by o =
      let least = at_least Extended byte in
      behind 0 0 (byte ∷ byte ∷ byte ∷ []) 2 (0x44 ∷ 0xBB ∷ 0 ∷ 0 ∷ []) refl (lit< tt) refl
      (omega arith)
  enough_low low many (suc (suc (suc (suc (suc zero))))) by o =
      let least = at_least Extended byte in
      behind 0 0 (h ∷ byte ∷ byte ∷ []) 1 (0x44 ∷ 0xBB ∷ 0 ∷ 0 ∷ h ∷ []) refl (lit< tt) refl
      (omega arith)
  enough_low low many (suc (suc (suc (suc (suc (suc zero)))))) by o =
      let least = at_least Extended byte in
      behind 0 0 (h ∷ l ∷ byte ∷ []) 0 (0x44 ∷ 0xBB ∷ 0 ∷ 0 ∷ h ∷ l ∷ []) refl (lit< tt) refl
      (omega arith)
  enough_low low many (suc (suc (suc (suc (suc (suc (suc n))))))) by o =
      let end = pages_end chip codes 0 0 (h ∷ l ∷ check ∷ []) listed (lit< tt) refl in
      let e : None ≡ Some end.0 = sym (o 7) ∙ end.1 in
      absurd cc

  pub enough_extended : byte < 256 → Enough chip codes byte most frame
  enough_extended small n by o = ⊎_elim (λ all. any n by o all)
      (λ few. enough_low few.0 few.1 n by o) (most_cases byte)
    where
      any : (n : ℕ) → IsCounted (take n frame) → IsOpen chip codes (take n frame) → 131047 ≤ most
          → IsRefusedIn chip codes byte most (take n frame)
      any zero by o all = refused_empty chip codes byte most (omega arith)
      any (suc n) by o all =
          let rest = take n (0xBB ∷ 0 ∷ 0 ∷ h ∷ l ∷ check ∷ []) in
          refused_more chip codes byte 131047 most (0x44 ∷ rest) all
          (ends_any chip codes byte 0x44 rest (no_count 0x44 byte refl refl) by o)

-- of an erase of a page, by either code
pub enough_erase : (chip : ChipData) (codes : List ℕ) (kind : EraseKind) (byte N : ℕ)
    → ListsKind kind codes → byte < 256
    → Enough chip codes byte (most_for kind byte) (erase_frame kind N)
enough_erase chip codes Page byte N lists small = enough_short chip codes byte 267 0x43
    (0xBC ∷ 0 ∷ N ∷ xor (0 ∷ N ∷ []) ∷ []) (lit≤ tt) (λ _. small, λ _. small) refl
enough_erase chip codes Extended byte N lists small = enough_extended chip codes byte (N / 256)
    (N % 256) (xor (0 ∷ 0 ∷ N / 256 ∷ N % 256 ∷ [])) lists.0 small

pub byte_small : (intent : Option Intent) → settling_byte intent < 256
byte_small None = lit< tt
byte_small (Some (Erase n)) = ⊎_elim
    (λ (low : n < 256). let t : nat_lt n 256 ≡ true = grind (arith, nat_tests) in rw t low)
    (λ (high : 256 ≤ n). let t : nat_lt n 256 ≡ false = grind (arith, nat_tests) in rw t (lit< tt))
    (cases_lt n 256)
byte_small (Some (Program n)) = lit< tt

-- no proper beginning of what is open along the way has a verdict
open_along : (chip : ChipData) (codes rest bytes : List ℕ) → IsOpen chip codes rest
    → OpenAlong chip codes rest bytes → IsOpen chip codes (rest ++ bytes)
open_along chip codes rest [] o a = subst (IsOpen chip codes) (sym (append-nil rest)) o
open_along chip codes rest (x ∷ bytes) o a = subst (IsOpen chip codes)
    (append_assoc rest (x ∷ []) bytes)
    (open_along chip codes (rest ++ x ∷ []) bytes (open_more chip codes rest x o a.0) a.1)

pub opened : (chip : ChipData) (codes bytes : List ℕ) → OpenAlong chip codes [] bytes
    → IsOpen chip codes bytes
opened chip codes bytes a = open_along chip codes [] bytes none a
  where
    none : IsOpen chip codes []
    none zero = refl
    none (suc n) = refl
