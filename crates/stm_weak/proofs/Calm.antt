-- Lists that one byte goes on with, again and again: none of them is done and reads the flash, and
-- none has a loose verdict.
use Rattle.std.proofs.Common.{◌≡◌, ℕ, zero, suc, ◌<◌, Bool, true, false, ◌&&◌, ◌==◌, if◌then◌else◌}
use Rattle.std.proofs.Common.{List, [], ◌∷◌, ◌++◌, replicate, Option, Some, None, IsTrue, refl, sym}
use Rattle.std.proofs.Common.{◌∙◌, ap, subst, arith, ne_eqb, append_assoc}
use Rattle.std.proofs.lemmas.Bool.{eqb-true, eqb-false}
use Rattle.stm_wire.specs.declared.verdict.Verdict.{Verdict}
use Rattle.stm_wire.specs.declared.verdict.Verdict.TheVariants.{Done, Refused, Loose}
use Rattle.stm_wire.proofs.Names.{at_end, ChipData, command_verdict, complement, done_if, flash_size, is_listed, verdict}
use Rattle.stm_weak.specs.WeakDevice.{IsInRead}
use Rattle.stm_weak.proofs.Openness.{verdict_listed}
use Rattle.stm_weak.proofs.Unread.{IsSilent}

-- a list of which no read of the flash comes, and nothing loose
abbrev pub IsCalmList : ChipData → List ℕ → List ℕ → Type 0
IsCalmList chip codes bytes =
    (verdict chip codes bytes ≡ Some Loose → ⊥) × IsSilent chip codes bytes

-- so is each list by which this byte goes on
abbrev pub IsCalmRest : ChipData → List ℕ → ℕ → List ℕ → Type 0
IsCalmRest chip codes byte rest =
    (k : ℕ) → IsCalmList chip codes (rest ++ replicate (suc k) byte)

-- what follows a listed code and its complement
abbrev pub IsCalmTail : ChipData → ℕ → List ℕ → Type 0
IsCalmTail chip code tail = (command_verdict chip code tail ≡ Some Loose → ⊥)
    × ((place : ℕ) → command_verdict chip code tail ≡ Some Done → place < flash_size chip
    → code ≡ 0x11 → IsInRead chip tail place → ⊥)

-- Verdicts that are no other.

pub no_verdict : (v : Verdict) → None ≡ Some v → ⊥
no_verdict v e = absurd (cc)

the_verdict : Option Verdict → Verdict
the_verdict None = Refused
the_verdict (Some v) = v

pub at_end_is : (v w : Verdict) (rest : List ℕ) → at_end v rest ≡ Some w → v ≡ w
unfolding the_verdict
at_end_is v w [] e = ap the_verdict e
at_end_is v w (byte ∷ rest) e = absurd (no_verdict w e)

pub same_verdict : (v w : Verdict) → Some v ≡ Some w → v ≡ w
unfolding the_verdict
same_verdict v w e = ap the_verdict e

pub refused_not_loose : Refused ≡ Loose → ⊥
refused_not_loose e = absurd (cc)

pub refused_not_done : Refused ≡ Done → ⊥
refused_not_done e = absurd (cc)

pub done_not_loose : Done ≡ Loose → ⊥
done_not_loose e = absurd (cc)

pub tested_not_loose : (t : Bool) → done_if t ≡ Loose → ⊥
tested_not_loose true e = done_not_loose e
tested_not_loose false e = refused_not_loose e

pub tested_done : (t : Bool) → done_if t ≡ Done → t ≡ true
tested_done true e = refl
tested_done false e = absurd (refused_not_done e)

-- A byte isn't its own complement: a pair of it is refused.

pub unlike : (byte : ℕ) → byte ≡ complement byte → ⊥
unlike byte e = omega (arith, e)

pub refused_pair : (chip : ChipData) (codes : List ℕ) (code check : ℕ) (rest : List ℕ)
    → (check ≡ complement code → ⊥)
    → verdict chip codes (code ∷ check ∷ rest) ≡ at_end Refused rest
refused_pair chip codes code check rest ne =
    let choose : Bool → Option Verdict = λ t. if t && is_listed codes code
    then command_verdict chip code rest else at_end Refused rest in
    ap choose (ne_eqb check (complement code) ne)

pub pair_calm : (chip : ChipData) (codes : List ℕ) (code check : ℕ) (rest : List ℕ)
    → (check ≡ complement code → ⊥) → IsCalmList chip codes (code ∷ check ∷ rest)
pair_calm chip codes code check rest ne =
    let same = refused_pair chip codes code check rest ne in (
      λ e. refused_not_loose (at_end_is Refused Loose rest (sym same ∙ e)),
      λ place e lt r. refused_not_done (at_end_is Refused Done rest (sym same ∙ e)),
    )

pub calm_nothing : (chip : ChipData) (codes : List ℕ) (byte : ℕ) → IsCalmRest chip codes byte []
calm_nothing chip codes byte zero = (λ e. no_verdict Loose e, λ place e lt r. no_verdict Done e)
calm_nothing chip codes byte (suc k) = pair_calm chip codes byte byte (replicate k byte)
    (unlike byte)

-- and what it goes on with once more
pub calm_on : (chip : ChipData) (codes : List ℕ) (byte : ℕ) (rest : List ℕ)
    → IsCalmRest chip codes byte rest → IsCalmRest chip codes byte (rest ++ byte ∷ [])
calm_on chip codes byte rest calm k =
    let P : List ℕ → Type 0 = λ xs. IsCalmList chip codes xs in
    subst P (sym (append_assoc rest (byte ∷ []) (replicate (suc k) byte))) (calm (suc k))

-- Commands that are listed:

listed_calm : (chip : ChipData) (codes : List ℕ) (code : ℕ) (tail : List ℕ)
    → IsTrue (is_listed codes code) → IsCalmTail chip code tail
    → IsCalmList chip codes (code ∷ complement code ∷ tail)
listed_calm chip codes code tail listed calm =
    let same = verdict_listed chip codes code tail listed in (
      λ e. calm.0 (sym same ∙ e),
      λ place e lt r. calm.1 place (sym same ∙ e) lt r.0 r.1,
    )

-- behind the code alone,
pub rest_one : (chip : ChipData) (codes : List ℕ) (byte code : ℕ) → IsTrue (is_listed codes code)
    → ((k : ℕ) → byte ≡ complement code → IsCalmTail chip code (replicate k byte))
    → IsCalmRest chip codes byte (code ∷ [])
rest_one chip codes byte code listed calm k = by (byte == complement code) refl
  where
    by : (t : Bool) → (byte == complement code) ≡ t
        → IsCalmList chip codes (code ∷ byte ∷ replicate k byte)
    by true e =
        let same = eqb-true byte (complement code) e in
        let P : ℕ → Type 0 = λ b. IsCalmList chip codes (code ∷ b ∷ replicate k byte) in
        subst P (sym same) (listed_calm chip codes code (replicate k byte) listed (calm k same))
    by false e = pair_calm chip codes code byte (replicate k byte)
        (eqb-false byte (complement code) e)

-- and behind both, and more
pub rest_two : (chip : ChipData) (codes : List ℕ) (byte code : ℕ) (so_far : List ℕ)
    → IsTrue (is_listed codes code)
    → ((k : ℕ) → IsCalmTail chip code (so_far ++ replicate (suc k) byte))
    → IsCalmRest chip codes byte (code ∷ complement code ∷ so_far)
rest_two chip codes byte code so_far listed calm k =
    listed_calm chip codes code (so_far ++ replicate (suc k) byte) listed (calm k)
