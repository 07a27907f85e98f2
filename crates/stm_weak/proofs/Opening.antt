-- What a device is after a byte, and that its rest is open.
use Rattle.std.proofs.Common.{◌≡◌, ◌⊎◌, inl, inr, ℕ, zero, suc, ◌<◌, ◌≤◌, Bool, true, false, ◌==◌}
use Rattle.std.proofs.Common.{if◌then◌else◌, List, [], ◌∷◌, ◌++◌, length, take, None, refl, ◌∙◌, ap}
use Rattle.std.proofs.Common.{arith, All, take_all, length-append}
use Rattle.std.proofs.lemmas.Bool.{cases_lt}
use Rattle.std.proofs.lemmas.List.{take-append-le}
use Rattle.std.proofs.lemmas.List.Elements.{All-nil}
use Rattle.stm_wire.proofs.Names.{ChipData, Connected, Device, Gone, IsDevice, IsOpen, IsOpenPhase, Phase, phase_after, verdict}
use Rattle.stm_weak.proofs.Effects.{IsByte}

pub with_parts : (d : Device) (flash owed : List ℕ) (phase : Phase) → IsDevice d
    → length flash ≡ length d.flash → All IsByte flash → IsOpenPhase d.chip d.codes phase
    → IsDevice (record d { flash = flash; owed = owed; phase = phase })
with_parts d flash owed phase is size all waits =
    record {
      chip = is.chip;
      version = is.version;
      codes = is.codes;
      count = is.count;
      get = is.get;
      get_id = is.get_id;
      read = is.read;
      write = is.write;
      erase = is.erase;
      no_connect = is.no_connect;
      size = size ∙ is.size;
      flash = all;
      phase = waits;
    }

pub open_nothing : (chip : ChipData) (codes : List ℕ) → IsOpenPhase chip codes (Connected [])
open_nothing chip codes = (none, All-nil IsByte)
  where
    none : IsOpen chip codes []
    none zero = refl
    none (suc n) = refl

pub open_more : (chip : ChipData) (codes rest : List ℕ) (byte : ℕ) → IsOpen chip codes rest
    → verdict chip codes (rest ++ byte ∷ []) ≡ None → IsOpen chip codes (rest ++ byte ∷ [])
open_more chip codes rest byte is none n = by (cases_lt (length rest) n)
  where
    by : (length rest < n) ⊎ (n ≤ length rest) → verdict chip codes
        (take n (rest ++ byte ∷ [])) ≡ None
    by (inl over) = ap (λ xs. verdict chip codes xs)
        (take_all n (rest ++ byte ∷ []) (omega (arith, over, length-append rest (byte ∷ []))))
        ∙ none
    by (inr le) = ap (λ xs. verdict chip codes xs) (take-append-le n rest (byte ∷ []) le) ∙ is n

pub open_after : (chip : ChipData) (codes bytes : List ℕ) → IsOpenPhase chip codes (phase_after bytes)
open_after chip codes [] = open_nothing chip codes
open_after chip codes (code ∷ rest) = by (code == 0x21)
  where
    by : (t : Bool) → IsOpenPhase chip codes (if t then Gone else Connected [])
    by true = tt
    by false = open_nothing chip codes
