-- What a put does to a line in memory whose device may have a weak page.
use Rattle.std.proofs.Common.{◌≡◌, inr, ℕ, true, false, Option, Some, None, IsTrue, refl, sym}
use Rattle.std.proofs.Common.{ap, subst}
use Rattle.std.proofs.lemmas.Bool.{eqb-true}
use Rattle.stm_wire.proofs.Names.{Device, Feeds}
use Rattle.stm_sim.specs.Memory.{MemoryData, IsMemory}
use Rattle.stm_weak.specs.WeakDevice.{Heals, WeakFeeds}
use Rattle.stm_weak.specs.WeakLine.{is_the_page}
use Rattle.stm_weak.proofs.Agreeing.{agrees_same}

-- the same of both
pub of_same : {A B : Type 0} {x y : A} → x ≡ y → (f : A → B) → f x ≡ f y
of_same e f = ap f e

is_it : (weak : Option ℕ) (n : ℕ) → IsTrue (is_the_page weak n) → weak ≡ Some n
is_it None n here = absurd (let h : false ≡ true = here in cc)
is_it (Some page) n here = ap (λ (k : ℕ). Some k) (sym (eqb-true n page here))

-- a byte that heals the weak page
pub healing_put : (byte : ℕ) (old mid : MemoryData) (new : Device) (weak : Option ℕ) → mid ≡ old
    → IsMemory old → (IsMemory mid → Feeds byte mid.device new)
    → ((n : ℕ) → weak ≡ Some n → Heals byte old.device n)
    → WeakFeeds byte (record { device = old.device; weak = is_the_page weak })
    (record { device = new; weak = is_the_page None })
healing_put byte old mid new weak same is fed heals =
    let F : MemoryData → Type 0 = λ m. IsMemory m → Feeds byte m.device new in
    record {
      now = old.device;
      can_be = record {
        chip = refl;
        version = refl;
        codes = refl;
        owed = refl;
        phase = refl;
        flash = agrees_same old.device.chip (is_the_page weak) old.device.flash;
        bytes = is.is_device.flash;
      };
      feeds = subst F same fed is;
      stays = λ n here. inr (heals n (is_it weak n here));
    }
