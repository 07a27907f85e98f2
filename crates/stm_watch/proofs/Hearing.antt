-- A device that follows the model sends what is due, and is as what is known of it says then.
use Rattle.std.proofs.Common.{◌≡◌, ℕ, zero, suc, ◌+◌, ◌-◌, ◌<◌, ◌≤◌, Bool, true, false, ◌==◌}
use Rattle.std.proofs.Common.{if◌then◌else◌, List, [], ◌∷◌, ◌++◌, length, take, drop, replicate}
use Rattle.std.proofs.Common.{get_or, Option, Some, None, refl, sym, ◌∙◌, ap, subst, arith}
use Rattle.std.proofs.lemmas.List.{drop_more, get_or_default}
use Rattle.std.proofs.lemmas.Bool.{eq-eqb, ne_eqb}
use Rattle.stm_watch.specs.declared.sight.Sight.{Sight}
use Rattle.stm_watch.specs.declared.sight.Sight.TheVariants.{Follows, Left, Lost}
use Rattle.stm_wire.proofs.Names.{Connected, Device, flash_size, Gone, IsDevice, IsSettled, Phase}
use Rattle.stm_watch.specs.Known.{Known, may_hold, is_due_of, is_due_in, is_due, heard_of}
use Rattle.stm_watch.specs.Known.{heard_by_sight, heard, IsWhole, known_at_first}
use Rattle.stm_watch.specs.Seen.{MayHold, Agrees, device_known, IsIn, IsSeenAs, IsSeen}
use Rattle.stm_watch.proofs.Placing.{agrees-length, agrees-at, agrees-set}

-- what a byte that came leaves: it was due, and this is known then
pub record Heard (phase : Phase) (k : Known) (due : List ℕ) (byte : ℕ) (new : Device) : Type 0 where
  pub is_due : is_due_of k due byte ≡ true
  pub seen : IsIn phase (heard_of k due byte) new

first-is : (b : ℕ) (x : ℕ) (xs ys : List ℕ) → b ∷ xs ≡ x ∷ ys → b ≡ x
first-is b x xs ys e = ap (λ l. get_or l 0 b) e

rest-is : (b : ℕ) (x : ℕ) (xs ys : List ℕ) → b ∷ xs ≡ x ∷ ys → xs ≡ ys
rest-is b x xs ys e = ap (λ l. drop 1 l) e

holds-may : (k : Option ℕ) (byte : ℕ) → MayHold k byte → may_hold byte k ≡ true
holds-may None byte h = refl
holds-may (Some v) byte h = eq-eqb v byte h

due-if : (n : ℕ) (t : Bool) → 1 ≤ n → t ≡ true → (if n == 0 then false else t) ≡ true
due-if n t h e =
    ap (λ b. if b then false else t) (ne_eqb n 0 (λ z. absurd (omega (arith, h, z)))) ∙ e

heard-due : (phase : Phase) (k : Known) (due : List ℕ) (byte : ℕ) (flash : List ℕ) (new : Device)
    → IsWhole k → k.due ≡ due → Agrees k.flash flash
    → record new { owed = byte ∷ new.owed }
    ≡ record (device_known phase k flash) { owed = due ++ take k.count (drop k.at flash) }
    → Heard phase k due byte new
heard-due phase k (b ∷ rest) byte flash new whole is_due a e =
    let owed : byte ∷ new.owed ≡ b ∷ (rest ++ take k.count (drop k.at flash)) =
    ap (λ (d : Device). d.owed) e in
    record {
      is_due = eq-eqb b byte (sym (first-is byte b new.owed _ owed));
      seen = (
        flash,
        ap (λ (d : Device). record d { owed = new.owed }) e
            ∙ ap (λ o. record (device_known phase k flash) {
              owed =
                  o;
            }) (rest-is byte b new.owed _ owed),
        a,
      );
    }
heard-due phase k [] byte flash new whole is_due a e =
    let owed : byte ∷ new.owed ≡ take k.count (drop k.at flash) = ap (λ (d : Device). d.owed) e in
    of-flash k.count refl owed
  where
    of-flash : (n : ℕ) → n ≡ k.count → byte ∷ new.owed ≡ take n (drop k.at flash)
        → Heard phase k [] byte new
    of-flash zero is owed = absurd (omega (arith, ap length owed))
    of-flash (suc n) is owed =
        let some : 1 ≤ k.count = omega (arith, is) in
        let size : length flash ≡ flash_size k.chip = sym (agrees-length k.flash flash a)
        ∙ whole.size in
        let here : k.at < length flash = omega (arith, size, whole.inside some, some) in
        let parts : drop k.at flash ≡ get_or flash k.at byte ∷ drop (k.at + 1) flash =
        drop_more flash k.at byte here in
        let all : byte ∷ new.owed ≡ get_or flash k.at byte ∷ take n (drop (k.at + 1) flash) =
        owed ∙ ap (λ xs. take (suc n) xs) parts in
        let is_byte : byte ≡ get_or flash k.at byte = first-is byte _ new.owed _ all in
        let less : n ≡ k.count - 1 = omega (arith, is) in
        let at0 : get_or flash k.at byte
        ≡ get_or flash k.at 0 = get_or_default flash k.at byte 0 here in
        record {
          is_due = due-if k.count _ some
              (holds-may (get_or k.flash k.at None) byte
              (rw (is_byte ∙ at0) (agrees-at k.flash flash k.at a here)));
          seen = (
            flash,
            ap (λ (d : Device). record d { owed = new.owed }) e
                ∙ ap (λ o. record (device_known phase k flash) { owed = o })
                (rest-is byte _ new.owed _ all ∙ ap (λ m. take m (drop (k.at + 1) flash)) less
                ∙ ap (λ xs. xs ++ take (k.count - 1) (drop (k.at + 1) flash)) (sym is_due)),
            agrees-set k.flash flash k.at byte a is_byte,
          );
        }

-- the byte is due, and the device is as what is known says then
pub record IsHeard (byte : ℕ) (k : Known) (new : Device) : Type 0 where
  pub is_due : is_due byte k ≡ true
  pub seen : IsSeen (heard byte k) new

sees : (s : Sight) (k mid : Known) (d : Device) → k.sight ≡ s → mid.sight ≡ k.sight
    → IsSeenAs s mid d → IsSeen mid d
sees s k mid d is same seen =
    let P : Sight → Type 0 = λ t. IsSeenAs t mid d in subst P (sym (same ∙ is)) seen

pub heard-sight : (k : Known) (due : List ℕ) (byte : ℕ) → (heard_of k due byte).sight ≡ k.sight
heard-sight k [] byte = refl
heard-sight k (b ∷ due) byte = refl

pub heard-list : (k : Known) (due : List ℕ) (byte : ℕ) → (heard_of k due byte).list ≡ k.list
heard-list k [] byte = refl
heard-list k (b ∷ due) byte = refl

seen-heard-in : (s : Sight) (byte : ℕ) (k : Known) (old new : Device) → k.sight ≡ s → IsWhole k
    → IsSeenAs s k old → old ≡ record new { owed = byte ∷ new.owed }
    → (is_due_in s byte k ≡ true) × IsSeen (heard_by_sight s byte k) new
seen-heard-in Lost byte k old new is whole seen gave = (refl, sees Lost k k new is refl tt)
seen-heard-in Left byte k old new is whole seen gave =
    let h = heard-due Gone k k.due byte seen.0 new whole refl seen.2 (sym gave ∙ seen.1) in
    (h.is_due, sees Left k (heard_of k k.due byte) new is (heard-sight k k.due byte) h.seen)
seen-heard-in Follows byte k old new is whole seen gave =
    let mid = heard_of k k.due byte in
    let h = heard-due (Connected k.list) k k.due byte seen.0 new whole refl seen.2 (sym gave
    ∙ seen.1) in (
      h.is_due,
      sees Follows k mid new is (heard-sight k k.due byte)
          (rw (heard-list k k.due byte) h.seen),
    )

pub seen-heard : (byte : ℕ) (k : Known) (old new : Device) → IsWhole k → IsSeen k old
    → old ≡ record new { owed = byte ∷ new.owed }
    → (is_due byte k ≡ true) × IsSeen (heard byte k) new
seen-heard byte k old new whole seen gave =
    seen-heard-in k.sight byte k old new refl whole seen gave

agrees-nothing : (n : ℕ) (bs : List ℕ) → length bs ≡ n → Agrees (replicate n None) bs
agrees-nothing zero [] e = tt
agrees-nothing (suc n) (b ∷ bs) e = (tt, agrees-nothing n bs (omega (arith, e)))
agrees-nothing n bs e = absurd (omega (arith, e))

-- a settled device is as what is known at first says
pub seen-first : (d : Device) → IsDevice d → IsSettled d
    → IsSeen (known_at_first d.chip d.version d.codes) d
seen-first d is settled = (
  d.flash,
  ap (λ p. record d { phase = p }) settled.phase
      ∙ ap (λ o. record d { owed = o; phase = Connected [] }) settled.owed,
  agrees-nothing (flash_size d.chip) d.flash is.size,
)
