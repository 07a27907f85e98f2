-- A protection: the code, which is acknowledged twice, and of which nothing else is promised.
use Rattle.std.proofs.Common.{◌≡◌, ℕ, List, [], ◌∷◌, ◌++◌, Option, Some, IsTrue, refl, ◌∙◌, ap, subst}
use Rattle.stm_wire.proofs.Names.{ack, CanProtect, ChipData, command, command_verdict, complement, Connected, Device, Fed, Feeds, is_protection, IsLoose, LeavesFirst, OwesFirst, owing, Protection}
use Rattle.stm_wire.proofs.Names.{protection_code, reply_to, Takes, Verdict, verdict, with_rest}
use Rattle.stm_wire.specs.declared.protection.Protection.TheVariants.{WriteUnprotect, ReadoutProtect, ReadoutUnprotect}
use Rattle.stm_wire.specs.declared.verdict.Verdict.TheVariants.{Loose}
use Rattle.stm_wire.proofs.Feeding.{Fed-split}
use Rattle.stm_wire.proofs.Steps.{fed-along}
use Rattle.stm_wire.proofs.Address.{verdict-listed, settled-is}

loose-code : (chip : ChipData) (kind : Protection) → command_verdict chip (protection_code kind) [] ≡ Some Loose
loose-code chip WriteUnprotect = refl
loose-code chip ReadoutProtect = refl
loose-code chip ReadoutUnprotect = refl

is-protection : (kind : Protection) (rest : List ℕ) → IsTrue (is_protection (protection_code kind ∷ rest))
is-protection WriteUnprotect rest = refl
is-protection ReadoutProtect rest = refl
is-protection ReadoutUnprotect rest = refl

takes-loose : (old new : Device) (bytes : List ℕ) → verdict old.chip old.codes bytes ≡ Some Loose → IsTrue (is_protection bytes) → Takes old bytes (verdict old.chip old.codes bytes) new → new.owed ≡ old.owed ++ ack ∷ ack ∷ []
takes-loose old new bytes loose protects t =
    let P : Option Verdict → Type 0 = λ v. Takes old bytes v new in
    let is : IsLoose old bytes new = subst P loose t in
    is.owed protects ∙ ap (λ v. old.owed ++ reply_to v old.chip old.version old.codes old.flash bytes) loose

module _ (kind : Protection) (d : Device) (can : CanProtect (protection_code kind) d) where
  code : ℕ
  code = protection_code kind

  after : (new : Device) → Fed (command (protection_code kind)) d new → new.owed ≡ ack ∷ ack ∷ []
  after new f =
      let P : Device → Type 0 = λ e. Fed (command (protection_code kind)) e new in
      let parts = Fed-split (protection_code kind ∷ []) (complement (protection_code kind) ∷ []) (with_rest [] d) new (subst P (settled-is d can.settled) f) in
      let first = fed-along (protection_code kind ∷ []) [] [] d parts.0 (refl, tt) parts.1 in
      let Q : Device → Type 0 = λ e. Feeds (complement (protection_code kind)) e parts.2.0 in
      let fed = subst Q first parts.2.1 in
      let mid : Device = record d { owed = []; phase = Connected (protection_code kind ∷ []) } in
      let loose = verdict-listed d.chip d.codes (protection_code kind) [] can.listed ∙ loose-code d.chip kind in
      ap (λ (e : Device). e.owed) parts.2.2 ∙ takes-loose mid parts.2.0 (command (protection_code kind)) loose (is-protection kind (complement (protection_code kind) ∷ [])) fed.receives

  pub protect-first : LeavesFirst ack (command (protection_code kind)) d
  protect-first new f = (ack ∷ [], after new f)

  pub protect-second : (new : Device) → Fed (command (protection_code kind)) d (owing (ack ∷ []) new) → OwesFirst ack new
  protect-second new f =
      let e : ack ∷ new.owed ≡ ack ∷ ack ∷ [] = after (owing (ack ∷ []) new) f in
      ([], cc)
