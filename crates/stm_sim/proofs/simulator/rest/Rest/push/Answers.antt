use Rattle.std.proofs.Common.{◌≡◌, ℕ, ◌-◌, ◌++◌, ◌∷◌, [], ◌∙◌, ◌&&◌, ap, arith, append_assoc, bit_xor, Bool, List, None, refl, sym, subst}
use Rattle.std.proofs.lemmas.List.Sums.{fold_push}
use Rattle.stm_sim.specs.declared.simulator.rest.Rest.{Rest}
use Rattle.stm_wire.proofs.Names.{all_exist, ChipData, verdict}
use Rattle.stm_sim.specs.Rest.{IsAwaiting, IsCurrent, named_pages}
use Rattle.stm_sim.specs.lemmas.SimulatedDevice.{open-more}
use Rattle.stm_sim.proofs.simulator.rest.Rest.push.Goals as goal
use Rattle.stm_sim.proofs.simulator.rest.Rest.push.Goals.{then-self-gt1, else-self-gt1}

-- a byte that was awaited gives no verdict, and one less is awaited
less_awaited : (chip : ChipData) (codes bytes : List ℕ) (byte n : ℕ) → IsAwaiting chip codes bytes n → IsAwaiting chip codes (bytes ++ byte ∷ []) (n - 1)
less_awaited chip codes bytes byte n a more lt = rw append_assoc (a (byte ∷ more) (omega arith))

-- what is kept of a list, with one byte more and no verdict
kept : (chip : ChipData) (codes : List ℕ) (old new : Rest) (byte : ℕ) (exists : Bool) → IsCurrent chip codes old
    → new.bytes.items ≡ old.bytes.items ++ byte ∷ [] → verdict chip codes (old.bytes.items ++ byte ∷ []) ≡ None
    → IsAwaiting chip codes (old.bytes.items ++ byte ∷ []) new.awaited
    → new.check ≡ bit_xor old.check byte → new.pages_exist ≡ old.pages_exist && exists
    → all_exist chip (named_pages (old.bytes.items ++ byte ∷ [])) ≡ all_exist chip (named_pages old.bytes.items) && exists
    → IsCurrent chip codes new
kept chip codes old new byte exists k items none awaited check pages named = record {
  no_verdict = rw items (open-more chip codes old.bytes.items byte k.no_verdict none);
  awaited = rw items awaited;
  check = rw items (check ∙ ap (λ r. bit_xor r byte) k.check ∙ sym (fold_push bit_xor 0 old.bytes.items byte));
  pages_exist = rw items (pages ∙ ap (λ t. t && exists) k.pages_exist ∙ sym named);
}

pub returns-clause-current : goal.returns-clause-current
returns-clause-current c none =
    let chip = c.args.chip.now in
    let codes = c.args.codes.now in
    let old = c.args.self.now in
    let byte = c.args.byte in
    let exists = c.names_existing_page-exists.result in
    let bytes = old.bytes.items ++ byte ∷ [] in
    let added = c.push_reserved.ensures.items in
    let named = rw c.deref.ensures.value at c.names_existing_page-exists.ensures in
    let P : Rest → Type 0 = λ r. IsCurrent chip codes (record r { pages_exist = r.pages_exist && exists }) in
    elim c.if-self-gt1.branch [
      | then-self-gt1 w ↦
          subst P (sym w.self-is) (kept chip codes old _ byte exists c.requires.current added
          (c.requires.current.awaited (byte ∷ []) w.if-self-gt1.true) (less_awaited chip codes old.bytes.items byte old.awaited c.requires.current.awaited) refl refl named)
      | else-self-gt1 w ↦
          let judged = w.deref-else-self-gt1.ensures.value ∙ added in
          let counted = w.deref-else-self-gt1-2.ensures.value ∙ added in
          let open' : verdict chip codes bytes ≡ None = sym (w.verdict_at_end-verdict.ensures ∙ ap (λ (bs : List ℕ). verdict chip codes bs) judged) ∙ sym w.verdict-is ∙ none in
          let awaits = subst (λ (bs : List ℕ). verdict chip codes bs ≡ None → IsAwaiting chip codes bs w.awaited_after-self.result) counted (w.awaited_after-self.ensures chip codes) in
          subst P (sym w.self-is) (kept chip codes old _ byte exists c.requires.current added open' (awaits open') refl refl named)
    ]
