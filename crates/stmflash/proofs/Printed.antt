-- From what a request came to, to the status that is answered.
use Rattle.std.proofs.Common.{◌≡◌, ◌⊎◌, ◌&&◌, ℕ, List, Bool, true, false, not}
use Rattle.std.proofs.Common.{Option, None, Some, MatchOption, Result, Ok, Err, IfOk, OnErr, OnOk}
use Rattle.std.proofs.Common.{codes, inl, inr, refl, subst, sym}
use Rattle.std.specs.Io.KnownBytes.{Appends}
use Rattle.stm_wire.proofs.Names.{RigState}
use Rattle.stm_words.specs.declared.request.Request.{Request}
use Rattle.stm_work.specs.declared.hint.Hint.{Hint}
use Rattle.stm_work.specs.declared.steps.Steps.{Steps}
use Rattle.stm_work.specs.Answer.{is_flash}
use Rattle.stm_work.specs.ShortLine.{short_line}
use Rattle.stm_work.specs.StepsText.{steps_text}
use Rattle.stm_work.specs.ToldJson.{AreLines, answer_name}
use Rattle.stmflash.specs.Printed.{ArePrinted, AreStepsOf, IsDone, IsStatusOf, IsTextOf, CameToSteps}

module _ (is_json : Bool) (hint : Option Hint) (steps : Steps) (old new : Option (List ℕ)) where
  -- this text was printed of the steps
  pub text-printed : (flag : Bool) (text : List ℕ) → (is_json && not (is_flash steps.answer)) ≡ flag
      → IsTextOf flag hint steps text → Appends old new text
      → ArePrinted is_json hint steps old new
  text-printed flag text same is appended =
      let P : Bool → Type 0 = λ b. IsTextOf b hint steps text in
      record { text = text; appended = appended; is = subst P (sym same) is }

  -- as text
  pub as-text : {E : Type 0} (came : Result (Unit {0}) E) (flag : Bool)
      → flag ≡ (is_json && not (is_flash steps.answer)) → flag ≡ false
      → OnOk came (Appends old new (steps_text steps))
      → OnOk came (ArePrinted is_json hint steps old new)
  as-text (Err failure) flag same off appended = tt
  as-text (Ok done) flag same off appended =
      text-printed false (steps_text steps) (cc) refl appended

  -- or as lines of JSON
  pub as-json : {V D E : Type 0} (items : V → List ℕ) (lines : Result V D)
      (came : Result (Unit {0}) E) (flag : Bool) (name : List ℕ)
      → flag ≡ (is_json && not (is_flash steps.answer)) → flag ≡ true
      → name ≡ answer_name steps.answer
      → IfOk lines (λ text. AreLines hint steps (items text))
      → IfOk lines (λ text. OnOk came (Appends old new (items text)))
      → OnErr lines (OnOk came (Appends old new (short_line (codes "answer") name)))
      → OnOk came (ArePrinted is_json hint steps old new)
  as-json items lines (Err failure) flag name same on named are told short = tt
  as-json items (Ok text) (Ok done) flag name same on named are told short =
      text-printed true (items text) (cc) (inl are) told
  as-json items (Err none) (Ok done) flag name same on named are told short =
      let P : List ℕ → Type 0 = λ n. short_line (codes "answer") name ≡ short_line (codes "answer") n in
      text-printed true (short_line (codes "answer") name) (cc) (inr (subst P named refl)) short

-- what was printed, where the status is 0
printed : {F : Type 0} (failure : Option F) (P : Type 0) (Q : F → Type 0) (status : ℕ)
    → failure ≡ None → MatchOption failure ((status ≡ 1) ⊎ P × (status ≡ 0)) Q → status ≡ 0 → P
printed None P Q status none (inl one) zero = absurd (cc)
printed None P Q status none (inr (is, same)) zero = is
printed (Some why) P Q status none told zero = absurd (cc)

module _ {A B : Type 0} (simulated : A → RigState) (connected : B → RigState) where
  module _ (request : Request) (is_json : Bool) (hint : Option Hint) (old new : Option (List ℕ))
      (status : ℕ) (steps : Steps) (of : AreStepsOf simulated connected request steps) where
    pub is-told : IsStatusOf is_json hint steps old new status
        → CameToSteps simulated connected request is_json old new status
    is-told told = record { steps = steps; of = of; hint = hint; told = told }

    pub is-done : IsStatusOf is_json hint steps old new status → (status ≡ 0 → steps.failure ≡ None)
        → status ≡ 0 → IsDone simulated connected request is_json old new
    is-done told whole zero =
        let text = printed steps.failure (ArePrinted is_json hint steps old new) _ status (whole zero) told zero in
        record { steps = steps; of = of; whole = whole zero; hint = hint; printed = text }
