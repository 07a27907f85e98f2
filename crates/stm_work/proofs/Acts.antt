-- Acts one behind the other, and the turns of a write that is done again.
use Rattle.std.proofs.Common.{◌+◌, ◌≤◌, ◌∙◌, Option, Some, None, ap, arith, ◌≡◌, ℕ, List, [], ◌∷◌}
use Rattle.std.proofs.Common.{◌++◌, Result, Ok, Err, IfOk, inl, refl, subst}
use Rattle.stm_work.specs.declared.failure.Failure.{Failure}
use Rattle.stm_work.specs.declared.steps.Steps.{Steps}
use Rattle.stm_work.specs.declared.left_standing.Standing.{Standing}
use Rattle.stm_work.specs.declared.work.Work.{Work}
use Rattle.stm_work.specs.Again.{Act, DoesAgain, AreActsDone, IsLast, IsTurn, LeadTo, Retries, UndoesSince}
use Rattle.stm_work.specs.Again.{TellsStanding, Turns, attempts, last_behind}
use Rattle.stm_work.specs.Again.Act.{Attempted, Read, ToldStanding, ToldTurn, Undone}
use Rattle.stm_work.specs.Again.AreActsDone.{in_turns, no_memory, once, unread as unread_first}
use Rattle.stm_work.specs.Again.Retries.{again, no_memory as no_memory_behind, not_again, not_taken}
use Rattle.stm_work.specs.Again.UndoesSince.{nothing, undone, unread}
use Rattle.stm_work.specs.Again.TellsStanding.{nothing as nothing_told, told, unread as unread_last}
use Rattle.stm_work.specs.Again.Turns.{first, more}

module _ {A : Type 0} (Does : Act → A → A → Type 0) where
  -- acts behind acts
  pub lead-append : (xs ys : List Act) (a b c : A) → LeadTo Does xs a b → LeadTo Does ys b c
      → LeadTo Does (xs ++ ys) a c
  lead-append [] ys a b c same then = let P : A
      → Type 0 = λ x. LeadTo Does ys x c in subst P same then
  lead-append (x ∷ xs) ys a b c (mid, does, lead) then =
      (mid, does, lead-append xs ys mid b c lead then)

-- no turn is left
pub spent-last : (most turns : ℕ) (came : Result Steps Failure) → turns ≡ most
    → IsLast most turns came
spent-last most turns (Ok steps) spent = tt
spent-last most turns (Err failure) spent = inl spent

-- attempts of acts behind acts
attempts-append : (xs ys : List Act) → attempts (xs ++ ys) ≡ attempts xs + attempts ys
attempts-append [] ys = omega arith
attempts-append (Read said ∷ xs) ys = attempts-append xs ys
attempts-append (Attempted work came ∷ xs) ys = omega (arith, attempts-append xs ys)
attempts-append (Undone count taken ∷ xs) ys = attempts-append xs ys
attempts-append (ToldTurn turn most failure taken ∷ xs) ys = attempts-append xs ys
attempts-append (ToldStanding before now ∷ xs) ys = attempts-append xs ys

last-append : (o : Option (Result Steps Failure)) (xs ys : List Act)
    → last_behind o (xs ++ ys) ≡ last_behind (last_behind o xs) ys
last-append o [] ys = refl
last-append o (Read said ∷ xs) ys = last-append o xs ys
last-append o (Attempted work came ∷ xs) ys = last-append (Some came) xs ys
last-append o (Undone count taken ∷ xs) ys = last-append o xs ys
last-append o (ToldTurn turn most failure taken ∷ xs) ys = last-append o xs ys
last-append o (ToldStanding before now ∷ xs) ys = last-append o xs ys

-- an undo is no attempt, and neither is what is told at the end
back-attempts : (before : Standing) (acts : List Act) (taken : Result ℕ Failure)
    → UndoesSince before acts taken → attempts acts ≡ 0
back-attempts before acts taken (unread failure) = refl
back-attempts before acts taken (nothing now none) = refl
back-attempts before acts taken (undone now count said some just) = refl

tells-attempts : (before : Standing) (acts : List Act) (came : Result Steps Failure)
    → TellsStanding before acts came → attempts acts ≡ 0
tells-attempts before acts came (nothing_told steps) = refl
tells-attempts before acts came (told failure now) = refl
tells-attempts before acts came (unread_last failure why) = refl

-- a turn has one attempt at the most
retries-attempts : (work : Work) (failure : Failure) (taken : Result ℕ Failure) (acts : List Act)
    (came : Result Steps Failure) → Retries work failure taken acts came → attempts acts ≤ 1
retries-attempts work failure taken acts came (again count same said is) = omega arith
retries-attempts work failure taken acts came (no_memory_behind count) = omega arith
retries-attempts work failure taken acts came (not_again count is) = omega arith
retries-attempts work failure taken acts came (not_taken why) = omega arith

turn-attempts : (work : Work) (before : Standing) (turn most : ℕ) (failure : Failure)
    (acts : List Act) (came : Result Steps Failure) → IsTurn work before turn most failure acts came
    → attempts acts ≤ 1
turn-attempts work before turn most failure acts came is =
    let rest : List Act = ToldTurn turn most failure is.taken ∷ is.next in
    omega (
      arith,
      ap attempts is.acts_are,
      attempts-append is.back rest,
      back-attempts before is.back is.taken is.undoes,
      retries-attempts work failure is.taken is.next came is.retries,
    )

-- so there is one attempt more than turns, at the most
turns-attempts : (work : Work) (before : Standing) (most turns : ℕ) (acts : List Act)
    (came : Result Steps Failure) → Turns work before most turns acts came
    → attempts acts ≤ turns + 1
turns-attempts work before most turns acts came (first same said is) = omega arith
turns-attempts work before most turns acts came (more turn done next failure said so broken is) =
    omega (
      arith,
      attempts-append done next,
      turns-attempts work before most turn done
          (Err failure) so,
      turn-attempts work before (turn + 1) most failure next came is,
    )

few : (work : Work) (most : ℕ) (acts : List Act) (came : Result Steps Failure)
    → AreActsDone work most acts came → attempts acts ≤ most + 1
few work most acts came (unread_first failure) = omega arith
few work most acts came (no_memory before) = omega arith
few work most acts came (once before said is) = omega arith
few work most acts came (in_turns before turns done tells said so within last is) =
    omega (
      arith,
      attempts-append done tells,
      turns-attempts work before most turns done came so,
      tells-attempts before tells came is,
    )

-- at Ok the last attempt of the turns answered just this
turn-last : (work : Work) (before : Standing) (turn most : ℕ) (failure : Failure)
    (o : Option (Result Steps Failure)) (acts : List Act) (steps : Steps)
    → IsTurn work before turn most failure acts (Ok steps) → last_behind o acts ≡ Some (Ok steps)
turn-last work before turn most failure o acts steps is =
    by-retries (Ok steps) refl is.taken is.next is.retries is.acts_are
  where
    by-retries : (came : Result Steps Failure) → came ≡ Ok steps
        → (taken : Result ℕ Failure) (next : List Act) → Retries work failure taken next came
        → acts ≡ is.back ++ (ToldTurn turn most failure is.taken ∷ next)
        → last_behind o acts ≡ Some (Ok steps)
    by-retries came e taken next (again count same said copied) are =
        ap (last_behind o) are ∙ last-append o is.back
        (ToldTurn turn most failure is.taken ∷ Attempted same came ∷ []) ∙ ap Some e
    by-retries came e taken next (no_memory_behind count) are = absurd (cc)
    by-retries came e taken next (not_again count copied) are = absurd (cc)
    by-retries came e taken next (not_taken why) are = absurd (cc)

turns-last : (work : Work) (before : Standing) (most turns : ℕ) (o : Option (Result Steps Failure))
    (acts : List Act) (came : Result Steps Failure) (steps : Steps)
    → Turns work before most turns acts came → came ≡ Ok steps
    → last_behind o acts ≡ Some (Ok steps)
turns-last work before most turns o acts came steps (first same said is) e = ap Some e
turns-last work before most turns o acts came steps
    (more turn done next failure said so broken is) e =
    let P : Result Steps Failure → Type 0 =
    λ x. IsTurn work before (turn + 1) most failure next x in
    last-append o done next ∙ turn-last work before (turn + 1) most failure
    (last_behind o done) next steps (subst P e is)

ends-last : (work : Work) (most : ℕ) (acts : List Act) (came : Result Steps Failure) (steps : Steps)
    → AreActsDone work most acts came → came ≡ Ok steps → last_behind None acts ≡ Some (Ok steps)
ends-last work most acts came steps (unread_first failure) e = absurd (cc)
ends-last work most acts came steps (no_memory before) e = absurd (cc)
ends-last work most acts came steps (once before said is) e = ap Some e
ends-last work most acts came steps (in_turns before turns done tells said so within last is) e =
    last-append None done tells ∙ by-tells tells came is e
    (turns-last work before most turns None done came steps so e)
  where
    by-tells : (tells : List Act) (came : Result Steps Failure) → TellsStanding before tells came
        → came ≡ Ok steps → last_behind None done ≡ Some (Ok steps)
        → last_behind (last_behind None done) tells ≡ Some (Ok steps)
    by-tells tells came (nothing_told steps) e is = is
    by-tells tells came (told failure now) e is = absurd (cc)
    by-tells tells came (unread_last failure why) e is = absurd (cc)

ok-last : (work : Work) (most : ℕ) (acts : List Act) (came : Result Steps Failure)
    → AreActsDone work most acts came → IfOk came (λ steps. last_behind None acts ≡ Some (Ok steps))
ok-last work most acts (Ok steps) is = ends-last work most acts (Ok steps) steps is refl
ok-last work most acts (Err failure) is = tt

-- what was done, with what that comes to
pub does-again : {A : Type 0} (Does : Act → A → A → Type 0) (work : Work) (most : ℕ)
    (acts : List Act) (old new : A) (came : Result Steps Failure) → LeadTo Does acts old new
    → AreActsDone work most acts came → DoesAgain Does work most old new came
does-again Does work most acts old new came lead done =
    record {
      acts = acts;
      lead = lead;
      done = done;
      few = few work most acts came done;
      ok = ok-last work most acts came done;
    }
