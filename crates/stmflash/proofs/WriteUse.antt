-- What a write that was done again where its line failed comes to: one use, whose steps are told.
use Rattle.std.proofs.Common.{◌≡◌, ◌++◌, ◌∷◌, [], ℕ, List, false, Some, Result, Ok, Err, IfOk, inl, inr, refl, subst}
use Rattle.stm_wire.proofs.Names.{RigState}
use Rattle.stm_work.specs.declared.failure.Failure.{Failure}
use Rattle.stm_work.specs.declared.left_standing.Standing.{Standing}
use Rattle.stm_work.specs.declared.steps.Steps.{Steps}
use Rattle.stm_work.specs.declared.work.Work.{Work}
use Rattle.stm_work.specs.Action.{IsDoneAgain}
use Rattle.stm_work.specs.Again.{Act, AreActsDone, IsTurn, LeadTo, Retries, Turns}
use Rattle.stm_work.specs.Again.Act.{ToldTurn}
use Rattle.stm_work.specs.Again.AreActsDone.{in_turns, no_memory, once, unread}
use Rattle.stm_work.specs.Again.Retries.{again, no_memory as no_memory_behind, not_again, not_taken}
use Rattle.stm_work.specs.Again.Turns.{first, more}
use Rattle.stmflash.specs.DeviceUse.{UsesOnce}
use Rattle.stmflash.specs.WriteUse.{AreUses, IsUse, UsesLast, Words}

module _ {A B : Type 0} (simulated : A → RigState) (connected : B → RigState) where
  -- acts that lead from one state to another, each a use by the words of its state, which stay
  pub all-uses : {S : Type 0} (words : S → Words) (acts : List Act) (old new : S)
      → LeadTo (λ act a b. IsUse simulated connected (words a) act × (words b ≡ words a)) acts old new
      → AreUses simulated connected (words old) acts
  all-uses {S} words [] old new lead = tt
  all-uses {S} words (act ∷ acts) old new (mid, (uses, same), lead) =
      let P : Words → Type 0 = λ w. AreUses simulated connected w acts in
      (uses, subst P same (all-uses words acts mid new lead))

  module _ (words : Words) where
    -- the first of acts behind one another, and the last
    front-uses : (xs ys : List Act) → AreUses simulated connected words (xs ++ ys)
        → AreUses simulated connected words xs
    front-uses [] ys uses = tt
    front-uses (x ∷ xs) ys (one, uses) = (one, front-uses xs ys uses)

    back-uses : (xs ys : List Act) → AreUses simulated connected words (xs ++ ys)
        → AreUses simulated connected words ys
    back-uses [] ys uses = uses
    back-uses (x ∷ xs) ys (one, uses) = back-uses xs ys uses

    abbrev Last : Work → Steps → Type 0
    Last does steps =
        UsesLast simulated connected words.options words.texts does words.sequel false steps

    abbrev Once : Work → Steps → Type 0
    Once does steps = UsesOnce simulated connected words.options words.texts does words.sequel false
        steps

    -- the work itself, and a copy of it
    itself : (does : Work) (came : Result Steps Failure) → IfOk came (Once does)
        → IfOk came (Last does)
    itself does (Ok steps) uses = record { last = does; same = inl refl; uses = uses }
    itself does (Err failure) uses = tt

    copied : (does same : Work) (came : Result Steps Failure) → IsDoneAgain does (Some same)
        → IfOk came (Once same) → IfOk came (Last does)
    copied does same (Ok steps) is uses = record { last = same; same = inr is; uses = uses }
    copied does same (Err failure) is uses = tt

    -- behind a turn: there is one only where the work may be done again
    turn-last : (does : Work) (before : Standing) (turn most : ℕ) (failure : Failure)
        (acts : List Act) (came : Result Steps Failure)
        → IsTurn does before turn most failure acts came
        → AreUses simulated connected words acts → IfOk came (Last does)
    turn-last does before turn most failure acts came is uses =
        let P : List Act → Type 0 = λ xs. AreUses simulated connected words xs in
        let behind = back-uses is.back (ToldTurn turn most failure is.taken ∷ is.next)
        (subst P is.acts_are uses) in
        by-retries is.taken is.next came is.retries behind.1
      where
        by-retries : (taken : Result ℕ Failure) (next : List Act) (came : Result Steps Failure)
            → Retries does failure taken next came
            → AreUses simulated connected words next → IfOk came (Last does)
        by-retries taken next came (again count same said is) uses =
            copied does same came is uses.0
        by-retries taken next came (no_memory_behind count) uses = tt
        by-retries taken next came (not_again count is) uses = tt
        by-retries taken next came (not_taken why) uses = tt

    turns-last : (does : Work) (before : Standing) (most turns : ℕ) (acts : List Act)
        (came : Result Steps Failure)
        → Turns does before most turns acts came → AreUses simulated connected words acts
        → IfOk came (Last does)
    turns-last does before most turns acts came (first same said is) uses =
        copied does same came is uses.0
    turns-last does before most turns acts came
        (more turn done next failure said so broken is) uses =
        turn-last does before _ most failure next came is (back-uses done next uses)

    pub last-use : (does : Work) (acts : List Act) (came : Result Steps Failure)
        → AreActsDone does words.sequel.again acts came
        → AreUses simulated connected words acts → IfOk came (Last does)
    last-use does acts came (unread failure) uses = tt
    last-use does acts came (no_memory before) uses = tt
    last-use does acts came (once before said is) uses = itself does came uses.1.0
    last-use does acts came (in_turns before turns done tells said so within last is) uses =
        turns-last does before words.sequel.again turns done came so
        (front-uses done tells uses.1)
