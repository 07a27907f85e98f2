-- What is told of a session by a plan, from the session on.
use Rattle.std.specs.Borrow.{Bor}
use Rattle.std.proofs.Common.{◌≡◌, ◌∙◌, ℕ, List, Bool, Result, Ok, Err, Option, None, IfOk, refl, subst, sym}
use Rattle.stm_wire.proofs.Names.{RigState}
use Rattle.stm_words.specs.declared.device.Device.{Device}
use Rattle.stm_words.specs.declared.device.Device.TheVariants.{Simulator, Socket}
use Rattle.stm_words.specs.declared.options.Options.{Options}
use Rattle.stm_words.specs.declared.sequel.Sequel.{Sequel}
use Rattle.stm_watch.specs.Known.{Known}
use Rattle.stm_watch.specs.Watching.{watched}
use Rattle.stm_work.specs.declared.failure.Failure.{Failure}
use Rattle.stm_work.specs.declared.plan.Plan.{Plan}
use Rattle.stm_work.specs.declared.steps.Steps.{Steps}
use Rattle.stm_work.specs.declared.work.Work.{Work}
use Rattle.stm_session.specs.declared.greeting.Greeting.{Greeting}
use Rattle.stmflash.specs.DeviceUse.{AreLeft, AreOutOf, TakesAhead, TakesAround, UsesOn, UsesOnce, UsesPlan}
use Rattle.stmflash.specs.DeviceUse.{greeting_for}
use Rattle.stm_work.specs.Plan.{AreTold, IsUsePlan, TellsSteps}
use Rattle.stm_work.specs.Steps.{Stays}
use Rattle.stm_work.specs.Watching.{IsWatchingBegun}

-- where just what was so at Ok answers Ok, it is so
pub ok-of : {A E : Type 0} (P : A → Type 0) (out last : Result A E) → IfOk out P
    → IfOk last (λ x. out ≡ Ok x) → IfOk last P
ok-of P out (Err fault) all same = tt
ok-of {A} {E} P out (Ok x) all same =
    let Q : Result A E → Type 0 = λ r. IfOk r P in subst Q same all

-- what is told of what is told
are-told-again : (first mid last : Steps) → AreTold first mid → AreTold mid last → AreTold first last
are-told-again first mid last before then =
    let P : Steps → Type 0 = λ s. s.failure ≡ None in
    record {
      board = then.board ∙ before.board;
      answer = then.answer ∙ before.answer;
      kept = then.kept ∙ before.kept;
      whole = λ none. let same = then.whole none in same ∙ before.whole (subst P same none);
    }

pub tells-again : (first mid last : Result Steps Failure) → TellsSteps first mid → TellsSteps mid last
    → TellsSteps first last
tells-again first mid (Err failure) before then = tt
tells-again first (Err failure) (Ok last) before then = absurd then
tells-again (Err failure) (Ok mid) (Ok last) before then = absurd before
tells-again (Ok first) (Ok mid) (Ok last) before then = are-told-again first mid last before then

-- a Rig that is watched from here on
pub begun-inner : {A L : Type 0} (inner_view : L → RigState) (known first : Known)
    (refusal : Option A) (line journal : ℕ) (inner before : L) → first ≡ known → refusal ≡ None
    → inner ≡ before
    → IsWatchingBegun known (inner_view before) (watched first refusal line journal (inner_view inner))
begun-inner {A} {L} inner_view known first refusal line journal inner before same none is =
    let old = inner_view before in
    let P : Known → Type 0 = λ k. IsWatchingBegun known old (watched k refusal line journal (inner_view inner)) in
    let Q : Option A → Type 0 = λ r. IsWatchingBegun known old (watched known r line journal (inner_view inner)) in
    let S : L → Type 0 = λ x. IsWatchingBegun known old (watched {A = A} known None line journal (inner_view x)) in
    subst P (sym same)
    (subst Q (sym none)
    (subst S (sym is)
    (record {
      honest = λ honest seen. (honest, seen);
      device = refl;
      journal = refl;
      calls = refl;
      told = refl;
    })))

-- what stays of a Rig stays of one that is the same
pub stays-as : {L : Type 0} (view : L → RigState) (a b c d : L) → a ≡ b → Stays (view a) (view c) → d ≡ c → Stays (view b) (view d)
stays-as {L} view a b c d same stays is =
    let P : L → Type 0 = λ x. Stays (view x) (view d) in
    let Q : L → Type 0 = λ x. Stays (view a) (view x) in
    subst P same (subst Q (sym is) stays)

-- a session that is told otherwise how it is greeted
pub takes-as : {R : Type 0} (view : R → RigState) (way said : Option Greeting) (plan : Plan)
    (old new : R) (done : Result Steps Failure) → way ≡ said
    → TakesAhead way view plan old new done → TakesAhead said view plan old new done
takes-as {R} view way said plan old new done same takes =
    let P : Option Greeting → Type 0 = λ w. TakesAhead w view plan old new done in subst P same takes

-- what was made of what came of a session, and where its bytes went
pub are-left : (is_out : Bool) (done ended out : Result Steps Failure) → TellsSteps done ended
    → IfOk out (AreOutOf is_out ended) → IfOk out (AreLeft is_out done)
are-left is_out done ended (Err failure) tells are = tt
are-left is_out done (Err failure) (Ok steps) tells are = absurd are
are-left is_out done (Ok last) (Ok steps) tells are = (last, tells, are)

-- a session on a Rig around another one, and what is told at its end
pub uses-plan : {R L : Type 0} (view : R → RigState) (inner : R → L) (inner_view : L → RigState)
    (known : Known) (options : Options) (plan : Plan) (before after : L) (is_out : Bool)
    (told out : Result Steps Failure)
    → TakesAround view inner inner_view known (greeting_for plan.job.work options) plan before after told
    → IfOk out (AreLeft is_out told) → IfOk out (UsesPlan view options is_out plan)
uses-plan view inner inner_view known options plan before after is_out told (Err failure) takes left =
    tt
uses-plan view inner inner_view known options plan before after is_out told (Ok steps) takes
    (last, tells, out) =
    record {
      old = takes.old;
      new = takes.new;
      done = takes.done;
      takes = takes.takes;
      left = (last, tells-again takes.done told (Ok last) takes.tells tells, out);
    }

module _ {A B : Type 0} (simulated : A → RigState) (connected : B → RigState) where
  -- of a simulator in the process
  pub on-simulated : (options : Options) (id : ℕ) (file : Bor (List ℕ)) (is_out : Bool)
      (plan : Plan) (came : Result Steps Failure) → options.device ≡ Simulator id file
      → IfOk came (UsesPlan simulated options is_out plan) → IfOk came (UsesOn simulated connected options.device options is_out plan)
  on-simulated options id file is_out plan came is uses =
      let P : Device → Type 0 = λ d. IfOk came (UsesOn simulated connected d options is_out plan) in
      subst P (sym is) uses

  -- and of what listens at a socket
  pub on-connected : (options : Options) (path : Bor (List ℕ)) (is_out : Bool)
      (plan : Plan) (came : Result Steps Failure) → options.device ≡ Socket path
      → IfOk came (UsesPlan connected options is_out plan) → IfOk came (UsesOn simulated connected options.device options is_out plan)
  on-connected options path is_out plan came is uses =
      let P : Device → Type 0 = λ d. IfOk came (UsesOn simulated connected d options is_out plan) in
      subst P (sym is) uses

  -- one use, by its plan
  pub uses-once : (options : Options) (texts : List (List ℕ)) (is_told : Bool)
      (does : Work) (sequel : Sequel) (is_out : Bool) (plan : Plan) (came : Result Steps Failure)
      → IsUsePlan options texts is_told does sequel plan
      → IfOk came (UsesOn simulated connected options.device options is_out plan)
      → IfOk came (UsesOnce simulated connected options texts does sequel is_out)
  uses-once options texts is_told does sequel is_out plan (Err failure) is uses = tt
  uses-once options texts is_told does sequel is_out plan (Ok steps) is uses =
      record { is_told = is_told; plan = plan; is_plan = is; uses = uses }
