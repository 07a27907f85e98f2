-- A run, told as an answer: the same run with another value, or the same fault, at its end.
use Rattle.std.proofs.Common.{◌≡◌, ℕ, zero, suc, ◌+◌, List, [], ◌∷◌, ◌++◌, Result, Ok, Err, IsErrAnd, refl, sym, ◌∙◌, ap, subst, arith, add-one, zero-add}
use Rattle.std.specs.List.{range_with_len}
use Rattle.stm_image.specs.Pairs.{Pairs}
use Rattle.stm_wire.proofs.Names.{ChipData, RigState}
use Rattle.stm_session.specs.declared.fault.Fault.{Fault}
use Rattle.stm_session.specs.declared.command.Command.{Command}
use Rattle.stm_session.specs.declared.command.Command.TheVariants.{Verify}
use Rattle.stm_session.specs.declared.outcome.Outcome.{Outcome}
use Rattle.stm_session.specs.declared.outcome.Outcome.TheVariants.{Written, Erased, Verified, Read}
use Rattle.stm_session.proofs.Names.{AreKindsOf, CommandData, OutcomeData, RunContract}
use Rattle.stm_work.specs.Conduct.{RunsJust}

module _ {T U : Type 0} (table : List ChipData) (commands : List CommandData) (old new : RigState) (one : T → List OutcomeData) (two : U → List OutcomeData) where
  contract_ok : (x : T) (y : U) → one x ≡ two y → RunContract table commands old new (Ok x) one → RunContract table commands old new (Ok y) two
  contract_ok x y same p = record {
    unsent = λ h refusal is. absurd (p.unsent h refusal is).answers;
    unsent_calls = p.unsent_calls;
    refused = λ h safe refusal is. absurd (p.refused h safe refusal is).answers;
    runs = λ h flashes u own none.
        let r = p.runs h flashes u own none in
        record { moments = r.moments; left = r.left; honest = r.honest; outcomes = r.outcomes ∙ ap (λ os. Ok os) same; done = r.done; settled = r.settled; fails = tt };
    spared = λ h empty none. tt;
  }

  contract_err : (e : Fault) → RunContract table commands old new (Err e) one → RunContract table commands old new (Err e) two
  contract_err e p = record {
    unsent = λ h refusal is.
        let r = p.unsent h refusal is in
        record { moments = r.moments; honest = r.honest; left = r.left; answers = r.answers };
    unsent_calls = p.unsent_calls;
    refused = λ h safe refusal is.
        let r = p.refused h safe refusal is in
        record { moments = r.moments; honest = r.honest; left = r.left; answers = r.answers };
    runs = λ h flashes u own none.
        let r = p.runs h flashes u own none in
        record { moments = r.moments; left = r.left; honest = r.honest; outcomes = tt; done = tt; settled = tt; fails = r.fails };
    spared = p.spared;
  }

  pub told_ok : (x : T) (y : U) → one x ≡ two y → RunsJust table commands old new (Ok x) one → RunsJust table commands old new (Ok y) two
  told_ok x y same r = record {
    promised = contract_ok x y same r.promised;
    cause = record {
      line_later = r.cause.line_later;
      journal_later = r.cause.journal_later;
      failed = tt;
      line_done = r.cause.line_done;
      line_kept = tt;
      journal_done = r.cause.journal_done;
      journal_kept = tt;
      honest = r.cause.honest;
    };
    puts = r.puts;
    silent = tt;
    order = r.order;
    stops = tt;
  }

  pub told_err : (e : Fault) (result : Result U Fault) → IsErrAnd result (λ x. x ≡ e) → RunsJust table commands old new (Err e) one → RunsJust table commands old new result two
  told_err e (Ok y) is r = absurd is
  told_err e (Err x) is r =
      let J : Fault → Type 0 = λ f. RunsJust {T = U} table commands old new (Err f) two in
      subst J (sym is)
      (record {
        promised = contract_err e r.promised;
        cause = record {
          line_later = r.cause.line_later;
          journal_later = r.cause.journal_later;
          failed = r.cause.failed;
          line_done = tt;
          line_kept = r.cause.line_kept;
          journal_done = tt;
          journal_kept = r.cause.journal_kept;
          honest = r.cause.honest;
        };
        puts = r.puts;
        silent = r.silent;
        order = tt;
        stops = r.stops;
      })

none_of : (rest : List Outcome) (said : Outcome) → AreKindsOf [] (rest ++ said ∷ []) → ⊥
none_of [] said kinds = kinds
none_of (first ∷ rest) said kinds = kinds

-- the last outcome of one command is its only one
pub only_is : (c : Command) (outcomes rest : List Outcome) (said : Outcome) → outcomes ≡ rest ++ said ∷ [] → AreKindsOf (c ∷ []) outcomes → outcomes ≡ said ∷ []
only_is c outcomes [] said e kinds = e
only_is c outcomes (first ∷ rest) said e kinds =
    let Kinds : List Outcome → Type 0 = λ os. AreKindsOf (c ∷ []) os in
    absurd (none_of rest said (subst Kinds e kinds).1)

-- the outcomes of a verify
pub verified_is : (image : Pairs) (outcomes : List Outcome) → AreKindsOf (Verify image ∷ []) outcomes → outcomes ≡ Verified ∷ []
verified_is image [] kinds = absurd kinds
verified_is image (Verified ∷ []) kinds = refl
verified_is image (Verified ∷ (said ∷ outcomes)) kinds = absurd kinds.1
verified_is image (Written segment pages ∷ outcomes) kinds = absurd kinds.0
verified_is image (Erased segment pages ∷ outcomes) kinds = absurd kinds.0
verified_is image (Read bytes ∷ outcomes) kinds = absurd kinds.0

-- n numbers and the next
pub range_more : (a n : ℕ) → range_with_len a (suc n) ≡ range_with_len a n ++ (a + n) ∷ []
range_more a zero = ap (λ x. x ∷ []) (omega arith)
range_more a (suc n) =
    let next : a + 1 + n ≡ a + suc n = omega arith in
    ap (λ xs. a ∷ xs) (range_more (a + 1) n ∙ ap (λ x. range_with_len (a + 1) n ++ x ∷ []) next)

pub first_more : (n : ℕ) → range_with_len 0 (n + 1) ≡ range_with_len 0 n ++ n ∷ []
first_more n = ap (range_with_len 0) (add-one n) ∙ range_more 0 n ∙ ap (λ x. range_with_len 0 n ++ x ∷ []) (zero-add n)

-- a fault that is handed on
pub said_err : {T E : Type 0} (e : E) (result : Result T E) → IsErrAnd result (λ x. x ≡ e) → result ≡ Err e
said_err e (Ok x) is = absurd is
said_err e (Err x) is = ap (λ f. Err f) is
