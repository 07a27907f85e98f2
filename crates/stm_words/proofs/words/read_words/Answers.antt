use Rattle.std.proofs.Common.{◌≡◌, List, sym, ◌∙◌, ap, subst, inl, inr, map}
use Rattle.clap.specs.Words.{IsAmong, Text, app_of, fault_of, is_simple, is_simple_and_free, kind_of}
use Rattle.stm_words.proofs.Simple.{at_err, at_ok, simple, simple_and_free}
use Rattle.stm_words.specs.CommandSet.{ReadsWords, command_set}
use Rattle.stm_words.proofs.words.read_words.Goals as goal

pub returns-clause-value : goal.returns-clause-value
returns-clause-value c =
    let p = c.in_ok-command_set.ensures in
    let parse = c.try_get_matches_from in
    let same : app_of c.in_ok-command_set.field-0 ≡ command_set c.args.environment p.0 = p.1.0 in
    let words : List Text = map (λ s. s.now) c.args.words.now in
    at_ok parse.result _ _ _ (parse.ensures.kinds (ap is_simple_and_free same ∙ simple_and_free c.args.environment p.0)) parse.ensures.matches
    (λ m none h. (
      p.0,
      p.2,
      sym (ap (λ a. fault_of a words) same) ∙ none,
      subst (λ a. ReadsWords a words m) same (h (ap is_simple same ∙ simple c.args.environment p.0)),
    ))

pub returns-clause-fault : goal.returns-clause-fault
returns-clause-fault c =
    let p = c.in_ok-command_set.ensures in
    let parse = c.try_get_matches_from in
    let same : app_of c.in_ok-command_set.field-0 ≡ command_set c.args.environment p.0 = p.1.0 in
    let words : List Text = map (λ s. s.now) c.args.words.now in
    at_err parse.result _ _ (parse.ensures.kinds (ap is_simple_and_free same ∙ simple_and_free c.args.environment p.0))
    (λ e h. elim h [
      | inl memory ↦ inl memory
      | inr among ↦ inr (p.0, p.2, subst (λ a. IsAmong (kind_of e) (fault_of a words)) same among)
    ])
