use Rattle.std.proofs.Common.{◌≡◌, List, ℕ, ◌++◌, [], refl, sym, ap, subst, ◌∙◌, append-nil, append_assoc}
use Rattle.std.specs.declared.str.Chars.{Chars}
use Rattle.std.specs.Str.{IsUtf8, encode_utf8_all}
use Rattle.std.proofs.Output.{has_written_append, writes_in_calls_nil}
use Rattle.std.proofs.lemmas.Str.{IsUtf8-past_char}
use Rattle.stm_files.specs.Escaped.{escaped, shown}
use Rattle.stm_files.proofs.Escaping.{escaped-none, escaped-step}
use Rattle.stm_files.proofs.escaped.EscapingWrite.write_str.Goals as goal

pub loop-c-init : goal.loop-c-init
loop-c-init g c =
    let all = ap (λ (s : Chars). s.rest.now) c.into_iter-c-iterator.ensures.into_iter_gives ∙ c.chars-c-items.ensures.rest in
    let Utf8 : List ℕ → Type 0 = λ text. IsUtf8 text in
    (refl, subst Utf8 (sym all) c.utf8.text, λ plain. ([], record { wrote = writes_in_calls_nil _ _; plain = plain }, ap escaped all))

pub loop-c-preserved : goal.loop-c-preserved
loop-c-preserved g c =
    let now = c.loop-c.invariant in
    let splits = c.in-Some.ensures.steps.0 in (
      now.0,
      IsUtf8-past_char _ _ _ now.1 splits,
      λ plain.
          let done = now.2 plain in
          let own = encode_utf8_all (shown c.in-Some.c) in (
            done.0 ++ own,
            has_written_append _ _ _ _ _ _ done.1 (c.in_ok-write_shown.ensures done.1.plain refl),
            append_assoc done.0 own _ ∙ ap (λ (rest : List ℕ). done.0 ++ rest) (sym (escaped-step _ _ _ now.1 splits)) ∙ done.2,
          ),
    )

pub returns : goal.returns
returns g c =
    let now = c.loop-c.invariant in
    let took = g.W.Write.write_str_gives in
    record {
      ok = λ ok. (
        now.0,
        c.utf8.text,
        λ plain.
            let done = now.2 plain in
            let none = escaped-none _ c.in-None.ensures.steps.0.0 in
            let whole : done.0 ≡ escaped c.args.text.now = sym (append-nil done.0) ∙ ap (λ (rest : List ℕ). done.0 ++ rest) (sym none) ∙ done.2 in
            rw whole at done.1,
      );
    }
