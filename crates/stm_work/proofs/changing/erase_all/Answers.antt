use Rattle.std.proofs.Common.{inl, inr, ℕ, List, [], ◌∷◌, refl, subst}
use Rattle.stm_session.specs.Meaning.{erases}
use Rattle.stm_work.specs.Conduct.{RunsIfRoom}
use Rattle.stm_work.proofs.Telling.{said_err}
use Rattle.stm_work.proofs.changing.erase_all.Goals as goal

pub returns-in_err-told : goal.returns-in_err-told
returns-in_err-told g c = record {
  mid = c.info.new.rig;
  told = _;
  asks = record { promised = c.in_err-told.ensures.promised; describes = tt; cause = c.in_err-told.ensures.cause; puts = c.in_err-told.ensures.puts; silent = c.in_err-told.ensures.silent; unwritten = c.in_err-told.ensures.unwritten; kept = c.in_err-told.ensures.kept; order = λ torn. tt; stops = c.in_err-told.ensures.stops };
  goes_on = (refl, said_err _ c.from_residual.result c.from_residual.ensures.1);
}

pub returns-in_err-first_pages : goal.returns-in_err-first_pages
returns-in_err-first_pages g c = record {
  mid = c.info.new.rig;
  told = _;
  asks = record { promised = c.in_ok-told.ensures.promised; describes = c.in_ok-told.ensures.told; cause = c.in_ok-told.ensures.cause; puts = c.in_ok-told.ensures.puts; silent = tt; unwritten = c.in_ok-told.ensures.unwritten; kept = c.in_ok-told.ensures.kept; order = c.in_ok-told.ensures.order; stops = λ torn. tt };
  goes_on = inr (said_err _ c.from_residual-in_err-first_pages.result c.from_residual-in_err-first_pages.ensures.1, refl);
}

pub returns : goal.returns
returns g c =
    let commands : List ℕ → Type 0 = λ pages. RunsIfRoom g.L.Rig.view c.args.table.now (erases pages ∷ []) c.info.new.rig c.erase.new.rig c.erase.result in
    record {
      mid = c.info.new.rig;
      told = _;
      asks = record { promised = c.in_ok-told.ensures.promised; describes = c.in_ok-told.ensures.told; cause = c.in_ok-told.ensures.cause; puts = c.in_ok-told.ensures.puts; silent = tt; unwritten = c.in_ok-told.ensures.unwritten; kept = c.in_ok-told.ensures.kept; order = c.in_ok-told.ensures.order; stops = λ torn. tt };
      goes_on = subst commands c.in_ok-first_pages.ensures (inl c.erase.ensures.runs);
    }
