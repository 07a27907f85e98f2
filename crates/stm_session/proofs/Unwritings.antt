-- Which calls append nothing, and how they join.
use Rattle.std.proofs.Common.{ℕ, List, [], ◌∷◌, ◌++◌, Option}
use Rattle.stm_wire.specs.declared.fault.WireFault.{WireFault}
use Rattle.stm_wire.proofs.Names.{Adds, Append, AreLineCalls, Call, calls_of, Fetch, GoesOn, IsBrokenOff, SettlesWithin, Turn}
use Rattle.stm_wire.specs.lemmas.DialogueLaws.{GoesOn-adds, GoesOn-append, GoesOn-weaker, broken_off_is_cut_short, held_is_cut_short}
use Rattle.stm_journal.proofs.Names.{AreFetches}
use Rattle.stm_session.proofs.Names.{AppendsNothing}

line_appends_nothing : (calls : List Call) → AreLineCalls calls → AppendsNothing calls
line_appends_nothing [] is = tt
line_appends_nothing (Append n ∷ calls) is = absurd is
line_appends_nothing (Fetch ∷ calls) is = absurd is
line_appends_nothing (call ∷ calls) is = line_appends_nothing calls is

fetches_append_nothing : (calls : List Call) → AreFetches calls → AppendsNothing calls
fetches_append_nothing [] is = tt
fetches_append_nothing (Fetch ∷ calls) is = fetches_append_nothing calls is
fetches_append_nothing calls is = absurd is

both_append_nothing : (xs ys : List Call) → AppendsNothing xs → AppendsNothing ys → AppendsNothing (xs ++ ys)
both_append_nothing [] ys x y = y
both_append_nothing (Append n ∷ xs) ys x y = absurd x
both_append_nothing (call ∷ xs) ys x y = both_append_nothing xs ys x y

pub held_appends_nothing : (turns : List Turn) (a b : Option (List Call)) → Adds (calls_of turns) a b → GoesOn AppendsNothing a b
held_appends_nothing turns a b adds = GoesOn-adds AppendsNothing (calls_of turns) a b adds (line_appends_nothing (calls_of turns) (held_is_cut_short turns).line)

pub broken_appends_nothing : (fault : WireFault) (turns : List Turn) (a b : Option (List Call)) → GoesOn (IsBrokenOff fault turns) a b → GoesOn AppendsNothing a b
broken_appends_nothing fault turns a b p = GoesOn-weaker (IsBrokenOff fault turns) AppendsNothing a b p (λ xs x. line_appends_nothing xs (broken_off_is_cut_short fault turns xs x).line)

pub settling_appends_nothing : (byte limit : ℕ) (a b : Option (List Call)) → GoesOn (SettlesWithin byte limit) a b → GoesOn AppendsNothing a b
settling_appends_nothing byte limit a b p = GoesOn-weaker (SettlesWithin byte limit) AppendsNothing a b p (λ xs x. line_appends_nothing xs x.line)

pub fetching_appends_nothing : (a b : Option (List Call)) → GoesOn AreFetches a b → GoesOn AppendsNothing a b
fetching_appends_nothing a b p = GoesOn-weaker AreFetches AppendsNothing a b p fetches_append_nothing

pub then_appends_nothing : (a b c : Option (List Call)) → GoesOn AppendsNothing a b → GoesOn AppendsNothing b c → GoesOn AppendsNothing a c
then_appends_nothing a b c p q = GoesOn-append AppendsNothing AppendsNothing AppendsNothing a b c p q both_append_nothing
