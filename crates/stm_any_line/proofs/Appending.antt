-- What calls append to a journal: those of the line nothing.
use Rattle.std.proofs.Common.{◌≡◌, inl, inr, ℕ, List, [], ◌∷◌, ◌++◌, Some, None, refl, sym, ◌∙◌, ap, subst, append_assoc}
use Rattle.stm_wire.specs.declared.fault.WireFault.{WireFault}
use Rattle.stm_wire.specs.declared.fault.WireFault.TheVariants.{Line, Nack, Quiet, Garbled}
use Rattle.stm_wire.proofs.Names.{Acknowledged, Append, AreLineCalls, Call, call_of, Expects, FailsBy, Fetch, Get, IsBrokenOff, Learns, Put, Says, Turn}
use Rattle.stm_session.proofs.Names.{acts_of}
use Rattle.stm_any_line.specs.Texts.{appended_in}

-- what calls append
pub appended-acts : (calls : List Call) → appended_in (acts_of calls) ≡ appended_in calls
appended-acts [] = refl
appended-acts (Append bytes ∷ calls) = ap (λ (l : List ℕ). bytes ++ l) (appended-acts calls)
appended-acts (call ∷ calls) = appended-acts calls

pub appended-append : (xs ys : List Call)
    → appended_in (xs ++ ys) ≡ appended_in xs ++ appended_in ys
appended-append [] ys = refl
appended-append (Append bytes ∷ xs) ys =
    ap (λ (l : List ℕ). bytes ++ l) (appended-append xs ys)
    ∙ sym (append_assoc bytes (appended_in xs) (appended_in ys))
appended-append (x ∷ xs) ys = appended-append xs ys

pub appended-line : (calls : List Call) → AreLineCalls calls → appended_in calls ≡ []
appended-line [] are = refl
appended-line (Append bytes ∷ calls) are = absurd are
appended-line (Fetch ∷ calls) are = absurd are
appended-line (call ∷ calls) are = appended-line calls are

-- calls of the line, and others behind them
pub appended-behind : (xs ys : List Call) → AreLineCalls xs
    → appended_in (xs ++ ys) ≡ appended_in ys
appended-behind xs ys are =
    appended-append xs ys ∙ ap (λ (l : List ℕ). l ++ appended_in ys) (appended-line xs are)

-- a frame that was broken off

one_line : (call : Call) (calls : List Call) → AreLineCalls (call ∷ []) → AreLineCalls calls
    → AreLineCalls (call ∷ calls)
one_line (Append bytes) calls first rest = absurd first
one_line Fetch calls first rest = absurd first
one_line call calls first rest = rest

turn_line : (turn : Turn) → AreLineCalls (call_of turn ∷ [])
turn_line Acknowledged = tt
turn_line turn = tt

line_as : (call other : Call) → call ≡ other → AreLineCalls (other ∷ [])
    → AreLineCalls (call ∷ [])
line_as call other is are =
    let P : Call → Type 0 = λ c. AreLineCalls (c ∷ []) in
    subst P (sym is) are

failed_line : (fault : WireFault) (turn : Turn) (call : Call) → FailsBy fault turn call
    → AreLineCalls (call ∷ [])
failed_line Line (Says byte) call f = line_as call (Put byte) f tt
failed_line Quiet Acknowledged call f = line_as call (Get None) f tt
failed_line Quiet (Expects byte) call f = line_as call (Get None) f tt
failed_line Quiet (Learns byte) call f = line_as call (Get None) f tt
failed_line Nack Acknowledged call f = line_as call _ f tt
failed_line Nack (Expects byte) call f = absurd f
failed_line Nack (Learns byte) call f = absurd f
failed_line Garbled Acknowledged call f = line_as call (Get (Some f.0)) f.3 tt
failed_line Garbled (Expects byte) call f = line_as call (Get (Some f.0)) f.3 tt
failed_line Garbled (Learns byte) call f = absurd f
failed_line Line turn call f = line_as call (Get None) f tt
failed_line fault (Says byte) call f = absurd f

pub broken_line : (fault : WireFault) (turns : List Turn) (calls : List Call)
    → IsBrokenOff fault turns calls → AreLineCalls calls
broken_line fault [] calls broken = absurd broken
broken_line fault (turn ∷ turns) [] broken = tt
broken_line fault (turn ∷ turns) (call ∷ calls) (inl (fails, none)) =
    let P : List Call → Type 0 = λ l. AreLineCalls l in
    one_line call calls (failed_line fault turn call fails) (subst P (sym none) tt)
broken_line fault (turn ∷ turns) (call ∷ calls) (inr (is, broken)) =
    one_line call calls (line_as call (call_of turn) is (turn_line turn))
    (broken_line fault turns calls broken)
