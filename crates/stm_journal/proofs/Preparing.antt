-- A journal in memory after a line that was prepared.
use Rattle.std.proofs.Common.{◌≡◌, ℕ, ◌+◌, ◌-◌, List, [], ◌∷◌, ◌++◌, length, false, sym, ◌∙◌, ap, ap₂, arith, length-append}
use Rattle.stm_journal.proofs.Names.{after_entry, capped, Entry, forget_entry, line_of, line_text, Loaded, past_entry, past_mark, StateData}
use Rattle.stm_journal.proofs.Ties.{mark-state}

abbrev pub loaded : StateData → ℕ → ℕ → Loaded
loaded state lines size = record { state = state; lines = lines; size = size; is_torn = false; is_greeted = false }

pub prepared : (l : Loaded) (e entry : Entry) (old new : StateData) (text out : List ℕ) (line ends size : ℕ) → forget_entry e ≡ entry → old ≡ l.state → out ≡ text ++ line_text e
    → line ≡ capped ((past_mark l).lines + 1) → ends ≡ capped ((past_mark l).size + (length out - length text - 1)) → size ≡ capped ((past_mark l).size + (length out - length text))
    → new ≡ after_entry line ends old entry → loaded new line size ≡ past_entry (past_mark l) e
prepared l e entry old new text out line ends size held state more line-is ends-is size-is after =
    let m : Loaded = past_mark l in
    let count : length out - length text ≡ length (line_of e) + 1 =
    omega (arith, ap (λ (xs : List ℕ). length xs) more, length-append text (line_text e), length-append (line_of e) (10 ∷ []))
    in
    let place : ends ≡ capped (m.size + length (line_of e)) = ends-is ∙ ap (λ (n : ℕ). capped (m.size + (n - 1))) count ∙ ap (λ (n : ℕ). capped (m.size + n)) (one-less (length (line_of e))) in
    let all : size ≡ capped (m.size + (length (line_of e) + 1)) = size-is ∙ ap (λ (n : ℕ). capped (m.size + n)) count in
    let same : old ≡ m.state = state ∙ sym (mark-state l) in
    ap (λ (s : StateData). loaded s line size) (after ∙ ap (λ (s : StateData). after_entry line ends s entry) same ∙ ap (λ (x : Entry). after_entry line ends m.state x) (sym held))
    ∙ ap (λ (n : ℕ). loaded (after_entry line n m.state (forget_entry e)) line size) place
    ∙ ap₂ (λ (n k : ℕ). loaded (after_entry n (capped (m.size + length (line_of e))) m.state (forget_entry e)) n k) line-is all
  where
    one-less : (n : ℕ) → n + 1 - 1 ≡ n
    one-less n = omega arith
