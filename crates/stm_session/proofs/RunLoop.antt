-- The loop over the commands of a run.
use Rattle.std.proofs.Common.{◌≡◌, ⊎_elim, if◌then◌else◌, append_assoc, ℕ, zero, suc, ◌+◌, ◌*◌, ◌<◌, ◌≤◌, Bool, true, false, List, [], ◌∷◌, ◌++◌, length, map, take, drop, get_or, Some, vec_len, vec_capacity, Vec, Global, refl, sym, ap, ◌∙◌, arith}
use Rattle.std.specs.List.{list_all}
use Rattle.std.proofs.lemmas.Bool.{cases_Bool, true≢false}
use Rattle.std.proofs.lemmas.List.{length-append, length-map, map-append, take-append-drop, take_more}
use Rattle.std.proofs.lemmas.List.Folds.{list_all_at}
use Rattle.stm_wire.proofs.Names.{ChipData, GoesOn, IsPart, RigState}
use Rattle.stm_journal.proofs.Names.{is_unfinished, Loaded}
use Rattle.stm_session.proofs.Names.{AreDoneInOrder, AreKindsOf, changes_of, Command, command_data, CommandData, commands_in, Follows, is_change, IsSteady, most_of_command, Outcome, outcome_data}
use Rattle.stm_session.proofs.Names.{segments_of_command}
use Rattle.stm_session.proofs.CommandLists.{changes-append, changes-push}
use Rattle.stm_session.proofs.Runs.{HasRun}

-- the first i commands are done
pub record IsRunSoFar (chip : ChipData) (commands : List Command) (i : ℕ) (outcomes : Vec Outcome Global) (l l2 : Loaded) (old new : RigState) : Type 0 where
  pub count : vec_len outcomes ≡ i
  pub room : length commands ≤ vec_capacity outcomes
  pub kinds : AreKindsOf (take i commands) outcomes.items
  pub finished : is_unfinished l2.state ≡ false
  pub depth : length l2.state.stack ≡ length l.state.stack + length (changes_of (commands_in (take i commands)))
  pub line : new.line_failures ≡ old.line_failures
  pub journal : new.journal_failures ≡ old.journal_failures
  pub stays : old.is_honest → new.is_honest
  pub parts : GoesOn (IsPart (Some chip) true (i * most_of_command)) old.calls new.calls
  pub order : Follows (AreDoneInOrder chip (commands_in (take i commands)) (map outcome_data outcomes.items) l.state l2.state) l l2 old new
  pub honest : (flashes : List (List ℕ)) → IsSteady flashes l old → old.device.chip ≡ chip
      → HasRun (commands_in (take i commands)) flashes l2 old new (map outcome_data outcomes.items)

-- the next command, and those behind it
module _ (commands : List Command) (i : ℕ) (d : Command) (lt : i < length commands) (is : d ≡ get_or commands i d) where
  pub taken_next : commands_in (take (i + 1) commands) ≡ commands_in (take i commands) ++ command_data d ∷ []
  taken_next =
      ap commands_in (take_more commands i d lt) ∙ map-append command_data (take i commands) (get_or commands i d ∷ [])
      ∙ ap (λ (c : Command). commands_in (take i commands) ++ command_data c ∷ []) (sym is)

  pub commands_split : commands_in commands ≡ commands_in (take i commands) ++ (command_data d ∷ commands_in (drop (i + 1) commands))
  commands_split =
      ap commands_in (sym (take-append-drop (i + 1) commands)) ∙ map-append command_data (take (i + 1) commands) (drop (i + 1) commands)
      ∙ ap (λ (l : List CommandData). l ++ commands_in (drop (i + 1) commands)) taken_next
      ∙ append_assoc (commands_in (take i commands)) (command_data d ∷ []) (commands_in (drop (i + 1) commands))

  pub whole_list : commands_in (take i commands) ++ command_data d ∷ commands_in (drop (i + 1) commands) ≡ commands_in commands
  whole_list =
      let front = commands_in (take i commands) in
      let back = commands_in (drop (i + 1) commands) in
      sym (append_assoc front (command_data d ∷ []) back)
      ∙ ap (λ (cs : List CommandData). cs ++ back) (sym taken_next)
      ∙ sym (map-append command_data (take (i + 1) commands) (drop (i + 1) commands))
      ∙ ap commands_in (take-append-drop (i + 1) commands)

  -- what is so of all of them is so of it
  pub passes_next : (test : CommandData → Bool) → list_all test (commands_in commands) ≡ true → test (command_data d) ≡ true
  passes_next test all = ⊎_elim (λ yes. yes) (λ no. absurd (true≢false (sym all ∙ list_all_at test (commands_in commands) i (command_data d) inside (at ∙ no)))) (cases_Bool (test (command_data d)))
    where
      inside : i < length (commands_in commands)
      inside = omega (arith, lt, length-map commands command_data)

      got : (xs : List Command) (j : ℕ) → j < length xs → get_or (commands_in xs) j (command_data d) ≡ command_data (get_or xs j d)
      got [] j less = absurd (omega (arith, less))
      got (x ∷ xs) zero less = refl
      got (x ∷ xs) (suc j) less = got xs j (omega (arith, less))

      at : test (get_or (commands_in commands) i (command_data d)) ≡ test (command_data d)
      at = ap test (got commands i lt ∙ ap command_data (sym is))

  -- there is room for its segment
  pub room_next : (depth below : ℕ) → depth ≡ below + length (changes_of (commands_in (take i commands))) → below + length (changes_of (commands_in commands)) ≤ 65535 → is_change (command_data d) ≡ true → depth < 65535
  room_next depth below so_far room change =
      let back = command_data d ∷ commands_in (drop (i + 1) commands) in
      let split : length (changes_of (commands_in commands)) ≡ length (changes_of (commands_in (take i commands))) + length (changes_of back) =
      ap (λ (cs : List CommandData). length (changes_of cs)) (sym whole_list) ∙ ap length (changes-append (commands_in (take i commands)) back)
      ∙ length-append (changes_of (commands_in (take i commands))) (changes_of back) in
      let one : 1 ≤ length (changes_of back) = some (is_change (command_data d)) change in
      omega (arith, so_far, room, split, one)
    where
      some : (b : Bool) → b ≡ true → 1 ≤ length (if b then command_data d ∷ changes_of (commands_in (drop (i + 1) commands)) else changes_of (commands_in (drop (i + 1) commands)))
      some true e = omega arith
      some false e = absurd (true≢false (sym e))

-- how deep the journal is after it
pub depth_next : (commands : List Command) (i : ℕ) (d : Command) → i < length commands → d ≡ get_or commands i d → (below depth deeper : ℕ) → depth ≡ below + length (changes_of (commands_in (take i commands)))
    → deeper ≡ depth + segments_of_command (command_data d) → deeper ≡ below + length (changes_of (commands_in (take (i + 1) commands)))
depth_next commands i d lt is below depth deeper so_far more =
    let n = ap (λ (cs : List CommandData). length (changes_of cs)) (taken_next commands i d lt is) ∙ changes-push (commands_in (take i commands)) (command_data d) in
    omega (arith, so_far, more, n)
