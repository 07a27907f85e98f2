-- A run that only reads.
use Rattle.std.proofs.Common.{◌≡◌, ℕ, zero, suc, ◌+◌, ◌&&◌, Bool, true, false, List, [], ◌∷◌, ◌++◌, length, map, take, Result, Ok, Err, IfErr, IfOk, Option, Some, None, nat_le, refl, sym, ap, ◌∙◌, subst, arith, append-nil}
use Rattle.std.specs.List.{list_all, list_any}
use Rattle.std.proofs.lemmas.Bool.{true≢false}
use Rattle.std.proofs.lemmas.Bool.Decides.{nat_tests}
use Rattle.stm_wire.proofs.Names.{ChipData, Device, RigState}
use Rattle.stm_wire.specs.lemmas.MomentLaws.{weaker}
use Rattle.stm_journal.proofs.Names.{bad, good, IsSound, journal_of, JournalData, StateData}
use Rattle.stm_session.proofs.Names.{agreeing, AmidRun, answers_from, answers_of, AreRead, bytes_of, bytes_read, changes_of, chip_with, Command, CommandData, commands_in, commands_refused, depth_at}
use Rattle.stm_session.proofs.Names.{Fault, first_refusal, flash_after_all, flashes_with, in_front_of, is_change, is_in_flash, is_named_at, is_reading, is_torn_at, is_unfinished_at, IsOutsideFault}
use Rattle.stm_session.proofs.Names.{IsUnbegun, lies_in_flash, opening_refusal, Outcome, outcome_data, OutcomeData, run_refusal, run_text, RunFails, Runs, RunsReads, standing_commands, text_added}
use Rattle.stm_session.proofs.Names.{was_read}
use Rattle.stm_session.specs.declared.command.Command.TheVariants as command
use Rattle.stm_session.specs.declared.outcome.Outcome.TheVariants as outcome
use Rattle.stm_session.specs.declared.fault.Fault.TheVariants as fault
use Rattle.stm_session.specs.Meaning.{reads}
use Rattle.stm_session.proofs.CommandLists.{entries-none}
use Rattle.stm_session.proofs.Openings.{alone}
use Rattle.stm_session.proofs.CanBeUndone.{finished_is_safe}

both : (a b : Bool) → (a && b) ≡ true → (a ≡ true) × (b ≡ true)
both true b e = (refl, e)
both false b e = absurd (true≢false (sym e))

none_read : {A : Type 0} → false ≡ true → A
none_read e = absurd (true≢false (sym e))

-- reads change nothing
no_changes : (commands : List Command) → list_all is_reading commands ≡ true → changes_of (commands_in commands) ≡ []
no_changes [] all = refl
no_changes (command.Read start size ∷ commands) all = no_changes commands all
no_changes commands all = none_read all

all_stand : (chip : ChipData) (flash : List ℕ) (commands : List Command) → list_all is_reading commands ≡ true → agreeing chip flash (commands_in commands) ≡ commands_in commands
all_stand chip flash [] all = refl
all_stand chip flash (command.Read start size ∷ commands) all = ap (λ (cs : List CommandData). reads start size ∷ cs) (all_stand chip flash commands all)
all_stand chip flash commands all = none_read all

-- and answer the flash's bytes
reads_answer : (chip : ChipData) (below : ℕ) (flash : List ℕ) (commands : List Command) → list_all is_reading commands ≡ true
    → answers_of chip below flash (commands_in commands) ≡ Ok (map (λ c. was_read (bytes_read chip flash c)) commands)
reads_answer chip below flash [] all = refl
reads_answer chip below flash (command.Read start size ∷ commands) all =
    ap (in_front_of (Ok (was_read (bytes_read chip flash (command.Read start size)))))
    (ap (λ (k : ℕ). answers_of chip k flash (commands_in commands)) (let n : below + 0 ≡ below = omega arith in n) ∙ reads_answer chip below flash commands all)
reads_answer chip below flash commands all = none_read all

bytes_told : OutcomeData → List ℕ
bytes_told (was_read bytes) = bytes
bytes_told x = []

told_bytes : (outcomes : List Outcome) → map bytes_told (map outcome_data outcomes) ≡ map bytes_of outcomes
unfolding bytes_told
told_bytes [] = refl
told_bytes (outcome.Written segment pages ∷ outcomes) = ap (λ (xs : List (List ℕ)). [] ∷ xs) (told_bytes outcomes)
told_bytes (outcome.Erased segment pages ∷ outcomes) = ap (λ (xs : List (List ℕ)). [] ∷ xs) (told_bytes outcomes)
told_bytes (outcome.Verified ∷ outcomes) = ap (λ (xs : List (List ℕ)). [] ∷ xs) (told_bytes outcomes)
told_bytes (outcome.Read bytes ∷ outcomes) = ap (λ (xs : List (List ℕ)). bytes.items ∷ xs) (told_bytes outcomes)

told_reads : (chip : ChipData) (flash : List ℕ) (commands : List Command) → map bytes_told (map (λ c. was_read (bytes_read chip flash c)) commands) ≡ map (bytes_read chip flash) commands
unfolding bytes_told
told_reads chip flash [] = refl
told_reads chip flash (c ∷ commands) = ap (λ (xs : List (List ℕ)). bytes_read chip flash c ∷ xs) (told_reads chip flash commands)

are_read : (old : RigState) (commands : List Command) (outcomes : List Outcome) → list_all is_reading commands ≡ true → answers_from old (commands_in commands) ≡ Ok (map outcome_data outcomes) → AreRead old.device commands outcomes
are_read old commands outcomes all said =
    let chip = old.device.chip in
    let flash = old.device.flash in
    let same : map outcome_data outcomes ≡ map (λ c. was_read (bytes_read chip flash c)) commands = inside (answers_from old (commands_in commands)) _ _ said (reads_answer chip (depth_at old.journal) flash commands all) in
    sym (told_bytes outcomes) ∙ ap (map bytes_told) same ∙ told_reads chip flash commands
  where
    inside : (said : Result (List OutcomeData) ℕ) (xs ys : List OutcomeData) → said ≡ Ok xs → said ≡ Ok ys → xs ≡ ys
    inside said xs ys p q = let h : Ok xs ≡ Ok ys = sym p ∙ q in cc

-- no segment is begun
reads_unbegun : (commands : List Command) (flashes : List (List ℕ)) (old : RigState) → list_all is_reading commands ≡ true → is_unfinished_at old.journal ≡ false → (d : Device) (journal : List ℕ)
    → AmidRun (standing_commands old (commands_in commands)) flashes old d journal → IsUnbegun old d journal
reads_unbegun commands flashes old all finished d journal amid =
    let cs = commands_in commands in
    let A : List CommandData → Type 0 = λ xs. AmidRun xs flashes old d journal in
    let a = subst A (all_stand old.device.chip old.device.flash commands all) amid in
    let none = no_changes commands all in
    let text : run_text old cs ≡ [] =
    ap (text_added (is_torn_at old.journal)) (entries-none (is_named_at old.journal) old.device.chip (depth_at old.journal) old.device.flash cs (ap length none)) in
    let same : journal ≡ old.journal = a.lines ∙ ap (λ (bytes : List ℕ). old.journal ++ take a.written bytes) text ∙ ap (λ (bytes : List ℕ). old.journal ++ bytes) (taken a.written) ∙ append-nil old.journal in
    let over : is_unfinished_at journal ≡ false = ap is_unfinished_at same ∙ finished in
    let flash : d.flash ≡ old.device.flash =
    a.finished over ∙ ap (λ (xs : List CommandData). flash_after_all old.device.chip old.device.flash (take a.begun xs)) none ∙ ap (flash_after_all old.device.chip old.device.flash) (no_command a.begun) in
    record { journal_same = same; make = a.make; flash = flash; safe = finished_is_safe (flashes_with a.begun old cs flashes) d journal a.undoable over }
  where
    taken : (n : ℕ) → take {A = ℕ} n [] ≡ []
    taken zero = refl
    taken (suc n) = refl

    no_command : (n : ℕ) → take {A = CommandData} n [] ≡ []
    no_command zero = refl
    no_command (suc n) = refl

reads_fail : (commands : List Command) (flashes : List (List ℕ)) (old new : RigState) → list_all is_reading commands ≡ true → (e : Fault) → RunFails (commands_in commands) flashes old new e → IsOutsideFault e
reads_fail commands flashes old new all (fault.Differs address) is = other _ _ is.0 (reads_answer old.device.chip (depth_at old.journal) old.device.flash commands all)
  where
    other : {A : Type 0} (said : Result (List OutcomeData) ℕ) (xs : List OutcomeData) → said ≡ Err address → said ≡ Ok xs → A
    other said xs p q = absurd (let h : Err address ≡ Ok xs = sym p ∙ q in cc)
reads_fail commands flashes old new all x is = is

pub reads_only : {T : Type 0} (commands : List Command) (flashes : List (List ℕ)) (old new : RigState) (result : Result T Fault) (outcomes_of : T → List Outcome) → list_all is_reading commands ≡ true → is_unfinished_at old.journal ≡ false
    → Runs (commands_in commands) flashes old new result (λ x. map outcome_data (outcomes_of x)) → RunsReads commands old new result outcomes_of
reads_only {T} commands flashes old new result outcomes_of all finished runs =
    record {
      moments = weaker (AmidRun (standing_commands old (commands_in commands)) flashes old) (IsUnbegun old) old new runs.moments (reads_unbegun commands flashes old all finished);
      honest = runs.honest;
      left = reads_unbegun commands flashes old all finished new.device new.journal runs.left;
      fails = failed result runs.fails;
      outcomes = told result runs.outcomes;
      settled = runs.settled;
    }
  where
    failed : (r : Result T Fault) → IfErr r (RunFails (commands_in commands) flashes old new) → IfErr r IsOutsideFault
    failed (Ok x) is = tt
    failed (Err e) is = reads_fail commands flashes old new all e is

    told : (r : Result T Fault) → IfOk r (λ x. answers_from old (commands_in commands) ≡ Ok (map outcome_data (outcomes_of x))) → IfOk r (λ x. AreRead old.device commands (outcomes_of x))
    told (Ok x) said = are_read old commands (outcomes_of x) all said
    told (Err e) said = tt

-- what is refused of reads
reads_inside : (chip : ChipData) (commands : List Command) → list_all (is_in_flash chip) commands ≡ true → list_all (lies_in_flash chip) (commands_in commands) ≡ true
reads_inside chip [] inside = refl
reads_inside chip (c ∷ commands) inside = let two = both (is_in_flash chip c) (list_all (is_in_flash chip) commands) inside in rw two.0 (reads_inside chip commands two.1)

no_change : (commands : List Command) → list_all is_reading commands ≡ true → list_any is_change (commands_in commands) ≡ false
no_change [] all = refl
no_change (command.Read start size ∷ commands) all = no_change commands all
no_change commands all = none_read all

pub reads_unrefused : ((bytes : List ℕ) (s : StateData) → journal_of bytes ≡ good s → IsSound s) → (journal : List ℕ) (d : Device) (table : List ChipData) (chip : ChipData) (commands : List Command) → list_all is_reading commands ≡ true
    → opening_refusal (journal_of journal) d table ≡ None → chip_with table d.chip.id ≡ Some chip → list_all (is_in_flash chip) commands ≡ true → run_refusal (journal_of journal) d table (commands_in commands) ≡ None
reads_unrefused sound journal d table chip commands all opened held inside =
    ap (λ (o : Option Fault). first_refusal (o ∷ commands_refused (journal_of journal) d (chip_with table d.chip.id) (commands_in commands) ∷ [])) opened
    ∙ alone (commands_refused (journal_of journal) d (chip_with table d.chip.id) (commands_in commands))
    ∙ ap (λ (c : Option ChipData). commands_refused (journal_of journal) d c (commands_in commands)) held
    ∙ at (journal_of journal) refl
  where
    at : (j : JournalData) → journal_of journal ≡ j → commands_refused j d (Some chip) (commands_in commands) ≡ None
    at (bad line) is = refl
    at (good s) is =
        let depth = (sound journal s is).depth in
        let room : nat_le (length s.stack + 0) 65535 ≡ true = grind (arith, nat_tests, depth) in
        rw (no_change commands all, reads_inside chip commands inside, no_changes commands all, room) refl
