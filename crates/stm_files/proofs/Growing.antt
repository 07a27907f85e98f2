-- An append to the journal in memory, and then to its file.
use Rattle.std.proofs.Common.{◌≡◌, ℕ, List, [], ◌++◌, length, drop, true, false, true≢false, Result, Ok, Err, sym, ap, subst, ◌∙◌, inl, inr, ⊎_elim, append-nil}
use Rattle.std.proofs.Math.Seq.{drop-append_seam}
use Rattle.stm_wire.specs.declared.fault.RigFault.{RigFault}
use Rattle.stm_wire.specs.declared.fault.RigFault.TheVariants.{Line, File, Stopped}
use Rattle.stm_wire.specs.declared.rig.RigCall.TheVariants.{Append}
use Rattle.stm_sim.specs.Memory.{MemoryData, AppendsInMemory, Fails, counts_append, counts_journal, stopped}
use Rattle.stm_files.specs.JournalFile.{JournalBytes}
use Rattle.stm_files.specs.PageSeal.{AppendsSealed}
use Rattle.stm_files.specs.SimulatorRig.{SimulatorState, AppendsToBoth, AppendsToFile}

-- a call that did nothing left the journal
nothing-grown : (old new : MemoryData) → Fails (Append 0) old new → (added : List ℕ) × (new.journal ≡ old.journal ++ added)
nothing-grown old new fails =
    ⊎_elim
    (λ entry. ([], ap (λ m. m.journal) entry ∙ sym (append-nil old.journal)))
    (λ none. ([], ap (λ m. m.journal) none.0 ∙ sym (append-nil old.journal)))
    fails

-- the journal only grows
grown-by : (bytes : List ℕ) (answer : Result (Unit {0}) RigFault) (old new : MemoryData) → AppendsInMemory bytes answer old new
    → (added : List ℕ) × (new.journal ≡ old.journal ++ added)
grown-by bytes (Ok done) old new does = (bytes, ap (λ m. m.journal) does.2)
grown-by bytes (Err Stopped) old new does =
    ⊎_elim
    (λ some. (_, ap (λ m. m.journal) some))
    (nothing-grown (counts_journal (stopped old)) new)
    does.1
grown-by bytes (Err File) old new does = nothing-grown (counts_journal (counts_append old)) new does.1
grown-by bytes (Err Line) old new does = absurd does

-- by what stands there from the old end on
grown : (bytes : List ℕ) (answer : Result (Unit {0}) RigFault) (old new : MemoryData) → AppendsInMemory bytes answer old new
    → new.journal ≡ old.journal ++ drop (length old.journal) new.journal
grown bytes answer old new does =
    let by = grown-by bytes answer old new does in
    by.1 ∙ ap (λ added. old.journal ++ added) (sym (ap (drop (length old.journal)) by.1 ∙ drop-append_seam old.journal by.0))

module _ (bytes : List ℕ) (answer result : Result (Unit {0}) RigFault) (old new : SimulatorState) (memory : MemoryData) (file : JournalBytes)
    (memory_is : new.memory ≡ memory) (file_is : new.file ≡ file) (does : AppendsInMemory bytes answer old.memory memory) where
  abbrev In : MemoryData → Type 0
  In m = AppendsInMemory bytes answer old.memory m

  -- the file took what the memory did
  pub taken : (journal : List ℕ) → journal ≡ old.memory.journal → result ≡ answer → AppendsSealed file.names_board old.file.known file.known (drop (length journal) memory.journal)
      → AppendsToBoth bytes result old new
  taken journal journal_is same appends =
      let in_new : In new.memory = subst In (sym memory_is) does in
      record {
        answer = answer;
        in_memory = in_new;
        in_file =
            inl (
              same,
              (
                drop (length old.memory.journal) new.memory.journal,
                grown bytes answer old.memory new.memory in_new,
                rw (memory_is, file_is, ← journal_is) appends,
              ),
            );
      }

  -- the file failed
  pub failed : result ≡ Err File → file.has_failed ≡ true → AppendsToBoth bytes result old new
  failed is has = record { answer = answer; in_memory = subst In (sym memory_is) does; in_file = inr (is, ap (λ f. f.has_failed) file_is ∙ has) }

-- the file had not failed
pub to_file : (bytes : List ℕ) (result : Result (Unit {0}) RigFault) (old new : SimulatorState) → old.file.has_failed ≡ false
    → AppendsToBoth bytes result old new → AppendsToFile bytes result old new
to_file bytes result old new works both =
    record { failed = λ has. absurd (true≢false (sym has ∙ works)); appended = λ _. both }
