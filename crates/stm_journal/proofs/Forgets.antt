-- The line rules need no bytes.
use Rattle.std.proofs.Common.{◌≡◌, ℕ, ◌*◌, ◌-◌, Bool, true, false, if◌then◌else◌, List, [], ◌∷◌, length, map, drop, Option, Some, None, option_map, refl, sym, ◌∙◌, ap, ap₂}
use Rattle.std.proofs.lemmas.List.{map-append, length-replicate}
use Rattle.stm_wire.specs.declared.intent.Intent.TheVariants.{Erase, Program}
use Rattle.stm_journal.proofs.Names.{after_entry, after_line, after_said, after_summary, allows, bad, blank, ended_segment, Entry, entry_of, forget_entry, forget_journal, forget_kept, forget_segment}
use Rattle.stm_journal.proofs.Names.{forget_state, good, intending, is_void, JournalData, keeping, Kept, kept_in, on_newest, SegmentData, StateData, summary_of}
use Rattle.stm_journal.specs.declared.entry.Entry.TheVariants.{Names, Opens, Keeps, Erases, Programs, Ends, Undoes}
use Rattle.stm_journal.specs.lemmas.ForgetLaws.{allows-forgets}
use Rattle.stm_journal.proofs.Decides.{said_by-line}
use Rattle.stm_journal.proofs.Voids.{void_by-line}

change-forgets : (change other : SegmentData → SegmentData) (stack : List SegmentData) → ((segment : SegmentData) → change (forget_segment segment) ≡ forget_segment (other segment))
    → on_newest change (map forget_segment stack) ≡ map forget_segment (on_newest other stack)
change-forgets change other [] same = refl
change-forgets change other (segment ∷ below) same = ap (λ (x : SegmentData). x ∷ map forget_segment below) (same segment)

kept-forgets : (line ends n : ℕ) (bytes : List ℕ) → kept_in line ends n (blank (length bytes)) ≡ forget_kept (kept_in line ends n bytes)
kept-forgets line ends n bytes =
    let e : length (blank (length bytes)) ≡ length bytes = length-replicate (length bytes) 0 in
    ap (λ (k : ℕ). let x : Kept = record { page = n; bytes = blank (length bytes); line = line; at = ends - 2 * k } in x) e

keeping-forgets : (k : Kept) (segment : SegmentData) → keeping (forget_kept k) (forget_segment segment) ≡ forget_segment (keeping k segment)
keeping-forgets k segment = ap (λ (pages : List Kept). let x : SegmentData = record { pages = pages; stage = segment.stage } in x) (sym (map-append forget_kept segment.pages (k ∷ [])))

drop-forgets : (stack : List SegmentData) → drop 1 (map forget_segment stack) ≡ map forget_segment (drop 1 stack)
drop-forgets [] = refl
drop-forgets (segment ∷ below) = refl

pub after-forgets : (line ends : ℕ) (s : StateData) (e : Entry) → after_entry line ends (forget_state s) (forget_entry e) ≡ forget_state (after_entry line ends s e)
after-forgets line ends s (Names version id unique) = refl
after-forgets line ends s (Opens k) = refl
after-forgets line ends s (Keeps n bytes) =
    ap (λ (stack : List SegmentData). let x : StateData = record { header = s.header; stack = stack } in x)
    (ap (λ (k : Kept). on_newest (keeping k) (map forget_segment s.stack)) (kept-forgets line ends n bytes)
    ∙ change-forgets (keeping (forget_kept (kept_in line ends n bytes))) (keeping (kept_in line ends n bytes)) s.stack (keeping-forgets (kept_in line ends n bytes)))
after-forgets line ends s (Erases n) = ap (λ (stack : List SegmentData). let x : StateData = record { header = s.header; stack = stack } in x) (change-forgets (intending (Erase n)) (intending (Erase n)) s.stack (λ segment. refl))
after-forgets line ends s (Programs n) = ap (λ (stack : List SegmentData). let x : StateData = record { header = s.header; stack = stack } in x) (change-forgets (intending (Program n)) (intending (Program n)) s.stack (λ segment. refl))
after-forgets line ends s (Ends k) = ap (λ (stack : List SegmentData). let x : StateData = record { header = s.header; stack = stack } in x) (change-forgets ended_segment ended_segment s.stack (λ segment. refl))
after-forgets line ends s (Undoes k) = ap (λ (stack : List SegmentData). let x : StateData = record { header = s.header; stack = stack } in x) (drop-forgets s.stack)

if-forgets : (b : Bool) (i j : JournalData) → (if b then forget_journal i else forget_journal j) ≡ forget_journal (if b then i else j)
if-forgets true i j = refl
if-forgets false i j = refl

said-forgets : (line ends : ℕ) (s : StateData) (o : Option Entry) → after_said line ends (forget_state s) (option_map forget_entry o) ≡ forget_journal (after_said line ends s o)
said-forgets line ends s None = refl
said-forgets line ends s (Some e) =
    ap₂ (λ (b : Bool) (x : StateData). if b then good x else bad line) (allows-forgets s e) (after-forgets line ends s e)
    ∙ if-forgets (allows s e) (good (after_entry line ends s e)) (bad line)

pub summary-follows : (line ends : ℕ) (j : JournalData) (text : List ℕ) → after_summary line ends (forget_journal j) (summary_of text) ≡ forget_journal (after_line line ends j text)
summary-follows line ends (bad first) text = refl
summary-follows line ends (good s) text =
    ap₂ (λ (b : Bool) (o : Option Entry). if b then good (forget_state s) else after_said line ends (forget_state s) o) (sym (void_by-line text)) (sym (said_by-line text))
    ∙ ap (λ (j : JournalData). if is_void text then good (forget_state s) else j) (said-forgets line ends s (entry_of text))
    ∙ if-forgets (is_void text) (good s) (after_said line ends s (entry_of text))
