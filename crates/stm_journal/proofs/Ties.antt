-- A journal in memory stays tied to the bytes when entries are added to both.
use Rattle.std.proofs.Common.{◌≡◌, ◌≤◌, ℕ, suc, ◌+◌, ◌-◌, ◌^◌, Bool, true, false, nat_lt, if◌then◌else◌, List, [], ◌∷◌, ◌++◌, length, fold, flat_map, Option, refl, sym, ◌∙◌, ap, ap₂, subst, arith, length-append, append_assoc, append-nil, IsTrue}
use Rattle.std.proofs.lemmas.Bool.Decides.{nat_tests}
use Rattle.stm_journal.proofs.Names.{added_bytes, after_entry, after_line, after_said, allows, bad, capped, Entry, entry_of, forget_entry, forget_state, good, greeting, HasNoLF, is_void, IsLoaded}
use Rattle.stm_journal.proofs.Names.{IsPrintable, journal_of, line_of, line_text, Loaded, loaded_after, mark, past_entry, past_mark, StateData, Text, text_of}
use Rattle.std.specs.Prelude.{bytes_eq}
use Rattle.stm_journal.proofs.Texts.{text-more-lines}
use Rattle.stm_journal.specs.lemmas.ForgetLaws.{allows-forgets}
use Rattle.stm_journal.proofs.Forgets.{after-forgets}
use Rattle.stm_journal.proofs.Readings.{journal-line, lines-within}
use Rattle.stm_journal.proofs.Greeted.{greeted-line, entry-greets-none}
use Rattle.stm_journal.proofs.Lines.{entry_of-line, HasNoLF-line, is_void-printed, is_void-marked}

pub none-longer : (xs : List ℕ) → nat_lt 0 (length xs) ≡ false → xs ≡ []
none-longer [] h = refl
none-longer (x ∷ xs) h = absurd (omega (arith, grind-length (length xs) h))
  where
    grind-length : (n : ℕ) → nat_lt 0 (suc n) ≡ false → suc n ≡ 0
    grind-length n g = grind (arith, nat_tests)

-- a journal without a torn tail ends with a whole line
pub no-tail : (l : Loaded) (bytes : List ℕ) → IsLoaded l bytes → l.is_torn ≡ false → (text_of bytes).tail ≡ []
no-tail l bytes is whole = none-longer (text_of bytes).tail (sym is.is_torn ∙ whole)

-- the tie but for a greeting: a mark may make a line of which nobody in memory knows whether it is one
record IsMarked (l : Loaded) (bytes : List ℕ) : Type 0 where
  text : StateData
  means : journal_of bytes ≡ good text
  state : l.state ≡ forget_state text
  lines : l.lines ≡ length (text_of bytes).lines
  size : l.size ≡ length bytes
  is_torn : l.is_torn ≡ nat_lt 0 (length (text_of bytes).tail)

as-marked : (l : Loaded) (bytes : List ℕ) → IsLoaded l bytes → IsMarked l bytes
as-marked l bytes is = record { text = is.text; means = is.means; state = is.state; lines = is.lines; size = is.size; is_torn = is.is_torn }

pub void-after : (n ends : ℕ) (s : StateData) (line : List ℕ) → is_void line ≡ true → after_line n ends (good s) line ≡ good s
void-after n ends s line v = ap (λ (b : Bool). if b then good s else after_said n ends s (entry_of line)) v

pub said-after : (n ends : ℕ) (s : StateData) (e : Entry) → IsPrintable e → IsTrue (allows s e) → after_line n ends (good s) (line_of e) ≡ good (after_entry n ends s e)
said-after n ends s e is may =
    ap (λ (b : Bool). if b then good s else after_said n ends s (entry_of (line_of e))) (is_void-printed e is)
    ∙ ap (λ (o : Option Entry). after_said n ends s o) (entry_of-line e is)
    ∙ ap (λ (b : Bool). if b then good (after_entry n ends s e) else bad n) may

-- a whole line more, in the text
abbrev ended : List ℕ → List ℕ → Text
ended xs t = record { lines = (text_of xs).lines ++ ((text_of xs).tail ++ t) ∷ []; tail = [] }

one-line-more : (xs t : List ℕ) → HasNoLF t → text_of (xs ++ (t ++ 10 ∷ [])) ≡ ended xs t
one-line-more xs t h = text-more-lines xs t [] h

pass-entry : (l : Loaded) (bytes : List ℕ) (e : Entry) → IsMarked l bytes → l.is_torn ≡ false → IsPrintable e → IsTrue (allows l.state (forget_entry e))
    → length (bytes ++ line_text e) ≤ 2 ^ 63 - 1 → IsLoaded (past_entry l e) (bytes ++ line_text e)
pass-entry l bytes e is whole printable may short =
    let line : List ℕ = line_of e in
    let text : List ℕ = line ++ 10 ∷ [] in
    let noLF : HasNoLF line = HasNoLF-line e printable in
    let size : length (bytes ++ text) ≡ length bytes + (length line + 1) = omega (arith, length-append bytes text, length-append line (10 ∷ [])) in
    let few : length (text_of bytes).lines ≤ length bytes = lines-within bytes in
    let count : length (text_of bytes).lines + 1 ≡ capped (l.lines + 1) = omega (arith, is.lines) in
    let ends : length bytes + length line ≡ capped (l.size + length line) = omega (arith, is.size) in
    let more : text_of (bytes ++ text) ≡ ended bytes line = one-line-more bytes line noLF in
    let s : StateData = is.text in
    let empty : (text_of bytes).tail ≡ [] = none-longer (text_of bytes).tail (sym is.is_torn ∙ whole) in
    let M : StateData → Type 0 = λ x. IsTrue (allows x (forget_entry e)) in
    let may2 : IsTrue (allows s e) = sym (allows-forgets s e) ∙ subst M is.state may in
    record {
      text = after_entry (capped (l.lines + 1)) (capped (l.size + length line)) s e;
      means =
          journal-line bytes line s noLF is.means
          ∙ ap (λ (t : List ℕ). after_line (length (text_of bytes).lines + 1) (length bytes + length line) (good s) (t ++ line)) empty
          ∙ ap₂ (λ (n m : ℕ). after_line n m (good s) line) count ends
          ∙ said-after (capped (l.lines + 1)) (capped (l.size + length line)) s e printable may2;
      state =
          ap (λ (x : StateData). after_entry (capped (l.lines + 1)) (capped (l.size + length line)) x (forget_entry e)) is.state
          ∙ after-forgets (capped (l.lines + 1)) (capped (l.size + length line)) s e;
      lines = sym count ∙ sym (ap (λ (t : Text). length t.lines) more ∙ length-append (text_of bytes).lines (((text_of bytes).tail ++ line) ∷ []));
      size = omega (arith, is.size, size);
      is_torn = sym (ap (λ (t : Text). nat_lt 0 (length t.tail)) more);
      greeted = sym (greeted-line bytes line noLF ∙ ap (λ (t : List ℕ). bytes_eq (t ++ line) greeting) empty ∙ entry-greets-none e printable);
    }

abbrev bang : List ℕ
bang = 33 ∷ []

pass-bang : (l : Loaded) (bytes : List ℕ) → IsLoaded l bytes → length (bytes ++ (bang ++ 10 ∷ [])) ≤ 2 ^ 63 - 1
    → IsMarked (record { state = l.state; lines = capped (l.lines + 1); size = capped (l.size + 2); is_torn = false; is_greeted = false }) (bytes ++ (bang ++ 10 ∷ []))
pass-bang l bytes is short =
    let size : length (bytes ++ (bang ++ 10 ∷ [])) ≡ length bytes + 2 = length-append bytes (bang ++ 10 ∷ []) in
    let few : length (text_of bytes).lines ≤ length bytes = lines-within bytes in
    let count : length (text_of bytes).lines + 1 ≡ capped (l.lines + 1) = omega (arith, is.lines) in
    let more : text_of (bytes ++ (bang ++ 10 ∷ [])) ≡ ended bytes bang = one-line-more bytes bang (refl, tt) in
    record {
      text = is.text;
      means =
          journal-line bytes bang is.text (refl, tt) is.means
          ∙ void-after (length (text_of bytes).lines + 1) (length bytes + 1) is.text ((text_of bytes).tail ++ bang) (is_void-marked (text_of bytes).tail);
      state = is.state;
      lines = sym count ∙ sym (ap (λ (t : Text). length t.lines) more ∙ length-append (text_of bytes).lines (((text_of bytes).tail ++ bang) ∷ []));
      size = omega (arith, is.size, size);
      is_torn = sym (ap (λ (t : Text). nat_lt 0 (length t.tail)) more);
    }

pass-mark-at : (b : Bool) (l : Loaded) (bytes : List ℕ) → l.is_torn ≡ b → IsLoaded l bytes → length (bytes ++ mark b) ≤ 2 ^ 63 - 1
    → IsMarked (if b then record { state = l.state; lines = capped (l.lines + 1); size = capped (l.size + 2); is_torn = false; is_greeted = false } else l) (bytes ++ mark b)
pass-mark-at true l bytes torn is short = pass-bang l bytes is short
pass-mark-at false l bytes torn is short = rw (append-nil bytes) (as-marked l bytes is)

pass-mark : (l : Loaded) (bytes : List ℕ) → IsLoaded l bytes → length (bytes ++ mark l.is_torn) ≤ 2 ^ 63 - 1 → IsMarked (past_mark l) (bytes ++ mark l.is_torn)
pass-mark l bytes is short = pass-mark-at l.is_torn l bytes refl is short

-- entries that may be added one after another
abbrev pub AllAllowed : List Entry → Loaded → Type 0
AllAllowed [] l = Unit {0}
AllAllowed (e ∷ entries) l = IsPrintable e × (IsTrue (allows l.state (forget_entry e)) × AllAllowed entries (past_entry l e))

-- one entry, and more of them
pass-entries : (e : Entry) (entries : List Entry) (l : Loaded) (bytes : List ℕ) → IsMarked l bytes → l.is_torn ≡ false → AllAllowed (e ∷ entries) l
    → length (bytes ++ (line_text e ++ flat_map line_text entries)) ≤ 2 ^ 63 - 1 → IsLoaded (fold past_entry (past_entry l e) entries) (bytes ++ (line_text e ++ flat_map line_text entries))
pass-entries e [] l bytes is whole may short =
    let same : line_text e ++ [] ≡ line_text e = append-nil (line_text e) in
    let B : List ℕ → Type 0 = λ xs. IsLoaded (past_entry l e) (bytes ++ xs) in
    let S : List ℕ → Type 0 = λ xs. length (bytes ++ xs) ≤ 2 ^ 63 - 1 in
    subst B (sym same) (pass-entry l bytes e is whole may.0 may.1.0 (subst S same short))
pass-entries e (f ∷ entries) l bytes is whole may short =
    let rest : List ℕ = line_text f ++ flat_map line_text entries in
    let regroup : (bytes ++ line_text e) ++ rest ≡ bytes ++ (line_text e ++ rest) = append_assoc bytes (line_text e) rest in
    let long : length (bytes ++ (line_text e ++ rest)) ≡ length (bytes ++ line_text e) + length rest = sym (ap (λ (xs : List ℕ). length xs) regroup) ∙ length-append (bytes ++ line_text e) rest in
    let one : IsLoaded (past_entry l e) (bytes ++ line_text e) = pass-entry l bytes e is whole may.0 may.1.0 (omega (arith, long)) in
    let B : List ℕ → Type 0 = λ xs. IsLoaded (fold past_entry (past_entry (past_entry l e) f) entries) xs in
    subst B regroup
    (pass-entries f entries (past_entry l e) (bytes ++ line_text e) (as-marked (past_entry l e) (bytes ++ line_text e) one) refl may.1.1 (omega (arith, long, length-append (bytes ++ line_text e) rest)))

not-torn : (b : Bool) (l : Loaded) → l.is_torn ≡ b → (if b then record { state = l.state; lines = capped (l.lines + 1); size = capped (l.size + 2); is_torn = false; is_greeted = false } else l).is_torn ≡ false
not-torn true l e = refl
not-torn false l e = e

-- the entries of an append
pub IsLoaded-after : (e : Entry) (entries : List Entry) (l : Loaded) (bytes : List ℕ) → IsLoaded l bytes → AllAllowed (e ∷ entries) (past_mark l)
    → length (bytes ++ added_bytes l.is_torn (e ∷ entries)) ≤ 2 ^ 63 - 1 → IsLoaded (loaded_after (e ∷ entries) l) (bytes ++ added_bytes l.is_torn (e ∷ entries))
IsLoaded-after e entries l bytes is may short =
    let rest : List ℕ = line_text e ++ flat_map line_text entries in
    let marked : List ℕ = bytes ++ mark l.is_torn in
    let regroup : marked ++ rest ≡ bytes ++ (mark l.is_torn ++ rest) = append_assoc bytes (mark l.is_torn) rest in
    let long : length (bytes ++ (mark l.is_torn ++ rest)) ≡ length marked + length rest = sym (ap (λ (xs : List ℕ). length xs) regroup) ∙ length-append marked rest in
    let B : List ℕ → Type 0 = λ xs. IsLoaded (loaded_after (e ∷ entries) l) xs in
    subst B regroup (pass-entries e entries (past_mark l) marked (pass-mark l bytes is (omega (arith, long))) (not-torn l.is_torn l refl) may (omega (arith, long, length-append marked rest)))

mark-state-at : (b : Bool) (l : Loaded) → (if b then record { state = l.state; lines = capped (l.lines + 1); size = capped (l.size + 2); is_torn = false; is_greeted = false } else l).state ≡ l.state
mark-state-at true l = refl
mark-state-at false l = refl

-- a mark leaves the state
pub mark-state : (l : Loaded) → (past_mark l).state ≡ l.state
mark-state l = mark-state-at l.is_torn l

pub AllAllowed-one : (e : Entry) (l : Loaded) → IsPrintable e → IsTrue (allows l.state (forget_entry e)) → AllAllowed (e ∷ []) (past_mark l)
AllAllowed-one e l printable may =
    let S : StateData → Type 0 = λ s. IsTrue (allows s (forget_entry e)) in
    (printable, (subst S (sym (mark-state l)) may, tt))
