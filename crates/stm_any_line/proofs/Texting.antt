-- A journal's text behind the calls of a session: its lines, and a torn tail.
use Rattle.std.proofs.Common.{◌≡◌, ◌⊎◌, inl, inr, ℕ, zero, suc, Bool, true, false, nat_lt, List, [], ◌∷◌, ◌++◌, length, take, flat_map, Option, Some, None, refl, sym, ◌∙◌, ap, subst, arith, append_assoc, append-nil}
use Rattle.std.proofs.lemmas.Bool.Decides.{nat_tests}
use Rattle.stm_wire.proofs.Names.{Call, calls_of}
use Rattle.stm_wire.specs.lemmas.DialogueLaws.{calls_of-are_line}
use Rattle.stm_journal.specs.declared.entry.Entry.{Entry}
use Rattle.stm_journal.proofs.Names.{added_bytes, line_of, line_text, mark}
use Rattle.stm_session.proofs.Names.{acts_of_steps, Adds, Sends, Step, torn_behind}
use Rattle.stm_any_line.proofs.Appending.{appended-acts, appended-append, appended-behind, appended-line, broken_line}
use Rattle.stm_any_line.specs.Calls.{AreBegunOf, AreSteps}
use Rattle.stm_any_line.specs.History.{TextsGoOn, left_of}
use Rattle.stm_any_line.specs.Texts.{IsJournalText, appended_in, line, lines_of, marked, torn as torn_line, void}

-- texts
text_as : (lines lines2 : List Entry) (tail text text2 : List ℕ) → lines ≡ lines2 → text ≡ text2
    → IsJournalText lines tail text → IsJournalText lines2 tail text2
text_as lines lines2 tail text text2 same is t =
    let P : List Entry → Type 0 = λ l. IsJournalText l tail text2 in
    let Q : List ℕ → Type 0 = λ l. IsJournalText lines tail l in
    subst P same (subst Q is t)

no_tail : (tail : List ℕ) → false ≡ nat_lt 0 (length tail) → tail ≡ []
no_tail [] e = refl
no_tail (x ∷ tail) e = absurd (some (length tail) e)
  where
    some : (n : ℕ) → false ≡ nat_lt 0 (suc n) → ⊥
    some n h = grind (arith, nat_tests, h)

text_mark : (is_torn : Bool) (lines : List Entry) (tail text : List ℕ)
    → is_torn ≡ nat_lt 0 (length tail) → IsJournalText lines tail text
    → IsJournalText lines [] (text ++ mark is_torn)
text_mark true lines tail text e t = void lines tail text t
text_mark false lines tail text e t =
    let P : List ℕ → Type 0 = λ l. IsJournalText lines l text in
    text_as lines lines [] text (text ++ []) refl (sym (append-nil text))
    (subst P (no_tail tail e) t)

text_lines : (lines entries : List Entry) (text : List ℕ) → IsJournalText lines [] text
    → IsJournalText (lines ++ entries) [] (text ++ flat_map line_text entries)
text_lines lines [] text t =
    text_as lines (lines ++ []) [] text (text ++ []) (sym (append-nil lines))
    (sym (append-nil text)) t
text_lines lines (e ∷ entries) text t =
    let more = text_lines (lines ++ e ∷ []) entries (text ++ line_text e) (line lines e text t) in
    text_as _ _ [] _ _ (append_assoc lines (e ∷ []) entries)
    (append_assoc text (line_text e) (flat_map line_text entries)) more

text_added : (is_torn : Bool) (lines entries : List Entry) (tail text : List ℕ)
    → is_torn ≡ nat_lt 0 (length tail) → IsJournalText lines tail text
    → IsJournalText (lines ++ entries) [] (text ++ added_bytes is_torn entries)
text_added is_torn lines entries tail text e t =
    text_as _ _ [] _ _ refl (append_assoc text (mark is_torn) (flat_map line_text entries))
    (text_lines lines entries (text ++ mark is_torn) (text_mark is_torn lines tail text e t))

-- a text that goes on by these lines
record GoesOnBy (lines more : List Entry) (text added : List ℕ) (is_torn : Bool) : Type 0 where
  pub tail : List ℕ
  pub text_is : IsJournalText (lines ++ more) tail (text ++ added)
  pub torn_is : is_torn ≡ nat_lt 0 (length tail)

goes_as : (lines more more2 : List Entry) (text added added2 : List ℕ) (is_torn : Bool)
    → more ≡ more2 → added ≡ added2 → GoesOnBy lines more text added is_torn
    → GoesOnBy lines more2 text added2 is_torn
goes_as lines more more2 text added added2 is_torn same is g =
    let P : List Entry → Type 0 = λ l. GoesOnBy lines l text added2 is_torn in
    let Q : List ℕ → Type 0 = λ l. GoesOnBy lines more text l is_torn in
    subst P same (subst Q is g)

text_steps : (steps : List Step) (is_torn : Bool) (lines : List Entry) (tail text : List ℕ)
    → is_torn ≡ nat_lt 0 (length tail) → IsJournalText lines tail text
    → GoesOnBy lines (lines_of steps) text (appended_in (acts_of_steps is_torn steps))
    (torn_behind is_torn steps)
text_steps [] is_torn lines tail text e t =
    record {
      tail = tail;
      text_is = text_as lines (lines ++ []) tail text (text ++ []) (sym (append-nil lines))
          (sym (append-nil text)) t;
      torn_is = e;
    }
text_steps (Adds entries ∷ steps) is_torn lines tail text e t =
    let bytes = added_bytes is_torn entries in
    let rest = text_steps steps false (lines ++ entries) [] (text ++ bytes) refl
    (text_added is_torn lines entries tail text e t)
    in
    record {
      tail = rest.tail;
      text_is = text_as _ _ rest.tail _ _ (append_assoc lines entries (lines_of steps))
          (append_assoc text bytes (appended_in (acts_of_steps false steps))) rest.text_is;
      torn_is = rest.torn_is;
    }
text_steps (Sends turns ∷ steps) is_torn lines tail text e t =
    goes_as lines (lines_of steps) (lines_of steps) text _ _ (torn_behind is_torn steps) refl
    (sym (appended-behind (calls_of turns) (acts_of_steps is_torn steps) (calls_of-are_line turns)))
    (text_steps steps is_torn lines tail text e t)

-- a beginning of lines
split : (xs : List ℕ) (y : ℕ) (ys : List ℕ) (n : ℕ)
    → (take n (xs ++ y ∷ ys) ≡ take n xs) ⊎ ((m : ℕ) × (take n (xs ++ y ∷ ys) ≡ xs ++ y ∷ take m ys))
split [] y ys (suc n) = inr (n, refl)
split (x ∷ xs) y ys (suc n) = further (split xs y ys n)
  where
    further : (take n (xs ++ y ∷ ys) ≡ take n xs)
        ⊎ ((m : ℕ) × (take n (xs ++ y ∷ ys) ≡ xs ++ y ∷ take m ys))
        → (x ∷ take n (xs ++ y ∷ ys) ≡ x ∷ take n xs)
        ⊎ ((m : ℕ) × (x ∷ take n (xs ++ y ∷ ys) ≡ x ∷ (xs ++ y ∷ take m ys)))
    further (inl e) = inl (ap (λ (l : List ℕ). x ∷ l) e)
    further (inr (m, e)) = inr (m, ap (λ (l : List ℕ). x ∷ l) e)
split xs y ys zero = inl refl

take-none : (n : ℕ) → take {A = ℕ} n [] ≡ []
take-none zero = refl
take-none (suc n) = refl

-- these lines were added whole, and then some bytes of one more
record AddsPart (entries lines : List Entry) (text added : List ℕ) : Type 0 where
  pub whole : List Entry
  pub rest : List Entry
  pub is : entries ≡ whole ++ rest
  pub tail : List ℕ
  pub text_is : IsJournalText (lines ++ whole) tail (text ++ added)

part_as : (entries lines : List Entry) (text added added2 : List ℕ) → added ≡ added2
    → AddsPart entries lines text added → AddsPart entries lines text added2
part_as entries lines text added added2 is p =
    let P : List ℕ → Type 0 = λ l. AddsPart entries lines text l in
    subst P is p

no_part : (entries lines : List Entry) (tail text : List ℕ) → IsJournalText lines tail text
    → AddsPart entries lines text []
no_part entries lines tail text t =
    record {
      whole = [];
      rest = entries;
      is = refl;
      tail = tail;
      text_is = text_as lines (lines ++ []) tail text (text ++ []) (sym (append-nil lines))
          (sym (append-nil text)) t;
    }

part_lines : (entries : List Entry) (n : ℕ) (lines : List Entry) (text : List ℕ)
    → IsJournalText lines [] text → AddsPart entries lines text (take n (flat_map line_text entries))
part_lines [] n lines text t =
    part_as [] lines text [] _ (sym (take-none n)) (no_part [] lines [] text t)
part_lines (e ∷ entries) n lines text t =
    let rest : List ℕ = flat_map line_text entries in
    let own : List ℕ = line_of e in
    let joined : (own ++ 10 ∷ []) ++ rest ≡ own ++ 10 ∷ rest = append_assoc own (10 ∷ []) rest in
    let start : take n (own ++ 10 ∷ rest) ≡ take n ((own ++ 10 ∷ []) ++ rest) =
    ap (λ (l : List ℕ). take n l) (sym joined) in
    part_as (e ∷ entries) lines text _ _ start
    (by_split (λ m. part_lines entries m (lines ++ e ∷ []) (text ++ line_text e) (line lines e text t))
    (split own 10 rest n))
  where
    by_split : ((m : ℕ)
        → AddsPart entries (lines ++ e ∷ []) (text ++ line_text e)
        (take m (flat_map line_text entries)))
        → (take n (line_of e ++ 10 ∷ flat_map line_text entries) ≡ take n (line_of e))
        ⊎ ((m : ℕ)
        × (take n (line_of e ++ 10 ∷ flat_map line_text entries)
        ≡ line_of e ++ 10 ∷ take m (flat_map line_text entries)))
        → AddsPart (e ∷ entries) lines text (take n (line_of e ++ 10 ∷ flat_map line_text entries))
    by_split later (inl is) =
        part_as (e ∷ entries) lines text (take n (line_of e)) _ (sym is)
        (record {
          whole = [];
          rest = e ∷ entries;
          is = refl;
          tail = take n (line_of e);
          text_is = text_as lines (lines ++ []) _ _ _ (sym (append-nil lines)) refl
              (torn_line lines e n text t);
        })
    by_split later (inr (m, is)) =
        let more = later m in
        let some : List ℕ = take m (flat_map line_text entries) in
        part_as (e ∷ entries) lines text (line_text e ++ some) _
        (append_assoc (line_of e) (10 ∷ []) some ∙ sym is)
        (record {
          whole = e ∷ more.whole;
          rest = more.rest;
          is = ap (λ (l : List Entry). e ∷ l) more.is;
          tail = more.tail;
          text_is = text_as _ _ more.tail _ _ (append_assoc lines (e ∷ []) more.whole)
              (append_assoc text (line_text e) some) more.text_is;
        })

part_added : (is_torn : Bool) (entries : List Entry) (n : ℕ) (lines : List Entry)
    (tail text : List ℕ) → is_torn ≡ nat_lt 0 (length tail) → IsJournalText lines tail text
    → AddsPart entries lines text (take n (added_bytes is_torn entries))
part_added false entries n lines tail text e t =
    let P : List ℕ → Type 0 = λ l. IsJournalText lines l text in
    part_lines entries n lines text (subst P (no_tail tail e) t)
part_added true entries zero lines tail text e t = no_part entries lines tail text t
part_added true entries (suc zero) lines tail text e t =
    record {
      whole = [];
      rest = entries;
      is = refl;
      tail = tail ++ 33 ∷ [];
      text_is = text_as lines (lines ++ []) _ _ _ (sym (append-nil lines)) refl
          (marked lines tail text t);
    }
part_added true entries (suc (suc n)) lines tail text e t =
    let more = part_lines entries n lines (text ++ 33 ∷ 10 ∷ []) (void lines tail text t) in
    let some : List ℕ = take n (flat_map line_text entries) in
    record {
      whole = more.whole;
      rest = more.rest;
      is = more.is;
      tail = more.tail;
      text_is = text_as _ _ more.tail _ _ refl (append_assoc text (33 ∷ 10 ∷ []) some)
          more.text_is;
    }

-- whole lines that are left of a step that failed are the first of its lines
abbrev pub ArePartOf : Option Step → List Entry → Type 0
ArePartOf None whole = Unit {0}
ArePartOf (Some (Sends turns)) whole = Unit {0}
ArePartOf (Some (Adds entries)) whole = (rest : List Entry) × (entries ≡ whole ++ rest)

-- what is left of a step that failed
pub record LeavesPart (lines : List Entry) (text : List ℕ) (failed : Option Step)
    (last : List Call) : Type 0 where
  pub whole : List Entry
  pub part : ArePartOf failed whole
  pub tail : List ℕ
  pub text_is : IsJournalText (lines ++ lines_of (left_of failed whole)) tail (text ++ appended_in last)

pub leaves_part : (is_torn : Bool) (failed : Option Step) (last : List Call) (lines : List Entry)
    (tail text : List ℕ) → is_torn ≡ nat_lt 0 (length tail) → IsJournalText lines tail text
    → AreBegunOf is_torn failed last → LeavesPart lines text failed last
leaves_part is_torn None last lines tail text e t begun =
    let P : List Call → Type 0 = λ l. LeavesPart lines text None l in
    subst P (sym begun)
    (record {
      whole = [];
      part = tt;
      tail = tail;
      text_is = text_as lines (lines ++ []) tail text (text ++ []) (sym (append-nil lines))
          (sym (append-nil text)) t;
    })
leaves_part is_torn (Some (Sends turns)) last lines tail text e t (fault, broken) =
    record {
      whole = [];
      part = tt;
      tail = tail;
      text_is = text_as lines (lines ++ []) tail text (text ++ appended_in last)
          (sym (append-nil lines))
          (sym (append-nil text)
          ∙ ap (λ (l : List ℕ). text ++ l)
          (sym (appended-line last (broken_line fault turns last broken)))) t;
    }
leaves_part is_torn (Some (Adds entries)) last lines tail text e t (inl none) =
    let P : List Call → Type 0 = λ l. LeavesPart lines text (Some (Adds entries)) l in
    subst P (sym none)
    (record {
      whole = [];
      part = (entries, refl);
      tail = tail;
      text_is = text_as lines (lines ++ []) tail text (text ++ []) (sym (append-nil lines))
          (sym (append-nil text)) t;
    })
leaves_part is_torn (Some (Adds entries)) last lines tail text e t (inr (n, is)) =
    let P : List Call → Type 0 = λ l. LeavesPart lines text (Some (Adds entries)) l in
    let some : List ℕ = take n (added_bytes is_torn entries) in
    let adds = part_added is_torn entries n lines tail text e t in
    subst P (sym is)
    (record {
      whole = adds.whole;
      part = (adds.rest, adds.is);
      tail = adds.tail;
      text_is = text_as (lines ++ adds.whole) _ adds.tail (text ++ some) _
          (ap (λ (l : List Entry). lines ++ l) (sym (append-nil adds.whole)))
          (ap (λ (l : List ℕ). text ++ l) (sym (append-nil some))) adds.text_is;
    })

pub lines_of-append : (xs ys : List Step) → lines_of (xs ++ ys) ≡ lines_of xs ++ lines_of ys
lines_of-append [] ys = refl
lines_of-append (Adds entries ∷ xs) ys =
    ap (λ (l : List Entry). entries ++ l) (lines_of-append xs ys)
    ∙ sym (append_assoc entries (lines_of xs) (lines_of ys))
lines_of-append (Sends turns ∷ xs) ys = lines_of-append xs ys

-- what a call appended, by what it did
appended_by : (is_torn : Bool) (calls : List Call) (did : AreSteps is_torn calls)
    → appended_in calls ≡ appended_in (acts_of_steps is_torn did.done) ++ appended_in did.last
appended_by is_torn calls did =
    sym (appended-acts calls)
    ∙ ap (λ (l : List Call). appended_in l) did.is
    ∙ appended-behind did.settling (acts_of_steps is_torn did.done ++ did.last) did.line
    ∙ appended-append (acts_of_steps is_torn did.done) did.last

pub record TextBehind (before done : List Step) (failed : Option Step)
    (text : List ℕ) : Type 0 where
  pub whole : List Entry
  pub part : ArePartOf failed whole
  pub tail : List ℕ
  pub text_is : IsJournalText (lines_of (before ++ (done ++ left_of failed whole))) tail text

pub text_behind : (before : List Step) (is_torn : Bool) (calls : List Call)
    (did : AreSteps is_torn calls) (tail text : List ℕ)
    → is_torn ≡ nat_lt 0 (length tail) → IsJournalText (lines_of before) tail text
    → TextBehind before did.done did.failed (text ++ appended_in calls)
text_behind before is_torn calls did tail text e t =
    let lines = lines_of before in
    let done = text_steps did.done is_torn lines tail text e t in
    let own : List ℕ = appended_in (acts_of_steps is_torn did.done) in
    let ends = leaves_part (torn_behind is_torn did.done) did.failed did.last
    (lines ++ lines_of did.done) done.tail (text ++ own) done.torn_is done.text_is did.begun
    in
    let left : List Step = left_of did.failed ends.whole in
    record {
      whole = ends.whole;
      part = ends.part;
      tail = ends.tail;
      text_is = text_as _ _ ends.tail _ _
          (append_assoc lines (lines_of did.done) (lines_of left)
          ∙ ap (λ (l : List Entry). lines ++ l) (sym (lines_of-append did.done left))
          ∙ sym (lines_of-append before (did.done ++ left)))
          (append_assoc text own (appended_in did.last)
          ∙ ap (λ (l : List ℕ). text ++ l) (sym (appended_by is_torn calls did)))
          ends.text_is;
    }

pub texts_go_on : TextsGoOn
texts_go_on before is_torn calls did tail text torn is =
    let behind = text_behind before is_torn calls did tail text torn is in
    (behind.whole, behind.tail, behind.text_is)
