-- Reading a journal piece by piece.
use Rattle.std.proofs.Common.{◌≡◌, ◌≤◌, ◌<◌, ℕ, ◌+◌, ◌^◌, List, [], ◌∷◌, ◌++◌, length, take, drop, Result, Ok, Err, refl, sym, ◌∙◌, ap, ap₂, subst, arith, length-append, append_assoc, append-nil}
use Rattle.std.proofs.lemmas.List.{take-append-drop}
use Rattle.stm_journal.proofs.Names.{after_line, after_summary, bad, BadLine, capped, extended, forget_journal, forget_state, good, greeting, greets_by, HasNoLF, IsRead, journal_of, JournalData}
use Rattle.stm_journal.proofs.Names.{JournalFault, Loaded, LoadingStopsAt, PassesLine, StateData, Summary, summary_of, TakesBytes, Text, text_of}
use Rattle.stm_journal.specs.declared.fault.JournalFault.TheVariants.{File, Bad, OtherDevice, OtherBoard, Memory}
use Rattle.std.specs.Prelude.{bytes_eq}
use Rattle.stm_journal.proofs.Texts.{text-more-lines, text-more-tail}
use Rattle.stm_journal.proofs.Readings.{journal-line, journal-tail, journal-bad, lines-within, reading-size}
use Rattle.stm_journal.proofs.GoesOn.{goes-on}
use Rattle.stm_journal.proofs.Greeted.{greeted-line, greeted-tail, greets_by-line}
use Rattle.stm_journal.proofs.Forgets.{summary-follows}

abbrev LF : List ℕ
LF = 10 ∷ []

-- a whole line more, by its summary
line-here : (l : Loaded) (y : Summary) (bytes : List ℕ) → IsRead l y bytes → length bytes < 2 ^ 63
    → after_summary (capped (l.lines + 1)) l.size (good l.state) y ≡ forget_journal (journal_of (bytes ++ LF))
line-here l y bytes is short =
    let few : length (text_of bytes).lines ≤ length bytes = lines-within bytes in
    let count : length (text_of bytes).lines + 1 ≡ capped (l.lines + 1) = omega (arith, is.lines) in
    let ends : length bytes + 0 ≡ l.size = omega (arith, is.size) in
    let tail : List ℕ = (text_of bytes).tail in
    let text : journal_of (bytes ++ LF) ≡ after_line (capped (l.lines + 1)) l.size (good is.text) tail =
    journal-line bytes [] is.text tt is.means
    ∙ ap₂ (λ (n m : ℕ). after_line n m (good is.text) (tail ++ [])) count ends
    ∙ ap (λ (t : List ℕ). after_line (capped (l.lines + 1)) l.size (good is.text) t) (append-nil tail)
    in
    ap (λ (s : StateData). after_summary (capped (l.lines + 1)) l.size (good s) y) is.state
    ∙ ap (λ (z : Summary). after_summary (capped (l.lines + 1)) l.size (good (forget_state is.text)) z) (sym is.rest)
    ∙ summary-follows (capped (l.lines + 1)) l.size (good is.text) tail
    ∙ sym (ap (λ (j : JournalData). forget_journal j) text)

-- what the text comes to, where its state in memory is known
remembered : (j : JournalData) (s : StateData) → forget_journal j ≡ good s → (t : StateData) × (j ≡ good t) × (s ≡ forget_state t)
remembered (good t) s is = (t, refl, inner is)
  where
    inner : good (forget_state t) ≡ good s → s ≡ forget_state t
    inner h = cc
remembered (bad line) s is = absurd (other is)
  where
    other : bad line ≡ good s → ⊥
    other h = cc

remembered-bad : (j : JournalData) (line : ℕ) → forget_journal j ≡ bad line → j ≡ bad line
remembered-bad (good t) line is = absurd (other is)
  where
    other : good (forget_state t) ≡ bad line → ⊥
    other h = cc
remembered-bad (bad first) line is = is

pub IsRead-line : (l l2 : Loaded) (y : Summary) (bytes : List ℕ) → IsRead l y bytes → length bytes < 2 ^ 63 → PassesLine y l l2 → IsRead l2 (summary_of []) (bytes ++ LF)
IsRead-line l l2 y bytes is short passes =
    let few : length (text_of bytes).lines ≤ length bytes = lines-within bytes in
    let more : text_of (bytes ++ LF) ≡ record { lines = (text_of bytes).lines ++ ((text_of bytes).tail ++ []) ∷ []; tail = [] } = text-more-lines bytes [] [] tt in
    let now = remembered (journal_of (bytes ++ LF)) l2.state (sym (line-here l y bytes is short) ∙ passes.state) in
    record {
      text = now.0;
      means = now.1;
      state = now.2;
      lines = omega (arith, passes.lines, is.lines, ap (λ (t : Text). length t.lines) more, length-append (text_of bytes).lines (((text_of bytes).tail ++ []) ∷ []));
      size = omega (arith, passes.size, is.size, length-append bytes LF);
      greeted =
          passes.is_greeted
          ∙ ap (λ (z : Summary). greets_by z) (sym is.rest)
          ∙ sym (greets_by-line (text_of bytes).tail)
          ∙ sym (ap (λ (t : List ℕ). bytes_eq t greeting) (append-nil (text_of bytes).tail))
          ∙ sym (greeted-line bytes [] tt);
      rest = ap (λ (t : Text). summary_of t.tail) more;
    }

pub StopsAt-line : (l : Loaded) (y : Summary) (bytes : List ℕ) (e : JournalFault) → IsRead l y bytes → length bytes < 2 ^ 63 → BadLine y l e → LoadingStopsAt (bytes ++ LF) e
StopsAt-line l y bytes File is short wrong = wrong
StopsAt-line l y bytes (Bad line) is short wrong = λ rest.
    let J : List ℕ → Type 0 = λ xs. journal_of xs ≡ bad line in
    let here : journal_of (bytes ++ LF) ≡ bad line = remembered-bad (journal_of (bytes ++ LF)) line (sym (line-here l y bytes is short) ∙ wrong) in
    subst J (sym (append_assoc bytes LF rest)) (journal-bad bytes [] rest line tt here)
StopsAt-line l y bytes OtherDevice is short wrong = wrong
StopsAt-line l y bytes OtherBoard is short wrong = wrong
StopsAt-line l y bytes Memory is short wrong = tt

-- bytes of a line
pub IsRead-part : (l l2 : Loaded) (y y2 : Summary) (part bytes : List ℕ) → HasNoLF part → l2 ≡ record l { size = capped (l.size + length part) } → IsRead l y bytes
    → length bytes + length part < 2 ^ 63 → (length part ≡ 0 → y2 ≡ y) → (0 < length part → y.size + length part < 2 ^ 64 → y2 ≡ extended part y) → IsRead l2 y2 (bytes ++ part)
IsRead-part l l2 y y2 part bytes none same is short empty some =
    let more : text_of (bytes ++ part) ≡ record { lines = (text_of bytes).lines; tail = (text_of bytes).tail ++ part } = text-more-tail bytes part none in
    let L : Loaded → Type 0 = λ x. IsRead x y2 (bytes ++ part) in
    subst L (sym same)
    (record {
      text = is.text;
      means = journal-tail bytes part none ∙ is.means;
      state = is.state;
      lines = is.lines ∙ sym (ap (λ (t : Text). length t.lines) more);
      size = omega (arith, is.size, short, length-append bytes part);
      greeted = is.greeted ∙ sym (greeted-tail bytes part none);
      rest = ap (λ (t : Text). summary_of t.tail) more ∙ summary part empty some short;
    })
  where
    tail-within : length (text_of bytes).tail ≤ length bytes
    tail-within = omega (arith, reading-size bytes)

    known : length (text_of bytes).tail ≡ y.size
    known = ap (λ (z : Summary). z.size) is.rest

    summary : (xs : List ℕ) → (length xs ≡ 0 → y2 ≡ y) → (0 < length xs → y.size + length xs < 2 ^ 64 → y2 ≡ extended xs y) → length bytes + length xs < 2 ^ 63
        → summary_of ((text_of bytes).tail ++ xs) ≡ y2
    summary [] e s fits = ap (λ (t : List ℕ). summary_of t) (append-nil (text_of bytes).tail) ∙ is.rest ∙ sym (e refl)
    summary (b ∷ xs) e s fits =
        goes-on (text_of bytes).tail b xs ∙ ap (λ (z : Summary). extended (b ∷ xs) z) is.rest
        ∙ sym (s (omega arith) (omega (arith, fits, tail-within, known)))

-- a fault in the first of these bytes
pub StopsAt-first : (bytes first rest : List ℕ) (e : JournalFault) → LoadingStopsAt (bytes ++ first) e → LoadingStopsAt (bytes ++ (first ++ rest)) e
StopsAt-first bytes first rest File wrong = wrong
StopsAt-first bytes first rest (Bad line) wrong = λ more.
    let J : List ℕ → Type 0 = λ xs. journal_of xs ≡ bad line in
    let whole : (bytes ++ first) ++ (rest ++ more) ≡ (bytes ++ (first ++ rest)) ++ more =
    append_assoc bytes first (rest ++ more) ∙ ap (λ (xs : List ℕ). bytes ++ xs) (sym (append_assoc first rest more)) ∙ sym (append_assoc bytes (first ++ rest) more)
    in
    subst J whole (wrong (rest ++ more))
StopsAt-first bytes first rest OtherDevice wrong = wrong
StopsAt-first bytes first rest OtherBoard wrong = wrong
StopsAt-first bytes first rest Memory wrong = tt

-- bytes and more bytes
pub TakesBytes-join : {T : Type 0} (bytes first rest : List ℕ) (l : Loaded) (y : Summary) (result : Result T JournalFault)
    → TakesBytes rest (bytes ++ first) l y result → TakesBytes (first ++ rest) bytes l y result
TakesBytes-join bytes first rest l y (Ok x) is = let R : List ℕ → Type 0 = λ xs. IsRead l y xs in subst R (append_assoc bytes first rest) is
TakesBytes-join bytes first rest l y (Err e) is = let S : List ℕ → Type 0 = λ xs. LoadingStopsAt xs e in subst S (append_assoc bytes first rest) is

pub TakesBytes-same : {T : Type 0} (bytes xs ys : List ℕ) (l : Loaded) (y : Summary) (result : Result T JournalFault) → xs ≡ ys → TakesBytes xs bytes l y result → TakesBytes ys bytes l y result
TakesBytes-same {T} bytes xs ys l y result e is = let R : List ℕ → Type 0 = λ zs. TakesBytes zs bytes l y result in subst R e is

-- a fault in a line of these bytes
pub StopsAt-part : (bytes more first : List ℕ) (k : ℕ) (e : JournalFault) → first ≡ bytes ++ take k more → LoadingStopsAt first e → LoadingStopsAt (bytes ++ more) e
StopsAt-part bytes more first k e same wrong =
    let S : List ℕ → Type 0 = λ xs. LoadingStopsAt xs e in
    let A : List ℕ → Type 0 = λ xs. LoadingStopsAt (bytes ++ xs) e in
    subst A (take-append-drop k more) (StopsAt-first bytes (take k more) (drop k more) e (subst S same wrong))
