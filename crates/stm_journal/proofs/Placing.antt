-- Where the digits of kept pages stand.
use Rattle.std.proofs.Common.{◌≡◌, ◌≤◌, ◌<◌, ℕ, ◌+◌, ◌*◌, ◌-◌, ◌%◌, Bool, true, false, ◌==◌, ◌&&◌, nat_lt, if◌then◌else◌, List, [], ◌∷◌, ◌++◌, length, take, drop, fold, codes, Option, Some, None, option_map, Result, Ok, Err, refl, sym, ◌∙◌, ap, subst, inl, inr, arith, append_assoc, length-append, length-drop}
use Rattle.std.specs.Prelude.{position, bytes_eq}
use Rattle.std.specs.List.{list_all}
use Rattle.std.specs.Result.{result_ok}
use Rattle.std.proofs.lemmas.Bool.{cases_Bool}
use Rattle.std.proofs.lemmas.Bool.Decides.{nat_tests}
use Rattle.std.proofs.lemmas.List.{drop-drop, drop_at, drop-append-le, take_at, take-append-le}
use Rattle.hex.specs.declared.error.FromHexError.{FromHexError}
use Rattle.hex.specs.declared.error.FromHexError.TheVariants.{OddLength}
use Rattle.hex.specs.Hex.{decode_pairs}
use Rattle.hex.proofs.HexLemmas.{decode_pairs-ok}
use Rattle.stm_wire.specs.declared.intent.Intent.TheVariants.{Erase, Program}
use Rattle.stm_journal.proofs.Names.{after_entry, after_line, after_said, allows, AllPlaced, bad, board_at, board_header_of, board_of_fields, cut, decimal_of, ended_segment, Entry, entry_of, good}
use Rattle.stm_journal.proofs.Names.{header_of, hex_bytes_of, id_of, in_front, intending, is_upper_digit, is_void, IsPlaced, journal_of, JournalData, keeping, Kept, kept_entry_of, kept_in, on_newest}
use Rattle.stm_journal.proofs.Names.{page_at, page_of_fields, PagesPlaced, read_line, Reading, SegmentData, start, StateData, text_of, unique_id_of, worded}
use Rattle.stm_journal.specs.declared.entry.Entry.TheVariants.{Names, Opens, Keeps, Erases, Programs, Ends, Undoes}

-- bytes behind change no place
IsPlaced-more : (xs ys : List ℕ) (k : Kept) → IsPlaced xs k → IsPlaced (xs ++ ys) k
IsPlaced-more xs ys k is =
    let n : ℕ = 2 * length k.bytes in
    let fits : k.at ≤ length xs = omega (arith, is.0) in
    let within : n ≤ length (drop k.at xs) = omega (arith, is.0, length-drop k.at xs) in
    let same : cut k.at n (xs ++ ys) ≡ cut k.at n xs = ap (λ (zs : List ℕ). take n zs) (drop-append-le k.at xs ys fits) ∙ take-append-le n (drop k.at xs) ys within in
    (omega (arith, is.0, length-append xs ys), ap (λ (zs : List ℕ). hex_bytes_of zs) same ∙ is.1)

PagesPlaced-more : (xs ys : List ℕ) (pages : List Kept) → PagesPlaced xs pages → PagesPlaced (xs ++ ys) pages
PagesPlaced-more xs ys [] is = tt
PagesPlaced-more xs ys (k ∷ pages) is = (IsPlaced-more xs ys k is.0, PagesPlaced-more xs ys pages is.1)

pub AllPlaced-more : (xs ys : List ℕ) (stack : List SegmentData) → AllPlaced xs stack → AllPlaced (xs ++ ys) stack
AllPlaced-more xs ys [] is = tt
AllPlaced-more xs ys (segment ∷ below) is = (PagesPlaced-more xs ys segment.pages is.0, AllPlaced-more xs ys below is.1)

PagesPlaced-push : (bytes : List ℕ) (pages : List Kept) (k : Kept) → PagesPlaced bytes pages → IsPlaced bytes k → PagesPlaced bytes (pages ++ k ∷ [])
PagesPlaced-push bytes [] k all one = (one, tt)
PagesPlaced-push bytes (x ∷ pages) k all one = (all.0, PagesPlaced-push bytes pages k all.1 one)

-- as many digits as two a byte, and some
hex-length : (ds bytes : List ℕ) → hex_bytes_of ds ≡ Some bytes → (length ds ≡ 2 * length bytes) × (0 < length ds)
hex-length ds bytes is = at (nat_lt 0 (length ds)) (list_all is_upper_digit ds) (length ds % 2 == 1) (λ h. some (length ds) h) is
  where
    some : (n : ℕ) → nat_lt 0 n ≡ true → 0 < n
    some n h = grind (arith, nat_tests)

    decoded : (r : Result (List ℕ) FromHexError) → result_ok r ≡ Some bytes → r ≡ Ok bytes
    decoded (Ok xs) h = cc h
    decoded (Err e) h = cc h

    at : (a b c : Bool) → (a ≡ true → 0 < length ds) → (if a && b then result_ok (if c then Err OddLength else decode_pairs 0 ds) else None) ≡ Some bytes → (length ds ≡ 2 * length bytes) × (0 < length ds)
    at true true true h g = cc g
    at true true false h g = let d = decode_pairs-ok 0 ds bytes (decoded (decode_pairs 0 ds) g) in (d.1, h refl)
    at true false c h g = cc g
    at false b c h g = cc g

-- the page of a line just read
IsPlaced-new : (done text : List ℕ) (line ends n d : ℕ) (bytes : List ℕ) → ends ≡ length done + length text → hex_bytes_of (drop d text) ≡ Some bytes → IsPlaced (done ++ (text ++ 10 ∷ [])) (kept_in line ends n bytes)
IsPlaced-new done text line ends n d bytes place is =
    let size = hex-length (drop d text) bytes is in
    let all : List ℕ = done ++ (text ++ 10 ∷ []) in
    let rest : length text - d ≡ 2 * length bytes = omega (arith, size.0, length-drop d text) in
    let within : d ≤ length text = omega (arith, size.1, length-drop d text) in
    let at : ends - 2 * length bytes ≡ length done + d = omega (arith, place, rest, within) in
    let here : drop (length done + d) all ≡ drop d text ++ 10 ∷ [] = sym (drop-drop d (length done) all) ∙ ap (λ (zs : List ℕ). drop d zs) (drop_at done (text ++ 10 ∷ []) (length done) refl) ∙ drop-append-le d text (10 ∷ []) within in
    let digits : cut (ends - 2 * length bytes) (2 * length bytes) all ≡ drop d text =
    ap (λ (k : ℕ). cut k (2 * length bytes) all) at ∙ ap (λ (zs : List ℕ). take (2 * length bytes) zs) here ∙ take_at (drop d text) (10 ∷ []) (2 * length bytes) size.0
    in
    (omega (arith, at, rest, within, length-append done (text ++ 10 ∷ []), length-append text (10 ∷ [])), ap (λ (zs : List ℕ). hex_bytes_of zs) digits ∙ is)

-- a page's digits are the end of its line
abbrev HasDigits : List ℕ → Entry → Type 0
HasDigits text (Names version id unique) = Unit {0}
HasDigits text (Opens k) = Unit {0}
HasDigits text (Keeps n bytes) = (d : ℕ) × (hex_bytes_of (drop d text) ≡ Some bytes)
HasDigits text (Erases n) = Unit {0}
HasDigits text (Programs n) = Unit {0}
HasDigits text (Ends k) = Unit {0}
HasDigits text (Undoes k) = Unit {0}

abbrev Says : List ℕ → Option Entry → Type 0
Says text None = Unit {0}
Says text (Some e) = HasDigits text e

says-map : (text : List ℕ) (f : ℕ → Entry) → ((n : ℕ) → HasDigits text (f n)) → (o : Option ℕ) → Says text (option_map f o)
says-map text f has None = tt
says-map text f has (Some n) = has n

says-worded : (word : List ℕ) (said : List ℕ → Option Entry) (line : List ℕ) (other : Option Entry) → Says line (said (drop (length word) line)) → Says line other → Says line (worded word said line other)
says-worded word said line other here there = at (bytes_eq (take (length word) line) word)
  where
    at : (b : Bool) → Says line (elim (if b then Some (drop (length word) line) else None) as (λ _. Option Entry) [ None ↦ other | Some rest ↦ said rest ])
    at true = here
    at false = there

says-fields : (text : List ℕ) (d : ℕ) (o : Option ℕ) (h : Option (List ℕ)) → hex_bytes_of (drop d text) ≡ h → Says text (page_of_fields o h)
says-fields text d None None is = tt
says-fields text d None (Some bytes) is = tt
says-fields text d (Some n) None is = tt
says-fields text d (Some n) (Some bytes) is = (d, is)

says-page : (line : List ℕ) (o : Option ℕ) → Says line (page_at (drop 5 line) o)
says-page line None = tt
says-page line (Some i) = says-fields line (5 + (i + 1)) (decimal_of (take i (drop 5 line))) (hex_bytes_of (drop (i + 1) (drop 5 line))) (ap (λ (zs : List ℕ). hex_bytes_of zs) (sym (drop-drop (i + 1) 5 line)))

says-board-fields : (text : List ℕ) (o : Option ℕ) (u : Option (List ℕ)) → Says text (board_of_fields o u)
says-board-fields text None u = tt
says-board-fields text (Some id) None = tt
says-board-fields text (Some id) (Some unique) = tt

says-board : (text rest : List ℕ) (o : Option ℕ) → Says text (board_at rest o)
says-board text rest None = tt
says-board text rest (Some i) = says-board-fields text (id_of (take i rest)) (unique_id_of (drop (i + 1) rest))

says-entry : (line : List ℕ) → Says line (entry_of line)
says-entry line =
    says-worded (codes "page ") kept_entry_of line _ (says-page line (position (λ b. b == 32) (drop 5 line)))
    (says-worded (codes "stmjournal 1 ") (header_of 1) line _ (says-map line (λ id. Names 1 id []) (λ n. tt) (id_of (drop 13 line)))
    (says-worded (codes "stmjournal 2 ") (header_of 2) line _ (says-map line (λ id. Names 2 id []) (λ n. tt) (id_of (drop 13 line)))
    (says-worded (codes "stmjournal 3 ") board_header_of line _ (says-board line (drop 13 line) (position (λ b. b == 32) (drop 13 line)))
    (says-worded (codes "open ") _ line _ (says-map line (λ n. Opens n) (λ n. tt) (decimal_of (drop 5 line)))
    (says-worded (codes "erase ") _ line _ (says-map line (λ n. Erases n) (λ n. tt) (decimal_of (drop 6 line)))
    (says-worded (codes "program ") _ line _ (says-map line (λ n. Programs n) (λ n. tt) (decimal_of (drop 8 line)))
    (says-worded (codes "end ") _ line _ (says-map line (λ n. Ends n) (λ n. tt) (decimal_of (drop 4 line)))
    (says-worded (codes "undone ") _ line None (says-map line (λ n. Undoes n) (λ n. tt) (decimal_of (drop 7 line))) tt))))))))

-- what an entry makes of the places
placed-keep : (bytes : List ℕ) (k : Kept) (stack : List SegmentData) → AllPlaced bytes stack → IsPlaced bytes k → AllPlaced bytes (on_newest (keeping k) stack)
placed-keep bytes k [] all one = tt
placed-keep bytes k (segment ∷ below) all one = (PagesPlaced-push bytes segment.pages k all.0 one, all.1)

placed-change : (bytes : List ℕ) (change : SegmentData → SegmentData) (stack : List SegmentData) → ((segment : SegmentData) → (change segment).pages ≡ segment.pages) → AllPlaced bytes stack → AllPlaced bytes (on_newest change stack)
placed-change bytes change [] same all = tt
placed-change bytes change (segment ∷ below) same all =
    let P : List Kept → Type 0 = λ pages. PagesPlaced bytes pages in
    (subst P (sym (same segment)) all.0, all.1)

placed-drop : (bytes : List ℕ) (stack : List SegmentData) → AllPlaced bytes stack → AllPlaced bytes (drop 1 stack)
placed-drop bytes [] all = tt
placed-drop bytes (segment ∷ below) all = all.1

placed-entry : (done text : List ℕ) (line ends : ℕ) (s : StateData) (e : Entry) → ends ≡ length done + length text → HasDigits text e → AllPlaced (done ++ (text ++ 10 ∷ [])) s.stack
    → AllPlaced (done ++ (text ++ 10 ∷ [])) (after_entry line ends s e).stack
placed-entry done text line ends s (Names version id unique) place has all = all
placed-entry done text line ends s (Opens k) place has all = (tt, all)
placed-entry done text line ends s (Keeps n bytes) place has all = placed-keep (done ++ (text ++ 10 ∷ [])) (kept_in line ends n bytes) s.stack all (IsPlaced-new done text line ends n has.0 bytes place has.1)
placed-entry done text line ends s (Erases n) place has all = placed-change (done ++ (text ++ 10 ∷ [])) (intending (Erase n)) s.stack (λ segment. refl) all
placed-entry done text line ends s (Programs n) place has all = placed-change (done ++ (text ++ 10 ∷ [])) (intending (Program n)) s.stack (λ segment. refl) all
placed-entry done text line ends s (Ends k) place has all = placed-change (done ++ (text ++ 10 ∷ [])) ended_segment s.stack (λ segment. refl) all
placed-entry done text line ends s (Undoes k) place has all = placed-drop (done ++ (text ++ 10 ∷ [])) s.stack all

abbrev PlacedIfGood : List ℕ → JournalData → Type 0
PlacedIfGood bytes (good s) = AllPlaced bytes s.stack
PlacedIfGood bytes (bad line) = Unit {0}

placed-allowed : (bytes : List ℕ) (b : Bool) (s : StateData) (line : ℕ) → AllPlaced bytes s.stack → PlacedIfGood bytes (if b then good s else bad line)
placed-allowed bytes true s line h = h
placed-allowed bytes false s line h = tt

placed-said : (done text : List ℕ) (line ends : ℕ) (s : StateData) (o : Option Entry) → ends ≡ length done + length text → Says text o → AllPlaced (done ++ (text ++ 10 ∷ [])) s.stack
    → PlacedIfGood (done ++ (text ++ 10 ∷ [])) (after_said line ends s o)
placed-said done text line ends s None place says all = tt
placed-said done text line ends s (Some e) place says all = placed-allowed (done ++ (text ++ 10 ∷ [])) (allows s e) (after_entry line ends s e) line (placed-entry done text line ends s e place says all)

placed-either : (bytes : List ℕ) (b : Bool) (i j : JournalData) → PlacedIfGood bytes i → PlacedIfGood bytes j → PlacedIfGood bytes (if b then i else j)
placed-either bytes true i j h g = h
placed-either bytes false i j h g = g

placed-line : (done text : List ℕ) (line ends : ℕ) (j : JournalData) → ends ≡ length done + length text → PlacedIfGood done j → PlacedIfGood (done ++ (text ++ 10 ∷ [])) (after_line line ends j text)
placed-line done text line ends (bad first) place all = tt
placed-line done text line ends (good s) place all =
    let more : AllPlaced (done ++ (text ++ 10 ∷ [])) s.stack = AllPlaced-more done (text ++ 10 ∷ []) s.stack all in
    placed-either (done ++ (text ++ 10 ∷ [])) (is_void text) (good s) (after_said line ends s (entry_of text)) more (placed-said done text line ends s (entry_of text) place (says-entry text) more)

-- whole lines as bytes
abbrev lines_bytes : List (List ℕ) → List ℕ
lines_bytes [] = []
lines_bytes (l ∷ ls) = l ++ 10 ∷ lines_bytes ls

in_front-bytes : (b : ℕ) (lines : List (List ℕ)) (tail : List ℕ) → lines_bytes (in_front b (record { lines = lines; tail = tail })).lines ++ (in_front b (record { lines = lines; tail = tail })).tail ≡ b ∷ (lines_bytes lines ++ tail)
in_front-bytes b [] tail = refl
in_front-bytes b (l ∷ ls) tail = refl

text-bytes : (bytes : List ℕ) → lines_bytes (text_of bytes).lines ++ (text_of bytes).tail ≡ bytes
text-bytes [] = refl
text-bytes (b ∷ bytes) = elim (cases_Bool (b == 10)) [
  | inl here ↦ rw here (ap (λ (xs : List ℕ). 10 ∷ xs) (text-bytes bytes) ∙ ap (λ (c : ℕ). c ∷ bytes) (sym (lf b here)))
  | inr other ↦ rw other (in_front-bytes b (text_of bytes).lines (text_of bytes).tail ∙ ap (λ (xs : List ℕ). b ∷ xs) (text-bytes bytes))
]
  where
    lf : (c : ℕ) → (c == 10) ≡ true → c ≡ 10
    lf c h = grind (arith, nat_tests)

placed-lines : (r : Reading) (done : List ℕ) (lines : List (List ℕ)) → r.size ≡ length done → PlacedIfGood done r.journal → PlacedIfGood (done ++ lines_bytes lines) (fold read_line r lines).journal
placed-lines r done [] size all = let P : List ℕ → Type 0 = λ xs. PlacedIfGood xs r.journal in subst P (sym (append-none done)) all
  where
    append-none : (xs : List ℕ) → xs ++ [] ≡ xs
    append-none [] = refl
    append-none (x ∷ xs) = ap (λ (ys : List ℕ). x ∷ ys) (append-none xs)
placed-lines r done (text ∷ lines) size all =
    let next : List ℕ = done ++ (text ++ 10 ∷ []) in
    let count : r.size + length text + 1 ≡ length next = omega (arith, size, length-append done (text ++ 10 ∷ []), length-append text (10 ∷ [])) in
    let place : r.size + length text ≡ length done + length text = omega (arith, size) in
    let P : List ℕ → Type 0 = λ xs. PlacedIfGood xs (fold read_line (read_line r text) lines).journal in
    let whole : next ++ lines_bytes lines ≡ done ++ (text ++ 10 ∷ lines_bytes lines) = append_assoc done (text ++ 10 ∷ []) (lines_bytes lines) ∙ ap (λ (xs : List ℕ). done ++ xs) (append_assoc text (10 ∷ []) (lines_bytes lines)) in
    subst P whole (placed-lines (read_line r text) next lines count (placed-line done text (r.lines + 1) (r.size + length text) r.journal place all))

pub pages-are-placed : (bytes : List ℕ) (s : StateData) → journal_of bytes ≡ good s → AllPlaced bytes s.stack
pages-are-placed bytes s is =
    let lines : List (List ℕ) = (text_of bytes).lines in
    let P : JournalData → Type 0 = λ j. PlacedIfGood (lines_bytes lines) j in
    let B : List ℕ → Type 0 = λ xs. AllPlaced xs s.stack in
    subst B (text-bytes bytes) (AllPlaced-more (lines_bytes lines) (text_of bytes).tail s.stack (subst P is (placed-lines start [] lines refl tt)))
