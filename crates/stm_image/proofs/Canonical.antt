-- The canonical text of an image means that image.
use Rattle.std.proofs.Common.{◌≡◌, ℕ, zero, suc, ◌+◌, ◌-◌, ◌*◌, ◌/◌, ◌%◌, ◌^◌, ◌<◌, ◌≤◌, ◌++◌, List, [], ◌∷◌, length, take, drop, inl, inr, refl, sym, ap, ap₂, ◌∙◌, subst, append_assoc, length-drop, arith, lit<, lit≤}
use Rattle.std.specs.Prelude.{Bool, true, false, ◌==◌, ◌&&◌, not, if◌then◌else◌, All, sum}
use Rattle.std.proofs.lemmas.Bool.{cases_eq, eq-eqb}
use Rattle.std.proofs.lemmas.Bool.Decides.{nat_tests}
use Rattle.std.proofs.lemmas.List.{append-nil, length-take}
use Rattle.std.proofs.lemmas.List.Elements.{All-cons, All-nil, All-head, All-tail, All-take, All-drop}
use Rattle.std.proofs.Math.Seq.{take-append_seam}
use Rattle.stm_image.specs.Pairs.{Pairs, InRange, IsImage, IsSetOf, Agree, raw_pairs}
use Rattle.stm_image.specs.Record.{Whole, scan, offset_of, data_of}
use Rattle.stm_image.specs.Text.{Means, RecordsPrecede, pairs_from, pairs_of, placed, all_pairs}
use Rattle.stm_image.specs.Reads.{EndsAt}
use Rattle.stm_image.specs.Canon.{Run, join, runs_of, parts_of_run, parts_of, line, lines, upper_line, canon, record_bytes}
use Rattle.stm_image.specs.declared.place.Form.{Form}
use Rattle.stm_image.specs.declared.place.Form.TheVariants.{Linear}
use Rattle.stm_image.proofs.Scanning.{AllBytes, scan_line, scan_blank, flawless_line, length-record}
use Rattle.stm_image.proofs.Sets.{agree_rising, set_rising}

-- RUNS AND PARTS ARE THE PAIRS: what some runs hold
abbrev pairs_in : List Run → Pairs
pairs_in [] = []
pairs_in ((s, bytes) ∷ runs) = raw_pairs s bytes ++ pairs_in runs

pairs_in-append : (xs ys : List Run) → pairs_in (xs ++ ys) ≡ pairs_in xs ++ pairs_in ys
pairs_in-append [] ys = refl
pairs_in-append ((s, bytes) ∷ xs) ys = ap (λ ps. raw_pairs s bytes ++ ps) (pairs_in-append xs ys) ∙ sym (append_assoc (raw_pairs s bytes) (pairs_in xs) (pairs_in ys))

next_address : (t a : ℕ) → ((t == a + 1) && not (t % 65536 == 0)) ≡ true → t ≡ a + 1
next_address t a e = grind (arith, nat_tests)

join_by_test : (a b t : ℕ) (bytes : List ℕ) (runs : List Run) (v : Bool) → ((t == a + 1) && not (t % 65536 == 0)) ≡ v
    → pairs_in (if v then (a, b ∷ bytes) ∷ runs else (a, b ∷ []) ∷ (t, bytes) ∷ runs) ≡ (a, b) ∷ pairs_in ((t, bytes) ∷ runs)
join_by_test a b t bytes runs true e = ap (λ n. (a, b) ∷ raw_pairs n bytes ++ pairs_in runs) (sym (next_address t a e))
join_by_test a b t bytes runs false e = refl

pairs_in-join : (a b : ℕ) (runs : List Run) → pairs_in (join a b runs) ≡ (a, b) ∷ pairs_in runs
pairs_in-join a b [] = refl
pairs_in-join a b ((t, bytes) ∷ runs) = join_by_test a b t bytes runs ((t == a + 1) && not (t % 65536 == 0)) refl

pairs_in-runs : (pairs : Pairs) → pairs_in (runs_of pairs) ≡ pairs
pairs_in-runs [] = refl
pairs_in-runs ((a, b) ∷ pairs) = pairs_in-join a b (runs_of pairs) ∙ ap (λ ps. (a, b) ∷ ps) (pairs_in-runs pairs)

raw-split : (n s : ℕ) (bytes : List ℕ) → raw_pairs s (take n bytes) ++ raw_pairs (s + n) (drop n bytes) ≡ raw_pairs s bytes
raw-split zero s bytes = let e : s + zero ≡ s = omega arith in ap (λ k. raw_pairs k bytes) e
raw-split (suc n) s [] = refl
raw-split (suc n) s (b ∷ bytes) =
    let e : s + suc n ≡ (s + 1) + n = omega arith in
    ap (λ ps. (s, b) ∷ ps) (ap (λ k. raw_pairs (s + 1) (take n bytes) ++ raw_pairs k (drop n bytes)) e ∙ raw-split n (s + 1) bytes)

pairs_in-parts_of_run : (steps : List ℕ) (s : ℕ) (bytes : List ℕ) → length bytes ≤ length steps → pairs_in (parts_of_run steps s bytes) ≡ raw_pairs s bytes
unfolding parts_of_run
pairs_in-parts_of_run [] s [] le = refl
pairs_in-parts_of_run [] s (b ∷ bytes) le = absurd (omega arith)
pairs_in-parts_of_run (x ∷ steps) s [] le = refl
pairs_in-parts_of_run (x ∷ steps) s (b ∷ bytes) le =
    let shorter = length-drop 16 (b ∷ bytes) in
    ap (λ ps. raw_pairs s (take 16 (b ∷ bytes)) ++ ps) (pairs_in-parts_of_run steps (s + 16) (drop 16 (b ∷ bytes)) (omega arith)) ∙ raw-split 16 s (b ∷ bytes)

pairs_in-parts : (runs : List Run) → pairs_in (parts_of runs) ≡ pairs_in runs
pairs_in-parts [] = refl
pairs_in-parts ((s, bytes) ∷ runs) =
    pairs_in-append (parts_of_run bytes s bytes) (parts_of runs) ∙ ap₂ (λ ps qs. ps ++ qs) (pairs_in-parts_of_run bytes s bytes (omega arith)) (pairs_in-parts runs)

-- RUNS AND PARTS IN RANGE: bytes that end by the last address
record GoodRun (s : ℕ) (bytes : List ℕ) : Type 0 where
  ends : 0 < length bytes → s + length bytes ≤ 2 ^ 32
  all : AllBytes bytes

abbrev GoodRuns : List Run → Type 0
GoodRuns [] = Unit {0}
GoodRuns ((s, bytes) ∷ runs) = GoodRun s bytes × GoodRuns runs

record GoodPart (s : ℕ) (bytes : List ℕ) : Type 0 where
  start : s < 2 ^ 32
  short : length bytes ≤ 16
  ends : s + length bytes ≤ 2 ^ 32
  all : AllBytes bytes

abbrev GoodParts : List Run → Type 0
GoodParts [] = Unit {0}
GoodParts ((s, bytes) ∷ parts) = GoodPart s bytes × GoodParts parts

good_single : (a b : ℕ) → InRange (a, b) → GoodRun a (b ∷ [])
good_single a b fits =
    let low = fits.0 in
    record { ends = λ some. omega arith; all = All-cons (λ x. x < 256) b [] fits.1 (All-nil (λ x. x < 256)) }

good_by_test : (a b t : ℕ) (bytes : List ℕ) (runs : List Run) (v : Bool) → ((t == a + 1) && not (t % 65536 == 0)) ≡ v → InRange (a, b) → GoodRun t bytes → GoodRuns runs
    → GoodRuns (if v then (a, b ∷ bytes) ∷ runs else (a, b ∷ []) ∷ (t, bytes) ∷ runs)
good_by_test a b t bytes runs true e fits good goods =
    let at = next_address t a e in
    let low = fits.0 in
    let fit = good.ends in
    (record { ends = λ some. ends at low fit; all = All-cons (λ x. x < 256) b bytes fits.1 good.all }, goods)
  where
    ends : t ≡ a + 1 → a < 2 ^ 32 → (0 < length bytes → t + length bytes ≤ 2 ^ 32) → a + length (b ∷ bytes) ≤ 2 ^ 32
    ends at low fit = grind arith
good_by_test a b t bytes runs false e fits good goods = (good_single a b fits, (good, goods))

good_join : (a b : ℕ) (runs : List Run) → InRange (a, b) → GoodRuns runs → GoodRuns (join a b runs)
good_join a b [] fits goods = (good_single a b fits, tt)
good_join a b ((t, bytes) ∷ runs) fits goods = good_by_test a b t bytes runs ((t == a + 1) && not (t % 65536 == 0)) refl fits goods.0 goods.1

good_runs : (pairs : Pairs) → All InRange pairs → GoodRuns (runs_of pairs)
good_runs [] all = tt
good_runs ((a, b) ∷ pairs) all = good_join a b (runs_of pairs) (All-head InRange (a, b) pairs all) (good_runs pairs (All-tail InRange (a, b) pairs all))

GoodParts-append : (xs ys : List Run) → GoodParts xs → GoodParts ys → GoodParts (xs ++ ys)
GoodParts-append [] ys gx gy = gy
GoodParts-append ((s, bytes) ∷ xs) ys gx gy = (gx.0, GoodParts-append xs ys gx.1 gy)

good_cut : (steps : List ℕ) (s : ℕ) (bytes : List ℕ) → GoodRun s bytes → GoodParts (parts_of_run steps s bytes)
unfolding parts_of_run
good_cut [] s bytes good = tt
good_cut (x ∷ steps) s [] good = tt
good_cut (x ∷ steps) s (b ∷ bytes) good =
    let ends : s + length (b ∷ bytes) ≤ 2 ^ 32 = good.ends (omega arith) in
    let front = length-take 16 (b ∷ bytes) in
    let back = length-drop 16 (b ∷ bytes) in (
      record {
        start = omega arith;
        short = omega arith;
        ends = omega arith;
        all = All-take (λ x. x < 256) 16 (b ∷ bytes) good.all;
      },
      good_cut steps (s + 16) (drop 16 (b ∷ bytes)) (record { ends = λ some. omega arith; all = All-drop (λ x. x < 256) 16 (b ∷ bytes) good.all }),
    )

good_parts : (runs : List Run) → GoodRuns runs → GoodParts (parts_of runs)
good_parts [] goods = tt
good_parts ((s, bytes) ∷ runs) goods = GoodParts-append (parts_of_run bytes s bytes) (parts_of runs) (good_cut bytes s bytes goods.0) (good_parts runs goods.1)

-- WHAT A DATA RECORD PLACES
data_is : (offset kind : ℕ) (bytes : List ℕ) → data_of (record_bytes offset kind bytes) ≡ bytes
data_is offset kind bytes =
    let check = (256 - sum (length bytes ∷ offset / 256 ∷ offset % 256 ∷ kind ∷ bytes) % 256) % 256 in
    let count : length (record_bytes offset kind bytes) - 5 ≡ length bytes = let e = length-record offset kind bytes in omega arith in
    ap (λ n. take n (bytes ++ check ∷ [])) count ∙ take-append_seam bytes (check ∷ [])

offset_is : (offset kind : ℕ) (bytes : List ℕ) → offset_of (record_bytes offset kind bytes) ≡ offset
offset_is offset kind bytes = back offset
  where
    back : (n : ℕ) → n / 256 * 256 + n % 256 ≡ n
    back n = omega arith

linear_pairs : (high offset : ℕ) (bytes : List ℕ) → high * 65536 + offset + length bytes ≤ 2 ^ 32 → pairs_from (Linear high) offset bytes ≡ raw_pairs (high * 65536 + offset) bytes
linear_pairs high offset [] fits = refl
linear_pairs high offset (b ∷ bytes) fits =
    let here : (high * 65536 + offset) % 2 ^ 32 ≡ high * 65536 + offset = omega arith in
    let next : high * 65536 + (offset + 1) ≡ (high * 65536 + offset) + 1 = omega arith in
    ap₂ (λ a ps. (a, b) ∷ ps) here (linear_pairs high (offset + 1) bytes (omega arith) ∙ ap (λ n. raw_pairs n bytes) next)

data_pairs : (s : ℕ) (bytes : List ℕ) → s + length bytes ≤ 2 ^ 32 → pairs_of (Linear (s / 65536)) (record_bytes (s % 65536) 0 bytes) ≡ raw_pairs s bytes
data_pairs s bytes fits =
    let at : s / 65536 * 65536 + s % 65536 ≡ s = omega arith in
    ap₂ (λ o d. pairs_from (Linear (s / 65536)) o d) (offset_is (s % 65536) 0 bytes) (data_is (s % 65536) 0 bytes)
    ∙ linear_pairs (s / 65536) (s % 65536) bytes (omega arith) ∙ ap (λ n. raw_pairs n bytes) at

-- WHAT A TEXT READS AS: records up to an end record, which place these pairs
record ReadsAs (form : Form) (text : List ℕ) (pairs : Pairs) : Type 0 where
  records : List (List ℕ)
  rest : List ℕ
  follows : RecordsPrecede text records rest
  ends : EndsAt rest
  are : placed form records ≡ pairs

-- the end record's line
reads_end : (form : Form) (text : List ℕ) → scan text ≡ scan (line 0 1 []) → ReadsAs form text []
reads_end form text same =
    let last = record_bytes 0 1 [] in
    let stops : scan (line 0 1 []) ≡ Whole last (10 ∷ []) =
    ap scan (sym (append-nil (line 0 1 []))) ∙ scan_line 0 1 [] [] (lit< tt) (lit< tt) (lit< tt) (All-nil (λ x. x < 256)) in
    record {
      records = [];
      rest = text;
      follows = refl;
      ends = record { last = last; after = 10 ∷ []; stops = same ∙ stops; flawless = flawless_line 0 1 [] (lit≤ tt) refl; ends = refl };
      are = refl;
    }

-- a data record's line, and what comes after it
reads_data : (s : ℕ) (bytes more text : List ℕ) (pairs : Pairs) → GoodPart s bytes → scan text ≡ scan (line (s % 65536) 0 bytes ++ more) → ReadsAs (Linear (s / 65536)) (10 ∷ more) pairs
    → ReadsAs (Linear (s / 65536)) text (raw_pairs s bytes ++ pairs)
reads_data s bytes more text pairs good same after =
    let r = record_bytes (s % 65536) 0 bytes in
    let short = good.short in
    let stands = same ∙ scan_line (s % 65536) 0 bytes more (omega arith) (lit< tt) (omega arith) good.all in
    record {
      records = r ∷ after.records;
      rest = after.rest;
      follows = (10 ∷ more, stands, flawless_line (s % 65536) 0 bytes (lit≤ tt) refl, (λ e. cc), after.follows);
      ends = after.ends;
      are = ap₂ (λ ps qs. ps ++ qs) (data_pairs s bytes good.ends) after.are;
    }

-- the line that sets the upper sixteen bits, and what comes after it
reads_upper : (form : Form) (high : ℕ) (more text : List ℕ) (pairs : Pairs) → high < 65536 → scan text ≡ scan (line 0 4 (high / 256 ∷ high % 256 ∷ []) ++ more) → ReadsAs (Linear high) (10 ∷ more) pairs
    → ReadsAs form text pairs
reads_upper form high more text pairs low same after =
    let bytes = high / 256 ∷ high % 256 ∷ [] in
    let P : ℕ → Type 0 = λ x. x < 256 in
    let first : high / 256 < 256 = omega arith in
    let second : high % 256 < 256 = omega arith in
    let all = All-cons P (high / 256) (high % 256 ∷ []) first (All-cons P (high % 256) [] second (All-nil P)) in
    let stands = same ∙ scan_line 0 4 bytes more (lit< tt) (lit< tt) (lit< tt) all in
    let back : high / 256 * 256 + high % 256 ≡ high = omega arith in
    record {
      records = record_bytes 0 4 bytes ∷ after.records;
      rest = after.rest;
      follows = (10 ∷ more, stands, flawless_line 0 4 bytes (lit≤ tt) refl, (λ e. cc), after.follows);
      ends = after.ends;
      are = ap (λ n. placed (Linear n) after.records) back ∙ after.are;
    }

-- the lines of all parts
reads_lines : (parts : List Run) (upper : ℕ) (text : List ℕ) → scan text ≡ scan (lines upper parts) → GoodParts parts → ReadsAs (Linear upper) text (pairs_in parts)
unfolding lines
reads_lines [] upper text same goods = reads_end (Linear upper) text same
reads_lines ((s, bytes) ∷ parts) upper text same goods =
    let high = s / 65536 in
    let more = lines high parts in
    let part = line (s % 65536) 0 bytes in
    let start = goods.0.start in
    let later = reads_lines parts high (10 ∷ more) (scan_blank more) goods.1 in
    elim (cases_eq high upper) [
      | inl kept ↦
          let no_line : upper_line upper high ≡ [] = rw (eq-eqb high upper kept) refl in
          let F : ℕ → Type 0 = λ n. ReadsAs (Linear n) text (raw_pairs s bytes ++ pairs_in parts) in
          subst F kept (reads_data s bytes more text (pairs_in parts) goods.0 (same ∙ ap (λ l. scan (l ++ part ++ more)) no_line) later)
      | inr changes ↦
          let test : (high == upper) ≡ false = grind (arith, nat_tests) in
          let a_line : upper_line upper high ≡ line 0 4 (high / 256 ∷ high % 256 ∷ []) = rw test refl in
          let goes_on : scan text ≡ scan (line 0 4 (high / 256 ∷ high % 256 ∷ []) ++ (part ++ more)) =
          same ∙ ap (λ l. scan (l ++ part ++ more)) a_line ∙ ap scan (append_assoc (line 0 4 (high / 256 ∷ high % 256 ∷ [])) part more) in
          reads_upper (Linear upper) high (part ++ more) text (raw_pairs s bytes ++ pairs_in parts) (omega arith) goes_on
          (reads_data s bytes more (10 ∷ part ++ more) (pairs_in parts) goods.0 (scan_blank (part ++ more)) later)
    ]

-- THE LAW
pub canon_means : (set : Pairs) → IsImage set → Means (canon set) set
unfolding canon
canon_means set image =
    let parts = parts_of (runs_of set) in
    let reads = reads_lines parts 0 (lines 0 parts) refl (good_parts (runs_of set) (good_runs set image.in_range)) in
    let are : all_pairs reads.records ≡ set = reads.are ∙ pairs_in-parts (runs_of set) ∙ pairs_in-runs set in
    record {
      records = reads.records;
      rest = reads.rest;
      follows = reads.follows;
      last = reads.ends.last;
      after = reads.ends.after;
      stops = reads.ends.stops;
      flawless = reads.ends.flawless;
      ends = reads.ends.ends;
      agree = subst Agree (sym are) (agree_rising set image.rises);
      is_set = let P : Pairs → Type 0 = λ ps. IsSetOf set ps in subst P (sym are) (set_rising set image.rises);
    }
