-- What stands behind an append: the line of a page's CRC, and nothing behind another line.
use Rattle.std.proofs.Common.{◌≡◌, ℕ, ◌+◌, ◌-◌, ◌==◌, Bool, true, false, List, [], ◌∷◌, ◌++◌, length, take, drop, codes, decimal, position, Option, Some, None, Result, Ok, Err, refl, sym, ◌∙◌, ap, subst, true≢false, arith, length-append, length-drop, take_all}
use Rattle.std.specs.Prelude.{bytes_eq, if◌then◌else◌, option_and_then, IfOk}
use Rattle.std.specs.Result.{result_ok}
use Rattle.std.proofs.lemmas.Bool.Decides.{nat_tests}
use Rattle.std.proofs.KnownBytes.{Appends-nil}
use Rattle.std.proofs.lemmas.List.{append-nil, drop_at}
use Rattle.std.proofs.Math.Seq.{take-append_seam}
use Rattle.hex.specs.Hex.{decode_of, encode_upper}
use Rattle.hex.specs.declared.error.FromHexError.{FromHexError}
use Rattle.stm_journal.specs.declared.entry.Entry.{Entry}
use Rattle.stm_journal.specs.declared.entry.Entry.TheVariants.{Keeps}
use Rattle.stm_journal.proofs.Names.{added_bytes, are_upper_digits, behind, decimal_of, entry_of, hex_bytes_of, IsPrintable, line_of, mark, page_at, page_of_fields}
use Rattle.stm_files.specs.PageSeal.{AppendsSealed, IsSeal, IsSealIf, digits_at, digits_of, ahead, sum_line, unmarked}
use Rattle.stm_files.specs.PageSum.{page_sum}

abbrev ReadBack : Type 0
ReadBack = (e : Entry) → IsPrintable e → entry_of (line_of e) ≡ Some e

-- a line with its LF is that line
whole-line : (line : List ℕ) → ahead (10 ∷ []) (line ++ 10 ∷ []) ≡ Some line
whole-line line =
    let all : List ℕ = line ++ 10 ∷ [] in
    let n : ℕ = length all - 1 in
    let long : length line ≡ n = omega (arith, length-append line (10 ∷ [])) in
    ap (λ (xs : List ℕ). if bytes_eq xs (10 ∷ []) then Some (take n all) else None) (drop_at line (10 ∷ []) n long)
    ∙ ap (λ (i : ℕ). Some (take i all)) (sym long)
    ∙ ap (λ (xs : List ℕ). Some xs) (take-append_seam line (10 ∷ []))

digits-marked : (torn : Bool) (rest : List ℕ) → digits_of (mark torn ++ (codes "page " ++ rest))
    ≡ option_and_then (λ line. digits_at line (position (λ b. b == 32) line)) (ahead (10 ∷ []) rest)
digits-marked true rest = refl
digits-marked false rest = refl

-- digits that were found say a page
record SayPage (found : Option (List ℕ)) (page : List ℕ) : Type 0 where
  digits : List ℕ
  is : found ≡ Some digits
  decoded : decode_of digits ≡ Ok page

decoded-by : (upper : Bool) (r : Result (List ℕ) FromHexError) (page : List ℕ) → (if upper then result_ok r else None) ≡ Some page → r ≡ Ok page
decoded-by true (Ok bytes) page is = let same : bytes ≡ page = cc (is) in ap (λ (xs : List ℕ). Ok xs) same
decoded-by true (Err e) page is = absurd (cc (is))
decoded-by false r page is = absurd (cc (is))

fields-say : (n number : Option ℕ) (bytes : Option (List ℕ)) (k : ℕ) (page : List ℕ) → page_of_fields number bytes ≡ Some (Keeps k page) → bytes ≡ Some page
fields-say n (Some m) (Some bytes) k page is = let same : Keeps m bytes ≡ Keeps k page = cc (is) in let those : bytes ≡ page = cc (same) in ap (λ (xs : List ℕ). Some xs) those
fields-say n (Some m) None k page is = absurd (cc (is))
fields-say n None bytes k page is = absurd (cc (is))

line-says : (line : List ℕ) (o : Option ℕ) (n : ℕ) (page : List ℕ) → page_at line o ≡ Some (Keeps n page) → SayPage (digits_at line o) page
line-says line None n page is = absurd (cc (is))
line-says line (Some i) n page is =
    let digits : List ℕ = drop (i + 1) line in
    let said : hex_bytes_of digits ≡ Some page = fields-say None (decimal_of (take i line)) (hex_bytes_of digits) n page is in
    record { digits = digits; is = refl; decoded = decoded-by (are_upper_digits digits) (decode_of digits) page said }

-- the digits of a page that is added
digits-added : ReadBack → (torn : Bool) (n : ℕ) (page : List ℕ) → IsPrintable (Keeps n page) → SayPage (digits_of (added_bytes torn (Keeps n page ∷ []))) page
digits-added back torn n page is =
    let line : List ℕ = decimal n ++ 32 ∷ encode_upper page in
    let found : Option (List ℕ) = digits_at line (position (λ b. b == 32) line) in
    let text : added_bytes torn (Keeps n page ∷ []) ≡ mark torn ++ (codes "page " ++ (line ++ 10 ∷ [])) =
    ap (λ (xs : List ℕ). mark torn ++ xs) (append-nil ((codes "page " ++ line) ++ 10 ∷ [])) in
    let same : digits_of (added_bytes torn (Keeps n page ∷ [])) ≡ found =
    ap (λ (xs : List ℕ). digits_of xs) text ∙ digits-marked torn (line ++ 10 ∷ [])
    ∙ ap (λ (o : Option (List ℕ)). option_and_then (λ line. digits_at line (position (λ b. b == 32) line)) o) (whole-line line) in
    let says = line-says line (position (λ b. b == 32) line) n page (back (Keeps n page) is) in
    record { digits = says.digits; is = same ∙ says.is; decoded = says.decoded }

abbrev Other : List ℕ → Type 0
Other added = behind (codes "page ") (unmarked added) ≡ None

no-digits : (added : List ℕ) → Other added → digits_of added ≡ None
no-digits added none =
    ap (λ (o : Option (List ℕ)). option_and_then (λ line. digits_at line (position (λ b. b == 32) line)) (option_and_then (ahead (10 ∷ [])) o)) none

-- where there are digits, what they say is summed
sealed : ReadBack → (added digits seal : List ℕ) → digits_of added ≡ Some digits → ((page : List ℕ) → decode_of digits ≡ Ok page → seal ≡ sum_line (page_sum page))
    → IsSeal added seal
sealed back added digits seal found sums =
    record {
      of_page = λ torn n page is same.
          let says = digits-added back torn n page is in
          let here : Some digits ≡ Some says.digits = sym found ∙ ap (λ (xs : List ℕ). digits_of xs) same ∙ says.is in
          let those : digits ≡ says.digits = cc (here) in
          sums page (ap (λ (xs : List ℕ). decode_of xs) those ∙ says.decoded);
      of_other = λ none. let no : Some digits ≡ None = sym found ∙ no-digits added none in absurd (cc (no));
    }

-- and nothing stands behind what has none
pub unsealed : ReadBack → (added seal : List ℕ) → digits_of added ≡ None → seal ≡ [] → IsSeal added seal
unsealed back added seal none empty =
    record {
      of_page = λ torn n page is same.
          let says = digits-added back torn n page is in
          let no : None ≡ Some says.digits = sym none ∙ ap (λ (xs : List ℕ). digits_of xs) same ∙ says.is in absurd (cc (no));
      of_other = λ other. empty;
    }

-- the same of a line that there may be no memory for
pub sealed-in : {T E : Type 0} → ReadBack → (added digits : List ℕ) (items : T → List ℕ) (r : Result T E) → digits_of added ≡ Some digits
    → ((page : List ℕ) → decode_of digits ≡ Ok page → IfOk r (λ line. items line ≡ sum_line (page_sum page))) → IfOk r (λ line. IsSeal added (items line))
sealed-in back added digits items (Ok line) found sums = sealed back added digits (items line) found sums
sealed-in back added digits items (Err e) found sums = tt

abbrev is-none : List ℕ → Bool
is-none [] = true
is-none (b ∷ bytes) = false

some-added : (torn : Bool) (n : ℕ) (page : List ℕ) → [] ≡ added_bytes torn (Keeps n page ∷ []) → ⊥
some-added true n page same = true≢false (ap is-none same)
some-added false n page same = true≢false (ap is-none same)

none-sealed : (seals : Bool) → IsSealIf seals [] []
none-sealed true = record { of_page = λ torn n page is same. absurd (some-added torn n page same); of_other = λ other. refl }
none-sealed false = refl

none-in : (seals : Bool) (old : Option (List ℕ)) → AppendsSealed seals old old []
none-in true old = ([], none-sealed true, Appends-nil old)
none-in false old = ([], none-sealed false, Appends-nil old)

-- where nothing is added
pub none-added : (seals : Bool) (added : List ℕ) (old : Option (List ℕ)) → added ≡ [] → AppendsSealed seals old old added
none-added seals added old none = subst (λ (xs : List ℕ). AppendsSealed seals old old xs) (sym none) (none-in seals old)

no-more : (xs : List ℕ) → (length xs == 0) ≡ true → xs ≡ []
no-more [] is = refl
no-more (x ∷ xs) is = grind (arith, nat_tests)

-- what a journal has from its end on
pub none-behind : (start : ℕ) (from journal : List ℕ) → from ≡ journal → (length (take (length from - start) (drop start from)) == 0) ≡ true
    → drop start journal ≡ []
none-behind start from journal same is =
    let all : take (length from - start) (drop start from) ≡ drop start from =
    take_all (length from - start) (drop start from) (omega (arith, length-drop start from)) in
    ap (λ (xs : List ℕ). drop start xs) (sym same) ∙ no-more (drop start from) (ap (λ (xs : List ℕ). length xs == 0) (sym all) ∙ is)
