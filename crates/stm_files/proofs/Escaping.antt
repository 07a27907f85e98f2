-- A text that is escaped piece by piece is escaped, and has no control character.
use Rattle.std.proofs.Common.{◌≡◌, ◌⊎◌, inl, inr, ℕ, ◌<◌, ◌≤◌, ◌/◌, ◌%◌, ◌==◌, if◌then◌else◌, Bool, true, false, ◌&&◌, List, [], ◌∷◌, ◌++◌, length, Option, Some, None, option_map, Result, Ok, Err, OnOk, refl, sym, ◌∙◌, ap, subst, arith, append-nil}
use Rattle.std.specs.Char.{digit_char, encode_utf8, is_control}
use Rattle.std.specs.List.{All, FoldsTo, concat, flat_map}
use Rattle.std.specs.Str.{IsUtf8, chars, encode_utf8_all}
use Rattle.std.specs.declared.fmt.Error.{Error}
use Rattle.std.specs.declared.fmt.Formatter.{Formatter}
use Rattle.std.specs.Fmt.{DisplaysOnOk, HasWritten, IsPlainFormatter, WritesInCalls, WritesText}
use Rattle.std.proofs.Output.{has_written_append, writes_in_calls_nil}
use Rattle.std.proofs.lemmas.Bool.{and_parts, cases_lt}
use Rattle.std.proofs.lemmas.Bool.Decides.{nat_tests}
use Rattle.std.proofs.lemmas.Str.{chars-append, chars-encodes, chars-nil, chars_past_char, encodes-append, inside_one, scalars-chars}
use Rattle.std.proofs.lemmas.List.Concat.{flat_map-append}
use Rattle.std.proofs.lemmas.List.Elements.{All-append, All-cons, All-from_get_or, All-nil, All-same}
use lib.Utf8.{low_scalar, scalar, scalars}
use Rattle.stm_files.specs.Escaped.{EscapedIsOneLine, IsPrinted, escaped, number_escape, shown}

-- two texts, one behind the other
pub escaped-append : (a b : List ℕ) → IsUtf8 a → escaped (a ++ b) ≡ escaped a ++ escaped b
escaped-append a b is =
    ap (λ (cs : List ℕ). encode_utf8_all (flat_map shown cs)) (chars-append a b is)
    ∙ ap encode_utf8_all (flat_map-append shown (chars a) (chars b))
    ∙ encodes-append (flat_map shown (chars a)) (flat_map shown (chars b))

-- a character, and what stands behind it
pub escaped-step : (text rest : List ℕ) (c : ℕ) → IsUtf8 text → text ≡ encode_utf8 c ++ rest → escaped text ≡ encode_utf8_all (shown c) ++ escaped rest
escaped-step text rest c is splits =
    ap (λ (cs : List ℕ). encode_utf8_all (flat_map shown cs)) (chars_past_char text rest c is splits)
    ∙ encodes-append (shown c) (flat_map shown (chars rest))

pub escaped-nil : escaped [] ≡ []
escaped-nil = ap (λ (cs : List ℕ). encode_utf8_all (flat_map shown cs)) chars-nil

pub escaped-none : (text : List ℕ) → length text ≡ 0 → escaped text ≡ []
escaped-none [] is = escaped-nil
escaped-none (byte ∷ text) is = absurd (omega (arith, is))

-- A writer that hands each piece on, escaped, to a formatter: it hands on the whole, escaped.
module _ {S W N : Type 0} (took : W → List ℕ → W → Type 0) (name : S → N) (to : S → Formatter W) where
  abbrev pub HandsOn : S → List ℕ → S → Type 0
  HandsOn s bytes t = (name t ≡ name s) × IsUtf8 bytes × (IsPlainFormatter (to s) → HasWritten took (to s) (escaped bytes) (to t))

  record Handed (s : S) (bytes : List ℕ) (t : S) : Type 0 where
    pub same : name t ≡ name s
    pub wrote : IsPlainFormatter (to s) → HasWritten took (to s) (escaped bytes) (to t)

  handed-all : (s : S) (pieces : List (List ℕ)) (t : S) → FoldsTo HandsOn s pieces t → Handed s (concat pieces) t
  handed-all s [] t is =
      let H : S → Type 0 = λ x. Handed s [] x in
      let W : List ℕ → Type 0 = λ bytes. HasWritten took (to s) bytes (to s) in
      subst H is (record { same = refl; wrote = λ plain. subst W (sym escaped-nil) (record { wrote = writes_in_calls_nil _ _; plain = plain }) })
  handed-all s (piece ∷ pieces) t (mid, (same, is, wrote), rest) =
      let later = handed-all mid pieces t rest in
      record {
        same = later.same ∙ same;
        wrote = λ plain.
            let first = wrote plain in
            rw (escaped-append piece (concat pieces) is) (has_written_append _ _ _ _ _ _ first (later.wrote first.plain));
      }

  handed-whole : (s : S) (bytes : List ℕ) (t : S) → WritesInCalls HandsOn s bytes t → Handed s bytes t
  handed-whole s bytes t is = let H : List ℕ → Type 0 = λ all. Handed s all t in subst H is.whole (handed-all s is.parts t is.calls)

  pub displays : (text : Option (List ℕ)) (s t : S) (f g : Formatter W) (result : Result (Unit {0}) Error) → to s ≡ f → (name t ≡ name s → to t ≡ g)
      → OnOk result (WritesText HandsOn s text t) → DisplaysOnOk took f result (option_map escaped text) g
  displays None s t f g result first last wrote = tt
  displays (Some bytes) s t f g (Err e) first last wrote = λ plain ok. absurd (cc)
  displays (Some bytes) s t f g (Ok x) first last wrote =
      λ plain ok.
      let whole = handed-whole s bytes t wrote in
      rw first at (rw (last whole.same) at (whole.wrote (rw first plain)))

-- a character that is printed
record IsPlain (c : ℕ) : Type 0 where
  kept : is_control c ≡ false
  code : scalar c ≡ true

abbrev ArePlain : List ℕ → Type 0
ArePlain [] = Unit {0}
ArePlain (c ∷ cs) = IsPlain c × ArePlain cs

plain-append : (a b : List ℕ) → ArePlain a → ArePlain b → ArePlain (a ++ b)
plain-append [] b first second = second
plain-append (c ∷ a) b (is, first) second = (is, plain-append a b first second)

ascii-plain : (c : ℕ) → 32 ≤ c → c < 127 → IsPlain c
ascii-plain c above below = record { kept = grind (arith, nat_tests); code = low_scalar c (omega arith) }

digit-plain : (d : ℕ) → d < 16 → IsPlain (digit_char d)
digit-plain d small =
    let above : 32 ≤ digit_char d = grind (arith, nat_tests) in
    let below : digit_char d < 127 = grind (arith, nat_tests) in
    ascii-plain (digit_char d) above below

number-plain : (c : ℕ) → is_control c ≡ true → ArePlain (number_escape c)
number-plain c is =
    let small : c < 160 = grind (arith, nat_tests) in
    (ascii-plain 0x5C (omega arith) (omega arith), (ascii-plain 0x78 (omega arith) (omega arith), (digit-plain (c / 16) (omega arith), (digit-plain (c % 16) (omega arith), tt))))

either : (b : Bool) (x y : List ℕ) → (b ≡ true → ArePlain x) → (b ≡ false → ArePlain y) → ArePlain (if b then x else y)
either true x y one two = one refl
either false x y one two = two refl

letter-plain : (c : ℕ) → 32 ≤ c → c < 127 → ArePlain (0x5C ∷ c ∷ [])
letter-plain c above below = (ascii-plain 0x5C (omega arith) (omega arith), (ascii-plain c above below, tt))

shown-plain : (c : ℕ) → scalar c ≡ true → ArePlain (shown c)
shown-plain c code =
    either (c == 0x0A) _ _ (λ is. letter-plain 0x6E (omega arith) (omega arith)) (λ no.
    either (c == 0x09) _ _ (λ is. letter-plain 0x74 (omega arith) (omega arith)) (λ no.
    either (c == 0x0D) _ _ (λ is. letter-plain 0x72 (omega arith) (omega arith)) (λ no.
    either (is_control c) _ _ (λ is. number-plain c is) (λ kept. (record { kept = kept; code = code }, tt)))))

all-plain : (cs : List ℕ) → scalars cs ≡ true → ArePlain (flat_map shown cs)
all-plain [] codes = tt
all-plain (c ∷ cs) codes =
    let is = and_parts (scalar c) (scalars cs) codes in
    plain-append (shown c) (flat_map shown cs) (shown-plain c is.0) (all-plain cs is.1)

plain-codes : (cs : List ℕ) → ArePlain cs → scalars cs ≡ true
plain-codes [] plain = refl
plain-codes (c ∷ cs) (is, plain) = ap (λ b. b && scalars cs) is.code ∙ plain-codes cs plain

plain-kept : (cs : List ℕ) → ArePlain cs → All (λ c. is_control c ≡ false) cs
plain-kept [] plain = All-nil (λ c. is_control c ≡ false)
plain-kept (c ∷ cs) (is, plain) = All-cons (λ c. is_control c ≡ false) c cs is.kept (plain-kept cs plain)

-- the bytes of one, and of all
byte-printed : (c byte : ℕ) → is_control c ≡ false → (byte < 128 → c ≡ byte) → IsPrinted byte
byte-printed c byte kept same = by-size (cases_lt byte 128)
  where
    by-size : (byte < 128) ⊎ (128 ≤ byte) → IsPrinted byte
    by-size (inr large) = record { high = omega (arith, large); kept = λ is. absurd (omega (arith, large, is)) }
    by-size (inl small) =
        let own : is_control byte ≡ false = ap is_control (sym (same small)) ∙ kept in
        record { high = grind (arith, nat_tests); kept = λ is. absurd (cc (ap is_control (sym is) ∙ own)) }

one-printed : (c : ℕ) → IsPlain c → All IsPrinted (encode_utf8 c)
one-printed c is = All-from_get_or IsPrinted (encode_utf8 c) 0 (λ k within. byte-printed c _ is.kept (λ low. inside_one c [] (encode_utf8 c) k (sym (append-nil (encode_utf8 c))) within low))

plain-printed : (cs : List ℕ) → ArePlain cs → All IsPrinted (encode_utf8_all cs)
plain-printed [] plain = All-nil IsPrinted
plain-printed (c ∷ cs) (is, plain) = All-append IsPrinted (encode_utf8 c) (encode_utf8_all cs) (one-printed c is) (plain-printed cs plain)

pub escaped-is-one-line : EscapedIsOneLine
escaped-is-one-line text is =
    let plain = all-plain (chars text) (scalars-chars text is) in
    record {
      bytes = plain-printed (flat_map shown (chars text)) plain;
      characters = All-same (λ c. is_control c ≡ false) _ _ (chars-encodes (flat_map shown (chars text)) (plain-codes (flat_map shown (chars text)) plain)) (plain-kept (flat_map shown (chars text)) plain);
    }
