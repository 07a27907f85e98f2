-- Worked examples of the definitions, computed.
use Rattle.std.proofs.Common.{◌≡◌, ℕ, true, ◌+◌, ◌<◌, lit<, List, [], ◌∷◌, ◌++◌, codes, refl, arith}
use Rattle.std.specs.Prelude.{Bool, ◌&&◌, nat_lt, All}
use Rattle.std.proofs.lemmas.Bool.{and_parts, ltb-true}
use Rattle.std.proofs.lemmas.List.Elements.{All-cons, All-nil, All-weaker}
use Rattle.std.proofs.lemmas.List.Kept.{AllPairs-cons}
use Rattle.hex.proofs.OnLiterals.{hex_on_literals}
use Rattle.stm_image.specs.Canon.{canon, lines, line, parts_of_run}
use Rattle.stm_image.specs.Pairs.{Pairs, AddressesRise, Agree}
use Rattle.stm_image.specs.Record.{scan, scan_digits, flaw_of}
use Rattle.stm_image.specs.Text.{Means, FaultStands, RecordsPrecede, all_pairs, IsFault}
use Rattle.stm_image.specs.declared.faults.HexFault.{HexFault}
use Rattle.stm_image.specs.declared.faults.HexFault.TheVariants.{BadDigit, Short, Checksum, Kind, Length, Conflict, NoEnd, NoColon}
use Rattle.stm_image.proofs.Sets.{agree_rising, set_rising}

-- whether addresses rise above a least one, as a test that computes
abbrev rising_from : ℕ → Pairs → Bool
rising_from least [] = true
rising_from least ((a, b) ∷ rest) = nat_lt least (a + 1) && rising_from (a + 1) rest

above : (least : ℕ) (pairs : Pairs) → rising_from least pairs ≡ true → All (λ p. least < p.0 + 1) pairs
above least [] passes = All-nil (λ p. least < p.0 + 1)
above least ((a, b) ∷ rest) passes =
    let parts = and_parts (nat_lt least (a + 1)) (rising_from (a + 1) rest) passes in
    let first = ltb-true least (a + 1) parts.0 in
    All-cons (λ p. least < p.0 + 1) (a, b) rest first (All-weaker (λ p. a + 1 < p.0 + 1) (λ p. least < p.0 + 1) (λ p lt. omega arith) rest (above (a + 1) rest parts.1))

rises : (least : ℕ) (pairs : Pairs) → rising_from least pairs ≡ true → AddressesRise pairs
rises least [] passes = λ i j d lt within. absurd (omega arith)
rises least ((a, b) ∷ rest) passes =
    let parts = and_parts (nat_lt least (a + 1)) (rising_from (a + 1) rest) passes in
    AllPairs-cons (λ p q. p.0 < q.0) (a, b) rest (All-weaker (λ p. a + 1 < p.0 + 1) (λ p. a < p.0) (λ p lt. omega arith) rest (above (a + 1) rest parts.1)) (rises (a + 1) rest parts.1)

-- a text that means pairs at rising addresses, each once
crlf : List ℕ
crlf = 13 ∷ 10 ∷ []

upper : List ℕ
upper = 2 ∷ 0 ∷ 0 ∷ 4 ∷ 8 ∷ 0 ∷ 242 ∷ []

four : List ℕ
four = 4 ∷ 0 ∷ 0 ∷ 0 ∷ 1 ∷ 2 ∷ 3 ∷ 4 ∷ 242 ∷ []

four_follow : RecordsPrecede (codes ":020000040800F2" ++ crlf ++ codes ":0400000001020304F2" ++ crlf ++ codes ":00000001FF" ++ crlf) (upper ∷ four ∷ []) (crlf ++ codes ":00000001FF" ++ crlf)
unfolding scan scan_digits hex_on_literals crlf upper four flaw_of
four_follow = (_, refl, refl, (λ e. omega arith), (_, refl, refl, (λ e. omega arith), refl))

four_bytes : Means (codes ":020000040800F2" ++ crlf ++ codes ":0400000001020304F2" ++ crlf ++ codes ":00000001FF" ++ crlf) ((134217728, 1) ∷ (134217729, 2) ∷ (134217730, 3) ∷ (134217731, 4) ∷ [])
unfolding scan scan_digits hex_on_literals crlf upper four flaw_of
four_bytes = record {
  records = upper ∷ four ∷ [];
  rest = crlf ++ codes ":00000001FF" ++ crlf;
  follows = four_follow;
  last = 0 ∷ 0 ∷ 0 ∷ 1 ∷ 255 ∷ [];
  after = crlf;
  stops = refl;
  flawless = refl;
  ends = refl;
  agree = agree_rising (all_pairs (upper ∷ four ∷ [])) (rises 0 (all_pairs (upper ∷ four ∷ [])) refl);
  is_set = set_rising (all_pairs (upper ∷ four ∷ [])) (rises 0 (all_pairs (upper ∷ four ∷ [])) refl);
}

four_written : canon ((134217728, 1) ∷ (134217729, 2) ∷ (134217730, 3) ∷ (134217731, 4) ∷ []) ≡ codes ":020000040800F2\n:0400000001020304F2\n:00000001FF\n"
unfolding canon lines line parts_of_run hex_on_literals
four_written = refl

edge_written : canon ((134283263, 17) ∷ (134283264, 34) ∷ []) ≡ codes ":020000040800F2\n:01FFFF0011F0\n:020000040801F1\n:0100000022DD\n:00000001FF\n"
unfolding canon lines line parts_of_run hex_on_literals
edge_written = refl

nothing_written : canon [] ≡ codes ":00000001FF\n"
unfolding canon lines line parts_of_run hex_on_literals
nothing_written = refl

-- the offset of segment form wraps
segment_wraps : all_pairs ((2 ∷ 0 ∷ 0 ∷ 2 ∷ 18 ∷ 0 ∷ 234 ∷ []) ∷ (2 ∷ 255 ∷ 255 ∷ 0 ∷ 170 ∷ 187 ∷ 155 ∷ []) ∷ []) ≡ (139263, 170) ∷ (73728, 187) ∷ []
segment_wraps = refl

-- one address with two bytes
fives : List ℕ
fives = 1 ∷ 0 ∷ 0 ∷ 0 ∷ 85 ∷ 170 ∷ []

sixes : List ℕ
sixes = 1 ∷ 0 ∷ 0 ∷ 0 ∷ 86 ∷ 169 ∷ []

different : (a b : ℕ) → a < b → a ≡ b → ⊥
different a b lt same = omega arith

they_differ : ¬ Agree (all_pairs (fives ∷ sixes ∷ []))
unfolding fives sixes
they_differ agree = different 85 86 (lit< tt) (agree 0 85 86 (0, lit< tt, refl) (1, lit< tt, refl))

conflict : FaultStands (codes ":0100000055AA" ++ codes ":0100000056A9" ++ codes ":00000001FF") (Conflict 2)
unfolding scan scan_digits hex_on_literals fives sixes flaw_of
conflict = record {
  records = fives ∷ [];
  rest = codes ":0100000056A9" ++ codes ":00000001FF";
  follows = (_, refl, refl, (λ e. omega arith), refl);
  agree = agree_rising (all_pairs (fives ∷ [])) (rises 0 (all_pairs (fives ∷ [])) refl);
  is = (refl, record { next = sixes; after = codes ":00000001FF"; stands = refl; flawless = refl; differs = they_differ; goes_on = λ e. omega arith });
}

-- a text whose first record is at fault
at_first : (text : List ℕ) (fault : HexFault) → IsFault [] text fault → FaultStands text fault
at_first text fault is = record { records = []; rest = text; follows = refl; agree = agree_rising [] (rises 0 [] refl); is = is }

empty : FaultStands [] (NoEnd 1)
unfolding scan
empty = at_first _ _ refl

short : FaultStands (codes ":02000002120") (Short 1)
unfolding scan scan_digits hex_on_literals
short = at_first _ _ refl

bad_digit : FaultStands (codes ":0G") (BadDigit 1)
unfolding scan scan_digits hex_on_literals
bad_digit = at_first _ _ refl

no_colon : FaultStands (codes "x") (NoColon 1)
unfolding scan
no_colon = at_first _ _ refl

unknown_type : FaultStands (codes ":00000006FA") (Kind 1)
unfolding scan scan_digits hex_on_literals flaw_of
unknown_type = at_first _ _ refl

checksum_before_type : FaultStands (codes ":00000006FB") (Checksum 1)
unfolding scan scan_digits hex_on_literals flaw_of
checksum_before_type = at_first _ _ refl

wrong_length : FaultStands (codes ":0100000100FE") (Length 1)
unfolding scan scan_digits hex_on_literals flaw_of
wrong_length = at_first _ _ refl
