-- Which record has a byte, and that a clash there is its conflict.
use Rattle.std.proofs.Common.{◌≡◌, ℕ, suc, ◌+◌, ◌-◌, ◌≤◌, ◌++◌, List, [], ◌∷◌, length, take, drop, Bool, if◌then◌else◌, Option, refl, sym, ap, ◌∙◌, subst, length-append, length-drop, arith}
use Rattle.std.proofs.lemmas.Bool.{eq-eqb}
use Rattle.std.proofs.lemmas.List.{length-take, take_all, take-append-drop}
use Rattle.std.proofs.lemmas.List.Elements.{Contains-append_left}
use Rattle.stm_image.specs.Clash.{IsClash}
use Rattle.stm_image.specs.Pairs.{Pairs, Agree}
use Rattle.stm_image.specs.Reads.{Reads, HasByte, IsByteOfRecord}
use Rattle.stm_image.specs.Record.{kind_of, offset_of, data_of}
use Rattle.stm_image.specs.Text.{FaultStands, all_pairs, pairs_from, pairs_of, form_of}
use Rattle.stm_image.specs.declared.faults.HexFault.{HexFault}
use Rattle.stm_image.specs.declared.faults.HexFault.TheVariants.{Conflict}
use Rattle.stm_image.specs.declared.place.Form.{Form}
use Rattle.stm_image.specs.declared.place.Form.TheVariants.{Linear}
use Rattle.stm_image.proofs.Reading.{Follows-snoc, placed-snoc}
use Rattle.stm_image.proofs.Sets.{agree_among}
use Rattle.stm_image.proofs.Standing.{take_shorter}
use Rattle.stm_image.proofs.Verdicts.{same_up_to}

length-pairs_from : (form : Form) (offset : ℕ) (bytes : List ℕ) → length (pairs_from form offset bytes) ≡ length bytes
length-pairs_from form offset [] = refl
length-pairs_from form offset (b ∷ bytes) = ap (λ n. suc n) (length-pairs_from form (offset + 1) bytes)

-- how many pairs a data record has
pub length-pairs_of : (form : Form) (r : List ℕ) → 5 ≤ length r → kind_of r ≡ 0 → length (pairs_of form r) ≡ length r - 5
length-pairs_of form r least zero_kind =
    let dropped = length-drop 4 r in
    let taken = length-take (length r - 5) (drop 4 r) in
    let own : length (data_of r) ≡ length r - 5 = omega arith in
    ap (λ (t : Bool). length (if t then pairs_from form (offset_of r) (data_of r) else [])) (eq-eqb (kind_of r) 0 zero_kind) ∙ length-pairs_from form (offset_of r) (data_of r) ∙ own

-- one record more
pub length-placed : (records : List (List ℕ)) (r : List ℕ) → length (all_pairs (records ++ r ∷ [])) ≡ length (all_pairs records) + length (pairs_of (form_of (Linear 0) records) r)
length-placed records r = ap (λ (ps : Pairs). length ps) (placed-snoc (Linear 0) records r) ∙ length-append (all_pairs records) (pairs_of (form_of (Linear 0) records) r)

-- a pass reaches each place of its pairs
pub has_byte : (text : List ℕ) (pairs : Pairs) (stop : Option HexFault) (place : ℕ) → Reads text pairs stop → IsClash pairs place → HasByte text place
has_byte text pairs stop place reads clash =
    let same = ap (λ (ps : Pairs). length ps) reads.pairs_are in
    let within = clash.within in
    record { records = reads.records; rest = reads.rest; follows = reads.follows; within = omega arith }

-- the front of some pairs
pub agree_front : (front back : Pairs) → Agree (front ++ back) → Agree front
agree_front front back agree = agree_among (front ++ back) front (λ q. Contains-append_left front back q) agree

agree_taken : (n : ℕ) (pairs : Pairs) → Agree pairs → Agree (take n pairs)
agree_taken n pairs agree = agree_front (take n pairs) (drop n pairs) (subst Agree (sym (take-append-drop n pairs)) agree)

-- the record of the first place where pairs clash conflicts
pub conflict_stands : (text : List ℕ) (pairs : Pairs) (stop : Option HexFault) (place n : ℕ) → Reads text pairs stop → IsClash pairs place → IsByteOfRecord text place n → FaultStands text (Conflict n)
conflict_stands text pairs stop place n reads clash found =
    let records = found.records in
    let next = found.next in
    let within = clash.within in
    let reached = found.within in
    let long = ap (λ (ps : Pairs). length ps) reads.pairs_are in
    let more = found.records ++ next ∷ [] in
    let follows = Follows-snoc text records found.rest next found.after found.follows found.stands found.flawless found.goes_on in
    let up_to : take (place + 1) pairs ≡ take (place + 1) (all_pairs more) =
    ap (λ (ps : Pairs). take (place + 1) ps) reads.pairs_are ∙ same_up_to text reads.records reads.rest more found.after (place + 1) reads.follows follows (omega arith) (omega arith) in
    let before : take (length (all_pairs records)) pairs ≡ all_pairs records =
    ap (λ (ps : Pairs). take (length (all_pairs records)) ps) reads.pairs_are
    ∙ same_up_to text reads.records reads.rest records found.rest (length (all_pairs records)) reads.follows found.follows (omega (arith, found.before)) (omega arith)
    ∙ take_all (length (all_pairs records)) (all_pairs records) (omega arith) in
    let shorter : take (length (all_pairs records)) (take place pairs) ≡ take (length (all_pairs records)) pairs = take_shorter (length (all_pairs records)) place pairs found.before in
    record {
      records = records;
      rest = found.rest;
      follows = found.follows;
      agree = subst Agree (shorter ∙ before) (agree_taken (length (all_pairs records)) (take place pairs) clash.agree);
      is = (
        found.number,
        record {
          next = next;
          after = found.after;
          stands = found.stands;
          flawless = found.flawless;
          differs = λ agree. clash.differs (subst Agree (sym up_to) (agree_taken (place + 1) (all_pairs more) agree));
          goes_on = found.goes_on;
        },
      );
    }
