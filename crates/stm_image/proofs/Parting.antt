-- A part of an image, run by run.
use Rattle.std.proofs.Common.{◌≡◌, inl, inr, ℕ, ◌+◌, ◌-◌, ◌<◌, ◌≤◌, List, [], ◌∷◌, ◌++◌, length, take, slice_index, ap₂, ◌∙◌, sym, arith}
use Rattle.std.specs.Prelude.{Contains}
use Rattle.std.proofs.lemmas.List.{get_or-take, length-take}
use Rattle.std.proofs.lemmas.List.Elements.{Contains-append_left, Contains-append_right, Contains-append_cases}
use Rattle.stm_image.specs.Pairs.{Pairs, AddressesRise, raw_pairs}
use Rattle.stm_image.specs.Part.{IsWithPart}
use Rattle.stm_image.specs.Pieces.{Stand, next_apart, pairs_at, pairs_of_piece, piece_bytes, piece_size}
use Rattle.stm_image.specs.Runs.{IsRunFrom}
use Rattle.stm_image.specs.declared.pieces.Piece.{Piece}
use Rattle.stm_image.proofs.Lying.{length-bytes_at, raw_holds, raw_lies, rises_across, rises_back}
use Rattle.stm_image.proofs.Standing.{Stand-le}

-- where a pair of the set stands, beside a run
data Beside (at start : ℕ) (bytes : List ℕ) (q : ℕ × ℕ) : Type 0 where
  before : q.0 < at → Beside at start bytes q
  here : Contains (raw_pairs start bytes) q → Beside at start bytes q
  behind : start + length bytes ≤ q.0 → Beside at start bytes q

beside : (set : Pairs) (at start : ℕ) (bytes : List ℕ) (q : ℕ × ℕ) → AddressesRise set → IsRunFrom set at start bytes → Contains set q → Beside at start bytes q
beside set at start bytes q rises run held =
    elim (Contains-append_cases run.front (raw_pairs start bytes ++ run.back) q (rw run.whole at held)) [
      | inl early ↦ before (run.before q early)
      | inr more ↦ elim (Contains-append_cases (raw_pairs start bytes) run.back q more) [
        | inl own ↦ here own
        | inr late ↦
            let some = run.some in
            let last = raw_holds start bytes (length bytes - 1) (omega arith) in
            let parts = rises_back run.front (raw_pairs start bytes ++ run.back) (rw run.whole at rises) in
            let up = rises_across (raw_pairs start bytes) run.back _ q parts last late in
            behind (omega arith)
      ]
    ]

-- the front of a run more
pub part_more : (old set laid more : Pairs) (start at first k : ℕ) (bytes : List ℕ) → AddressesRise set → IsRunFrom set at first bytes → k ≤ length bytes → start ≤ at
    → more ≡ laid ++ raw_pairs first (take k bytes) → IsWithPart old set start (at - start) laid → IsWithPart old set start (first + k - start) more
part_more old set laid more start at first k bytes rises run short low is so_far =
    let front = run.from in
    let own = raw_pairs first (take k bytes) in
    let size = length-take k bytes in
    rw is (record {
      among = λ p held. elim (Contains-append_cases laid own p held) [
        | inl early ↦ elim (so_far.among p early) [
          | inl was ↦ inl was
          | inr there ↦ let within = there.within in inr (record { held = there.held; from = there.from; within = omega arith })
        ]
        | inr new ↦
            let lies = raw_lies first (take k bytes) p new in
            let from = lies.from in
            let to = lies.to in
            inr (record { held = rw run.whole (Contains-append_right run.front (raw_pairs first bytes ++ run.back) p (Contains-append_left (raw_pairs first bytes) run.back p (longer p from (omega arith) lies.byte))); from = omega arith; within = omega arith })
      ];
      keeps = λ p held. Contains-append_left laid own p (so_far.keeps p held);
      adds = λ p there.
          let from = there.from in
          let within = there.within in
          elim (beside set at first bytes p rises run there.held) [
            | before early ↦ Contains-append_left laid own p (so_far.adds p (record { held = there.held; from = there.from; within = omega arith }))
            | here new ↦
                let lies = raw_lies first bytes p new in
                let low = lies.from in
                Contains-append_right laid own p (shorter p low (omega arith) lies.byte)
            | behind late ↦ absurd (omega arith)
          ];
    })
  where
    front_byte : (i : ℕ) → i < k → slice_index (take k bytes) i ≡ slice_index bytes i
    front_byte i lt = get_or-take k bytes i 0 lt

    pair : (s : ℕ) (bs : List ℕ) (p : ℕ × ℕ) → s ≤ p.0 → p.0 - s < length bs → slice_index bs (p.0 - s) ≡ p.1 → Contains (raw_pairs s bs) p
    pair s bs p from to byte =
        let place : s + (p.0 - s) ≡ p.0 = omega arith in
        let same : (s + (p.0 - s), slice_index bs (p.0 - s)) ≡ p = ap₂ (λ a b. (a, b)) place byte in
        rw same at (raw_holds s bs (p.0 - s) to)

    longer : (p : ℕ × ℕ) → first ≤ p.0 → p.0 < first + k → slice_index (take k bytes) (p.0 - first) ≡ p.1 → Contains (raw_pairs first bytes) p
    longer p from to byte = pair first bytes p from (omega arith) (sym (front_byte (p.0 - first) (omega arith)) ∙ byte)

    shorter : (p : ℕ × ℕ) → first ≤ p.0 → p.0 < first + k → slice_index bytes (p.0 - first) ≡ p.1 → Contains (raw_pairs first (take k bytes)) p
    shorter p from to byte = let size = length-take k bytes in pair first (take k bytes) p from (omega arith) (front_byte (p.0 - first) (omega arith) ∙ byte)

-- no place is left
pub part_all : (old set laid : Pairs) (start n size : ℕ) → n ≤ size → ((p : ℕ × ℕ) → Contains set p → p.0 < start + size → p.0 < start + n) → IsWithPart old set start n laid → IsWithPart old set start size laid
part_all old set laid start n size le none so_far =
    record {
      among = λ p held. elim (so_far.among p held) [
        | inl was ↦ inl was
        | inr there ↦ let within = there.within in inr (record { held = there.held; from = there.from; within = omega arith })
      ];
      keeps = so_far.keeps;
      adds = λ p there. so_far.adds p (record { held = there.held; from = there.from; within = none p there.held there.within });
    }

-- the next run lies behind them
pub part_far : (old set laid : Pairs) (start at first size : ℕ) (bytes : List ℕ) → AddressesRise set → IsRunFrom set at first bytes → start ≤ at → at ≤ start + size → start + size ≤ first
    → IsWithPart old set start (at - start) laid → IsWithPart old set start size laid
part_far old set laid start at first size bytes rises run low high far =
    part_all old set laid start (at - start) size (omega arith) (λ p held within. elim (beside set at first bytes p rises run held) [
      | before early ↦ omega arith
      | here own ↦ let from = (raw_lies first bytes p own).from in absurd (omega arith)
      | behind late ↦ absurd (omega arith)
    ])

-- behind all pairs one more piece is apart
pub behind_all : (bytes : List ℕ) (from to least start : ℕ) (ps : List Piece) → Stand from to ps → to ≤ length bytes → least ≤ start + 1 → ((p : ℕ × ℕ) → Contains (pairs_at bytes ps) p → p.0 < start) → next_apart least ps ≤ start + 1
behind_all bytes from to least start [] stand within low all = low
behind_all bytes from to least start (p ∷ ps) (place, order, fits, stand) within low all =
    let up = Stand-le (from + piece_size p) to ps stand in
    let long = length-bytes_at bytes p (omega arith) in
    let own = pairs_of_piece bytes p in
    let last = raw_holds p.first (piece_bytes bytes p) (piece_size p - 1) (omega arith) in
    let below = all _ (Contains-append_left own (pairs_at bytes ps) _ last) in
    behind_all bytes (from + piece_size p) to (p.last + 2) start ps stand within (omega arith) (λ q held. all q (Contains-append_right own (pairs_at bytes ps) q held))
