-- Several images as one: their runs, and where two of them differ.
use Rattle.std.proofs.Common.{◌≡◌, inl, inr, ℕ, zero, suc, ◌+◌, ◌-◌, ◌<◌, List, [], ◌∷◌, ◌++◌, length, slice_index, Some, refl, sym, ap, ◌∙◌, subst, append_assoc, arith}
use Rattle.std.specs.Prelude.{Contains, IfSome, slice_get}
use Rattle.std.proofs.lemmas.Bool.{cases_eq, cases_lt}
use Rattle.std.proofs.lemmas.List.{append-nil}
use Rattle.std.proofs.lemmas.Option.{slice_get_within}
use Rattle.std.proofs.lemmas.List.Elements.{Contains-append_cases}
use Rattle.stm_image.specs.Joined.{DifferIn, IsLikeAll, all_pairs_of}
use Rattle.stm_image.specs.Layout.{AllAgree, HasDifference}
use Rattle.stm_image.specs.Pairs.{Pairs, AddressesRise, Agree}
use Rattle.stm_image.specs.Pieces.{pairs_at, piece_bytes}
use Rattle.stm_image.specs.declared.pieces.Piece.{Piece}
use Rattle.stm_image.proofs.Lying.{holds_piece, piece_of, raw_holds, raw_lies}
use Rattle.stm_image.proofs.Overlaps.{byte_held, held_at}
use Rattle.stm_image.proofs.Sets.{agree_rising}

pub all_pairs_of-snoc : (front : List Pairs) (image : Pairs) → all_pairs_of (front ++ image ∷ []) ≡ all_pairs_of front ++ image
all_pairs_of-snoc [] image = append-nil image
all_pairs_of-snoc (other ∷ front) image = ap (λ (ps : Pairs). other ++ ps) (all_pairs_of-snoc front image) ∙ sym (append_assoc other (all_pairs_of front) image)

-- a set that agrees with the runs of another doesn't differ from it
pub none_differ : (set : Pairs) (bytes : List ℕ) (list : List Piece) (address : ℕ) → AllAgree set bytes list → ¬ DifferIn set (pairs_at bytes list) address
none_differ set bytes list address agree d =
    let found = piece_of bytes list (address, d.another) (held_at (pairs_at bytes list) address d.another d.held_too) in
    let p = found.0 in
    let lies = raw_lies p.first (piece_bytes bytes p) (address, d.another) found.2 in
    agree p found.1 address (record { byte = d.byte; held = d.held; from = lies.from; within = lies.to; differs = λ e. d.differs (sym e ∙ lies.byte) })

-- and one that doesn't does
pub differ_here : (set : Pairs) (bytes : List ℕ) (list : List Piece) (place : ℕ) → AddressesRise (pairs_at bytes list) → HasDifference set bytes list place → DifferIn set (pairs_at bytes list) place
differ_here set bytes list place rises has =
    let p = has.piece in
    let d = has.differs in
    let from = d.from in
    let within = d.within in
    let own = piece_bytes bytes p in
    let i = place - p.first in
    let at : p.first + i ≡ place = omega arith in
    record {
      byte = d.byte;
      another = slice_index own i;
      held = d.held;
      held_too = byte_held (pairs_at bytes list) place (slice_index own i) rises (holds_piece bytes list p (place, slice_index own i) has.held (rw at at (raw_holds p.first own i (omega arith))));
      differs = λ e. d.differs (sym e);
    }

-- which image has a pair
record IsOf (images : List Pairs) (q : ℕ × ℕ) : Type 0 where
  pub place : ℕ
  pub image : Pairs
  pub is : slice_get images place ≡ Some image
  pub has : Contains image q

image_of : (images : List Pairs) (q : ℕ × ℕ) → Contains (all_pairs_of images) q → IsOf images q
image_of [] q held = absurd (omega (arith, held.1))
image_of (image ∷ images) q held = elim (Contains-append_cases image (all_pairs_of images) q held) [
  | inl here ↦ record { place = zero; image = image; is = refl; has = here }
  | inr later ↦ let found = image_of images q later in record { place = suc found.place; image = found.image; is = found.is; has = found.has }
]

rises_at : (images : List Pairs) (k : ℕ) (image : Pairs) → slice_get images k ≡ Some image → IfSome (slice_get images k) AddressesRise → AddressesRise image
rises_at images k image is rises = subst (λ o. IfSome o AddressesRise) is rises

-- images of which none differs from one before it agree
pub all_alike : (images : List Pairs) → ((k : ℕ) → k < length images → IsLikeAll images k) → Agree (all_pairs_of images)
all_alike images alike a b c in_b in_c = elim (cases_eq b c) [
  | inl same ↦ same
  | inr other ↦
      let one = image_of images (a, b) in_b in
      let two = image_of images (a, c) in_c in
      elim (cases_lt one.place two.place) [
        | inl before ↦ absurd (unlike one.place two.place b c one.image two.image before other one.is two.is one.has two.has)
        | inr after ↦ elim (cases_eq one.place two.place) [
          | inl together ↦
              let both : Some one.image ≡ Some two.image = sym one.is ∙ ap (slice_get images) together ∙ two.is in
              let same : one.image ≡ two.image = cc in
              agree_rising two.image (rising two.place two.image two.is) a b c (subst (λ (i : Pairs). Contains i (a, b)) same one.has) two.has
          | inr apart ↦ absurd (unlike two.place one.place c b two.image one.image (omega arith) (λ e. other (sym e)) two.is one.is two.has one.has)
        ]
      ]
]
  where
    rising : (k : ℕ) (image : Pairs) → slice_get images k ≡ Some image → AddressesRise image
    rising k image is = rises_at images k image is (alike k (slice_get_within images k image is)).rises

    unlike : (i j x y : ℕ) (one two : Pairs) → i < j → (x ≡ y → ⊥) → slice_get images i ≡ Some one → slice_get images j ≡ Some two → Contains one (a, x) → Contains two (a, y) → ⊥
    unlike i j x y one two before other is_one is_two has_one has_two =
        (alike j (slice_get_within images j two is_two)).alike i a record {
          one = one;
          other = two;
          earlier = before;
          is_one = is_one;
          is_other = is_two;
          differ = record { byte = x; another = y; held = byte_held one a x (rising i one is_one) has_one; held_too = byte_held two a y (rising j two is_two) has_two; differs = other };
        }
