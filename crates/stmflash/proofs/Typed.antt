-- What is typed, byte by byte.
use Rattle.std.proofs.Common.{◌≡◌, ◌+◌, ℕ, min, List, [], ◌∷◌, ◌++◌, length, take}
use Rattle.std.proofs.Common.{Option, Some, None, refl, sym, ◌∙◌, ap, subst, arith}
use Rattle.std.proofs.Common.{inl, inr, append_assoc, length-append, length-take, take_all}
use Rattle.std.specs.Io.KnownBytes.{Consumes}
use Rattle.std.proofs.lemmas.Bool.{cases_lt}
use Rattle.std.proofs.lemmas.List.{take-append-le}
use Rattle.stmflash.specs.Confirmation.{HasTyped}

consumes_none : (known : Option (List ℕ)) → Consumes known known []
consumes_none None = tt
consumes_none (Some xs) = refl

-- one run of bytes behind another
pub consumes_more : (a b c : Option (List ℕ)) (line more : List ℕ) → Consumes a b line
    → Consumes b c more → Consumes a c (line ++ more)
consumes_more None b c line more first next = tt
consumes_more (Some xs) None c line more first next = absurd first
consumes_more (Some xs) (Some ys) None line more first next = absurd next
consumes_more (Some xs) (Some ys) (Some zs) line more first next =
    first ∙ ap (λ (bs : List ℕ). line ++ bs) next ∙ sym (append_assoc line more zs)

pub nothing_typed : (known : Option (List ℕ)) (buf : List ℕ) → HasTyped known known [] buf 0
nothing_typed known buf = record {
  taken = consumes_none known;
  count_is = omega arith;
  bytes = refl;
}

-- what is kept of a line with a byte more
kept_more : (line : List ℕ) (byte room count kept : ℕ) → count ≡ min (length line) room
    → kept ≡ min (count + 1) room
    → take kept (take count line ++ byte ∷ []) ≡ take kept (line ++ byte ∷ [])
kept_more line byte room count kept is more = elim (cases_lt room (length line)) [
  | inl over ↦
      let same : kept ≡ count = omega (arith, is, more, over) in
      let P : ℕ → Type 0 = λ n.
      take n (take count line ++ byte ∷ []) ≡ take n (line ++ byte ∷ []) in
      subst P (sym same)
      (take-append-le count (take count line) (byte ∷ [])
      (omega (arith, is, over, length-take count line))
      ∙ take_all count (take count line) (omega (arith, length-take count line))
      ∙ sym (take-append-le count line (byte ∷ []) (omega (arith, is, over))))
  | inr fits ↦
      ap (λ (bs : List ℕ). take kept (bs ++ byte ∷ []))
      (take_all count line (omega (arith, is, fits)))
]

-- a byte more was taken, and kept where there is room
pub typed_more : (old now new : Option (List ℕ)) (line buf buf2 : List ℕ) (count kept byte : ℕ)
    → HasTyped old now line buf count → Consumes now new (byte ∷ []) → length buf2 ≡ length buf
    → kept ≡ min (count + 1) (length buf)
    → take kept buf2 ≡ take kept (take count buf ++ byte ∷ [])
    → HasTyped old new (line ++ byte ∷ []) buf2 kept
typed_more old now new line buf buf2 count kept byte has taken same more bytes = record {
  taken = consumes_more old now new line (byte ∷ []) has.taken taken;
  count_is = omega (arith, has.count_is, more, same, length-append line (byte ∷ []));
  bytes =
      bytes ∙ ap (λ (bs : List ℕ). take kept (bs ++ byte ∷ [])) has.bytes
      ∙ kept_more line byte (length buf) count kept has.count_is more;
}
