-- One byte that is another changes the CRC of a page: each step of the register can be undone.
use Rattle.std.proofs.Common.{◌≡◌, ℕ, ◌+◌, ◌*◌, ◌-◌, ◌<◌, ◌^◌, ◌%◌, List, [], ◌∷◌, ◌++◌, zero, suc, nat_le, if◌then◌else◌, Bool, true, false, length, refl, sym, ◌∙◌, ap, arith}
use Rattle.std.specs.Prelude.{bit_xor}
use Rattle.std.specs.Int.Bits.{xor_assoc, xor_self, xor_zero_r}
use Rattle.std.specs.Int.{bit_at}
use Rattle.std.proofs.lemmas.Nat.{xor_lt, xor_comm}
use Rattle.std.proofs.lemmas.Nat.Bits.{bit_at_xor, bit_at_lowest}
use Rattle.std.proofs.lemmas.Bool.{leb-true, leb-false}
use Rattle.stm_files.specs.Crc.{crc_from, crc_of, fed_word, moved, shifted, shifts, word_of, words_of}
use Rattle.stm_files.specs.PageSum.{AreBytes, page_sum, whole_words_of}

-- an exclusive or can be undone
xor-undone : (a b k : ℕ) → bit_xor a k ≡ bit_xor b k → a ≡ b
xor-undone a b k e = sym (back a) ∙ ap (λ (n : ℕ). bit_xor n k) e ∙ back b
  where
    back : (n : ℕ) → bit_xor (bit_xor n k) k ≡ n
    back n = xor_assoc n k k ∙ ap (λ (m : ℕ). bit_xor n m) (xor_self k) ∙ xor_zero_r n

-- the polynomial is odd, and a register that moved up is even
odd : (n : ℕ) → n % 2 ≡ 0 → bit_xor n 0x04C11DB7 % 2 ≡ 1
odd n even =
    let at : bit_at (bit_xor n 0x04C11DB7) 0 ≡ (bit_at n 0 + bit_at 0x04C11DB7 0) % 2 = bit_at_xor n 0x04C11DB7 0 in
    let low : bit_at n 0 ≡ 0 = bit_at_lowest n ∙ even in
    let one : bit_at 0x04C11DB7 0 ≡ 1 = bit_at_lowest 0x04C11DB7 in
    sym (bit_at_lowest (bit_xor n 0x04C11DB7)) ∙ at ∙ ap (λ (m : ℕ). (m + bit_at 0x04C11DB7 0) % 2) low ∙ ap (λ (m : ℕ). (0 + m) % 2) one

-- what the register becomes, by whether its highest bit is set
step : Bool → ℕ → ℕ
step true n = bit_xor (n * 2 % 2 ^ 32) 0x04C11DB7
step false n = n * 2 % 2 ^ 32

moved-step : (n : ℕ) → moved n ≡ step (nat_le (2 ^ 31) n) n
unfolding step
moved-step n = at (nat_le (2 ^ 31) n)
  where
    at : (b : Bool) → (if b then bit_xor (n * 2 % 2 ^ 32) 0x04C11DB7 else n * 2 % 2 ^ 32) ≡ step b n
    at true = refl
    at false = refl

doubled-even : (n : ℕ) → (n * 2 % 2 ^ 32) % 2 ≡ 0
doubled-even n = omega arith

same-up : (a b : ℕ) (x : Bool) → a < 2 ^ 32 → b < 2 ^ 32 → nat_le (2 ^ 31) a ≡ x → nat_le (2 ^ 31) b ≡ x → a * 2 % 2 ^ 32 ≡ b * 2 % 2 ^ 32 → a ≡ b
same-up a b true la lb ha hb e = omega (arith, leb-true (2 ^ 31) a ha, leb-true (2 ^ 31) b hb)
same-up a b false la lb ha hb e = omega (arith, leb-false (2 ^ 31) a ha, leb-false (2 ^ 31) b hb)

moved-undone : (a b : ℕ) → a < 2 ^ 32 → b < 2 ^ 32 → moved a ≡ moved b → a ≡ b
unfolding step
moved-undone a b la lb e = at (nat_le (2 ^ 31) a) (nat_le (2 ^ 31) b) refl refl (sym (moved-step a) ∙ e ∙ moved-step b)
  where
    at : (x y : Bool) → nat_le (2 ^ 31) a ≡ x → nat_le (2 ^ 31) b ≡ y → step (nat_le (2 ^ 31) a) a ≡ step (nat_le (2 ^ 31) b) b → a ≡ b
    at x y ha hb is = steps x y ha hb (sym (ap (λ (v : Bool). step v a) ha) ∙ is ∙ ap (λ (v : Bool). step v b) hb)
      where
        steps : (x y : Bool) → nat_le (2 ^ 31) a ≡ x → nat_le (2 ^ 31) b ≡ y → step x a ≡ step y b → a ≡ b
        steps true true ha hb is = same-up a b true la lb ha hb (xor-undone (a * 2 % 2 ^ 32) (b * 2 % 2 ^ 32) 0x04C11DB7 is)
        steps false false ha hb is = same-up a b false la lb ha hb is
        steps true false ha hb is = absurd (omega (arith, odd (a * 2 % 2 ^ 32) (doubled-even a), doubled-even b, ap (λ (n : ℕ). n % 2) is))
        steps false true ha hb is = absurd (omega (arith, odd (b * 2 % 2 ^ 32) (doubled-even b), doubled-even a, ap (λ (n : ℕ). n % 2) is))

moved-lt : (n : ℕ) → n < 2 ^ 32 → moved n < 2 ^ 32
moved-lt n lt = at (nat_le (2 ^ 31) n)
  where
    up-lt : n * 2 % 2 ^ 32 < 2 ^ 32
    up-lt = omega arith

    at : (b : Bool) → (if b then bit_xor (n * 2 % 2 ^ 32) 0x04C11DB7 else n * 2 % 2 ^ 32) < 2 ^ 32
    at true = xor_lt 32 (n * 2 % 2 ^ 32) 0x04C11DB7 up-lt (omega arith)
    at false = up-lt

shifts-lt : (n r : ℕ) → r < 2 ^ 32 → shifts n r < 2 ^ 32
unfolding shifted
shifts-lt zero r lt = lt
shifts-lt (suc n) r lt = shifts-lt n (shifted r) (moved-lt r lt)

shifts-undone : (n a b : ℕ) → a < 2 ^ 32 → b < 2 ^ 32 → shifts n a ≡ shifts n b → a ≡ b
unfolding shifted
shifts-undone zero a b la lb e = e
shifts-undone (suc n) a b la lb e = moved-undone a b la lb (shifts-undone n (shifted a) (shifted b) (moved-lt a la) (moved-lt b lb) e)

fed-lt : (r w : ℕ) → r < 2 ^ 32 → w < 2 ^ 32 → fed_word r w < 2 ^ 32
fed-lt r w lr lw = shifts-lt 32 (bit_xor r w) (xor_lt 32 r w lr lw)

AreWords : List ℕ → Type 0
AreWords [] = Unit {0}
AreWords (w ∷ words) = (w < 2 ^ 32) × AreWords words

-- words behind two registers that differ leave two that differ
from-undone : (words : List ℕ) (a b : ℕ) → a < 2 ^ 32 → b < 2 ^ 32 → AreWords words → crc_from a words ≡ crc_from b words → a ≡ b
unfolding AreWords
from-undone [] a b la lb are e = e
from-undone (w ∷ words) a b la lb are e =
    xor-undone a b w (shifts-undone 32 (bit_xor a w) (bit_xor b w) (xor_lt 32 a w la are.0) (xor_lt 32 b w lb are.0)
    (from-undone words (fed_word a w) (fed_word b w) (fed-lt a w la are.0) (fed-lt b w lb are.0) are.1 e))

-- and so do two words behind one register
word-undone : (r v w : ℕ) (words : List ℕ) → r < 2 ^ 32 → v < 2 ^ 32 → w < 2 ^ 32 → AreWords words → crc_from r (v ∷ words) ≡ crc_from r (w ∷ words) → v ≡ w
word-undone r v w words lr lv lw are e =
    let fed = from-undone words (fed_word r v) (fed_word r w) (fed-lt r v lr lv) (fed-lt r w lr lw) are e in
    let mixed = shifts-undone 32 (bit_xor r v) (bit_xor r w) (xor_lt 32 r v lr lv) (xor_lt 32 r w lr lw) fed in
    xor-undone v w r (xor_comm v r ∙ mixed ∙ xor_comm r w)

word-lt : (a b c d : ℕ) → a < 256 → b < 256 → c < 256 → d < 256 → word_of a b c d < 2 ^ 32
word-lt a b c d la lb lc ld = omega arith

words-lt : (bytes : List ℕ) → AreBytes bytes → AreWords (whole_words_of bytes)
unfolding AreWords
words-lt [] are = tt
words-lt (a ∷ []) are = (word-lt a 0 0 0 are.0 (omega arith) (omega arith) (omega arith), tt)
words-lt (a ∷ b ∷ []) are = (word-lt a b 0 0 are.0 are.1.0 (omega arith) (omega arith), tt)
words-lt (a ∷ b ∷ c ∷ []) are = (word-lt a b c 0 are.0 are.1.0 are.1.1.0 (omega arith), tt)
words-lt (a ∷ b ∷ c ∷ d ∷ rest) are = (word-lt a b c d are.0 are.1.0 are.1.1.0 are.1.1.1.0, words-lt rest are.1.1.1.1)

small : 0 < 256
small = omega arith

-- the byte that is another stands in one word
from-change : (front back : List ℕ) (r x y : ℕ) → r < 2 ^ 32 → AreBytes front → AreBytes back → x < 256 → y < 256
    → crc_from r (whole_words_of (front ++ x ∷ back)) ≡ crc_from r (whole_words_of (front ++ y ∷ back)) → x ≡ y
unfolding AreWords
from-change (a ∷ b ∷ c ∷ d ∷ front) back r x y lr fs bs lx ly e =
    from-change front back (fed_word r (word_of a b c d)) x y (fed-lt r (word_of a b c d) lr (word-lt a b c d fs.0 fs.1.0 fs.1.1.0 fs.1.1.1.0)) fs.1.1.1.1 bs lx ly e
from-change [] [] r x y lr fs bs lx ly e =
    let w : word_of x 0 0 0 ≡ word_of y 0 0 0 = word-undone r (word_of x 0 0 0) (word_of y 0 0 0) [] lr (word-lt x 0 0 0 lx small small small) (word-lt y 0 0 0 ly small small small) tt e in
    omega (arith, w)
from-change [] (b ∷ []) r x y lr fs bs lx ly e =
    let w : word_of x b 0 0 ≡ word_of y b 0 0 = word-undone r (word_of x b 0 0) (word_of y b 0 0) [] lr (word-lt x b 0 0 lx bs.0 small small) (word-lt y b 0 0 ly bs.0 small small) tt e in
    omega (arith, w)
from-change [] (b ∷ c ∷ []) r x y lr fs bs lx ly e =
    let w : word_of x b c 0 ≡ word_of y b c 0 = word-undone r (word_of x b c 0) (word_of y b c 0) [] lr (word-lt x b c 0 lx bs.0 bs.1.0 small) (word-lt y b c 0 ly bs.0 bs.1.0 small) tt e in
    omega (arith, w)
from-change [] (b ∷ c ∷ d ∷ back) r x y lr fs bs lx ly e =
    let w : word_of x b c d ≡ word_of y b c d = word-undone r (word_of x b c d) (word_of y b c d) (whole_words_of back) lr (word-lt x b c d lx bs.0 bs.1.0 bs.1.1.0) (word-lt y b c d ly bs.0 bs.1.0 bs.1.1.0) (words-lt back bs.1.1.1) e in
    omega (arith, w)
from-change (a ∷ []) [] r x y lr fs bs lx ly e =
    let w : word_of a x 0 0 ≡ word_of a y 0 0 = word-undone r (word_of a x 0 0) (word_of a y 0 0) [] lr (word-lt a x 0 0 fs.0 lx small small) (word-lt a y 0 0 fs.0 ly small small) tt e in
    omega (arith, w)
from-change (a ∷ []) (c ∷ []) r x y lr fs bs lx ly e =
    let w : word_of a x c 0 ≡ word_of a y c 0 = word-undone r (word_of a x c 0) (word_of a y c 0) [] lr (word-lt a x c 0 fs.0 lx bs.0 small) (word-lt a y c 0 fs.0 ly bs.0 small) tt e in
    omega (arith, w)
from-change (a ∷ []) (c ∷ d ∷ back) r x y lr fs bs lx ly e =
    let w : word_of a x c d ≡ word_of a y c d = word-undone r (word_of a x c d) (word_of a y c d) (whole_words_of back) lr (word-lt a x c d fs.0 lx bs.0 bs.1.0) (word-lt a y c d fs.0 ly bs.0 bs.1.0) (words-lt back bs.1.1) e in
    omega (arith, w)
from-change (a ∷ b ∷ []) [] r x y lr fs bs lx ly e =
    let w : word_of a b x 0 ≡ word_of a b y 0 = word-undone r (word_of a b x 0) (word_of a b y 0) [] lr (word-lt a b x 0 fs.0 fs.1.0 lx small) (word-lt a b y 0 fs.0 fs.1.0 ly small) tt e in
    omega (arith, w)
from-change (a ∷ b ∷ []) (d ∷ back) r x y lr fs bs lx ly e =
    let w : word_of a b x d ≡ word_of a b y d = word-undone r (word_of a b x d) (word_of a b y d) (whole_words_of back) lr (word-lt a b x d fs.0 fs.1.0 lx bs.0) (word-lt a b y d fs.0 fs.1.0 ly bs.0) (words-lt back bs.1) e in
    omega (arith, w)
from-change (a ∷ b ∷ c ∷ []) back r x y lr fs bs lx ly e =
    let w : word_of a b c x ≡ word_of a b c y = word-undone r (word_of a b c x) (word_of a b c y) (whole_words_of back) lr (word-lt a b c x fs.0 fs.1.0 fs.1.1.0 lx) (word-lt a b c y fs.0 fs.1.0 fs.1.1.0 ly) (words-lt back bs) e in
    omega (arith, w)

pub a-change-is-told : (front back : List ℕ) (x y : ℕ) → AreBytes front → AreBytes back → x < 256 → y < 256 → page_sum (front ++ x ∷ back) ≡ page_sum (front ++ y ∷ back) → x ≡ y
a-change-is-told front back x y fs bs lx ly e = from-change front back 0xFFFFFFFF x y (omega arith) fs bs lx ly e

whole-words : (bytes : List ℕ) → length bytes % 4 ≡ 0 → whole_words_of bytes ≡ words_of bytes
whole-words [] whole = refl
whole-words (a ∷ b ∷ c ∷ d ∷ rest) whole = ap (λ (ws : List ℕ). word_of a b c d ∷ ws) (whole-words rest (omega (arith, whole)))
whole-words bytes whole = absurd (omega (arith, whole))

pub of-the-flash : (bytes : List ℕ) → length bytes % 4 ≡ 0 → page_sum bytes ≡ crc_of bytes
of-the-flash bytes whole = ap (λ (ws : List ℕ). crc_from 0xFFFFFFFF ws) (whole-words bytes whole)
