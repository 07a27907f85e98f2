-- The CRC of a kept page: that of its words, the last of which zeros make whole.
use Rattle.std.specs.Prelude.{◌≡◌, ℕ, ◌<◌, ◌%◌, List, [], ◌∷◌, ◌++◌, length}
use Rattle.stm_files.specs.Crc.{crc_from, crc_of, word_of}

-- the words of bytes, in their order; zeros make the last one whole
abbrev pub whole_words_of : List ℕ → List ℕ
whole_words_of (a ∷ b ∷ c ∷ d ∷ rest) = word_of a b c d ∷ whole_words_of rest
whole_words_of (a ∷ b ∷ c ∷ []) = word_of a b c 0 ∷ []
whole_words_of (a ∷ b ∷ []) = word_of a b 0 0 ∷ []
whole_words_of (a ∷ []) = word_of a 0 0 0 ∷ []
whole_words_of [] = []

-- the CRC of a page's bytes
abbrev pub page_sum : List ℕ → ℕ
page_sum bytes = crc_from 0xFFFFFFFF (whole_words_of bytes)

abbrev pub AreBytes : List ℕ → Type 0
AreBytes [] = Unit {0}
AreBytes (b ∷ bytes) = (b < 256) × AreBytes bytes

-- where one byte of a page is another one, its CRC is
abbrev pub TellsAChange : Type 0
TellsAChange =
    (front back : List ℕ) (one other : ℕ) → AreBytes front → AreBytes back → one < 256
    → other < 256 → page_sum (front ++ one ∷ back) ≡ page_sum (front ++ other ∷ back)
    → one ≡ other

-- of whole words it is the CRC that is told of a flash
abbrev pub IsOfTheFlash : Type 0
IsOfTheFlash = (bytes : List ℕ) → length bytes % 4 ≡ 0 → page_sum bytes ≡ crc_of bytes
