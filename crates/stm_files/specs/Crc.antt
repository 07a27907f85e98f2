-- The CRC that STM32's own unit computes: the remainder of a polynomial's division, a bit at a time,
-- over 32-bit words, the highest bit first (ST RM0008, "CRC calculation unit").
use Rattle.std.specs.Prelude.{ℕ, zero, suc, ◌*◌, ◌+◌, ◌^◌, ◌%◌, List, [], ◌∷◌, bit_xor, nat_le}
use Rattle.std.specs.Prelude.{if◌then◌else◌}

-- the register after one bit: it moves up, and where its highest bit leaves, the polynomial is taken
-- from the rest
abbrev pub moved : ℕ → ℕ
moved register =
    let up = register * 2 % 2 ^ 32 in
    if nat_le (2 ^ 31) register then bit_xor up 0x04C11DB7 else up

-- the same, as one step of many
unfoldable pub shifted : ℕ → ℕ
shifted register = moved register

-- after so many bits
abbrev pub shifts : ℕ → ℕ → ℕ
shifts zero register = register
shifts (suc n) register = shifts n (shifted register)

-- after a word of 32 bits
abbrev pub fed_word : ℕ → ℕ → ℕ
fed_word register word = shifts 32 (bit_xor register word)

-- the word of four bytes, the lowest first
abbrev pub word_of : ℕ → ℕ → ℕ → ℕ → ℕ
word_of a b c d = a + b * 2 ^ 8 + c * 2 ^ 16 + d * 2 ^ 24

-- the words of bytes, in their order; fewer than four at the end are none
abbrev pub words_of : List ℕ → List ℕ
words_of (a ∷ b ∷ c ∷ d ∷ rest) = word_of a b c d ∷ words_of rest
words_of _ = []

-- the register behind words
abbrev pub crc_from : ℕ → List ℕ → ℕ
crc_from register [] = register
crc_from register (word ∷ words) = crc_from (fed_word register word) words

-- the CRC of bytes
abbrev pub crc_of : List ℕ → ℕ
crc_of bytes = crc_from 0xFFFFFFFF (words_of bytes)
