use Rattle.std.proofs.Common.{◌≡◌, ◌<◌, ◌^◌, take}
use Rattle.stm_words.specs.Number.{number_of_digits}
use Rattle.stm_words.proofs.number.value_of_hex.Given as goal

abbrev pub invariant-loop-c : goal.invariant-loop-c
invariant-loop-c l = (l.n ≡ number_of_digits 16 (take l.c-index l.digits)) × (l.n < 16 ^ l.c-index)
