use Rattle.std.proofs.Common.{◌≡◌, map, drop}
use Rattle.stm_words.specs.Json.{wants_json}
use Rattle.stm_words.proofs.json.wants_json.Given as goal

abbrev pub invariant-loop-word : goal.invariant-loop-word
invariant-loop-word l =
    wants_json (map (λ s. s.now) (drop l.word-index l.words)) ≡ wants_json (map (λ s. s.now) l.words)
