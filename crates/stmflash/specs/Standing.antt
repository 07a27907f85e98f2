-- What stands in the place of words that aren't given.
use Rattle.std.specs.Prelude.{◌≡◌, ℕ, List, [], ◌∷◌, option_map}
use Rattle.std.specs.Prelude.{Option, Some, None}
use Rattle.std.specs.Borrow.{Bor}
use Rattle.stm_words.specs.declared.environment.Environment.{Environment}
use Rattle.stmflash.specs.Variable.{is_one, variable_text}
use Rattle.stmflash.specs.declared.variables.Variables.{Variables}

-- a text that there may be
abbrev pub text : Option (Bor (List ℕ)) → Option (List ℕ)
text = option_map (λ word. word.now)

-- the table that is named; else the lowest of these
abbrev pub lowest : Option (List ℕ) → List (Bor (List ℕ)) → Option (List ℕ)
lowest (Some name) tables = Some name
lowest None [] = None
lowest None (table ∷ tables) = Some table.now

-- and those that are read over it
abbrev pub others : Option (List ℕ) → List (Bor (List ℕ)) → Option (List (Bor (List ℕ)))
others (Some name) tables = None
others None [] = None
others None (table ∷ tables) = Some tables

-- Of a table that is named, alone, and these tables: which is the lowest, and which are over it.
pub record IsTables (named : Option (Bor (List ℕ))) (tables : List (Bor (List ℕ)))
    (chosen : Option (Bor (List ℕ)) × Option (Bor (List (Bor (List ℕ))))) : Type 0 where
  pub table : text chosen.0 ≡ lowest (text named) tables
  pub over : option_map (λ over. over.now) chosen.1 ≡ others (text named) tables

-- Each stands in the place of its own word; no others are read where a variable names the table.
pub record StandsFor (variables : Variables) (tables : List (Bor (List ℕ)))
    (standing : Environment) : Type 0 where
  pub table : text standing.table ≡ lowest (variable_text variables.table) tables
  pub over : option_map (λ over. over.now) standing.over
      ≡ others (variable_text variables.table) tables
  pub device : text standing.device ≡ variable_text variables.device
  pub journal : text standing.journal ≡ variable_text variables.journal
  pub journals : text standing.journals ≡ variable_text variables.journals
  pub board : text standing.board ≡ variable_text variables.board
  pub wait : text standing.wait ≡ variable_text variables.wait
  pub baud : text standing.baud ≡ variable_text variables.baud
  pub without_board : standing.without_board ≡ is_one variables.without_board
  pub is_fresh : standing.is_fresh ≡ is_one variables.is_fresh
  pub without_lock : standing.without_lock ≡ is_one variables.without_lock
  pub is_json : standing.is_json ≡ is_one variables.is_json
