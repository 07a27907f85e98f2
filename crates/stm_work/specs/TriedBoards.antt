-- How many real boards of a chip were tried, by tables of which one goes over another.
use Rattle.std.specs.Prelude.{◌≡◌, ℕ, ◌⊎◌, List, [], ◌∷◌, ◌++◌, Option, None, map}
use Rattle.stm_chip.specs.Document.{LacksChip, TellsTried}
use Rattle.stm_work.specs.declared.chip_tables.ChipTables.{ChipTables}
use Rattle.stm_work.specs.declared.chip_tables.TableText.{TableText}

-- a table tells so many, or nothing of them; or it has no such chip, and the tables below it tell that
abbrev pub TriedOver : List ℕ → ℕ → Option ℕ → Option ℕ → Type 0
TriedOver text id below count = TellsTried text id count ⊎ (LacksChip text id × (count ≡ below))

-- the texts of tables, the lowest first, tell so many of a chip, or nothing of them: the highest that
-- has it decides
pub data AreTried (id : ℕ) : List (List ℕ) → Option ℕ → Type 0 where
  none : AreTried id [] None
  over : {texts : List (List ℕ)} {below : Option ℕ} (text : List ℕ) (count : Option ℕ)
      → AreTried id texts below → TriedOver text id below count
      → AreTried id (texts ++ text ∷ []) count

abbrev pub table_bytes : TableText → List ℕ
table_bytes table = table.text.items

-- the texts of the tables of one use, the lowest first
abbrev pub table_texts : ChipTables → List (List ℕ)
table_texts tables = table_bytes tables.lowest ∷ map table_bytes tables.over.items
