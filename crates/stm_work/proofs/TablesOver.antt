-- Tables of which one more is read over the others.
use Rattle.std.proofs.Common.{◌≡◌, ◌∙◌, ℕ, ◌+◌, ◌<◌, List, [], ◌∷◌, ◌++◌, length, get_or, map, take, ap, subst, sym}
use Rattle.std.proofs.lemmas.List.{map-append, take_more}
use Rattle.stm_wire.proofs.Names.{ChipData}
use Rattle.stm_chip.specs.Document.{IsTableOf}
use Rattle.stm_chip.specs.Over.{IsOver}
use Rattle.stm_work.specs.declared.chip_tables.TableText.{TableText}
use Rattle.stm_work.specs.ChipTables.AreChips.{lowest, over}
use Rattle.stm_work.specs.ChipTables.{AreChips}
use Rattle.stm_work.specs.TriedBoards.{table_bytes}

pub lowest_chips : (text : List ℕ) (chips : List ChipData) → IsTableOf text chips → AreChips (text ∷ []) chips
lowest_chips text chips is = lowest text chips is

-- one more table, behind those so far
module _ (low : List ℕ) (tables : List TableText) (i : ℕ) (below : List ChipData) (are : AreChips (low ∷ map table_bytes (take i tables)) below) where
  pub next_over : (table : TableText) (own chips : List ChipData) → i < length tables → table ≡ get_or tables i table → IsTableOf (table_bytes table) own → IsOver own below chips
      → AreChips (low ∷ map table_bytes (take (i + 1) tables)) chips
  next_over table own chips h here is joins =
      let parts : map table_bytes (take (i + 1) tables) ≡ map table_bytes (take i tables) ++ table_bytes table ∷ [] =
      ap (map table_bytes) (take_more tables i table h ∙ ap (λ t. take i tables ++ t ∷ []) (sym here)) ∙ map-append table_bytes (take i tables) (table ∷ []) in
      subst (λ texts. AreChips (low ∷ texts) chips) (sym parts) (over (table_bytes table) own chips are is joins)
