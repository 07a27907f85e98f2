-- Tables of which one more is read over the others.
use Rattle.std.proofs.Common.{◌≡◌, ◌∙◌, ℕ, ◌+◌, ◌<◌, List, [], ◌∷◌, ◌++◌, Option, None, length, get_or, map, take, ap, subst, sym}
use Rattle.std.proofs.lemmas.List.{map-append, take_more}
use Rattle.stm_work.specs.declared.chip_tables.TableText.{TableText}
use Rattle.stm_work.specs.TriedBoards.AreTried.{none, over}
use Rattle.stm_work.specs.TriedBoards.{AreTried, TriedOver, table_bytes}

pub lowest_tried : (id : ℕ) (text : List ℕ) (count : Option ℕ) → TriedOver text id None count → AreTried id (text ∷ []) count
lowest_tried id text count told = over text count none told

module _ (id : ℕ) (lowest : List ℕ) (tables : List TableText) (i : ℕ) (below : Option ℕ) (tried : AreTried id (lowest ∷ map table_bytes (take i tables)) below) where
  pub one_over : (table : TableText) (count : Option ℕ) → i < length tables → table ≡ get_or tables i table → TriedOver (table_bytes table) id below count
      → AreTried id (lowest ∷ map table_bytes (take (i + 1) tables)) count
  one_over table count h here told =
      let parts : map table_bytes (take (i + 1) tables) ≡ map table_bytes (take i tables) ++ table_bytes table ∷ [] =
      ap (map table_bytes) (take_more tables i table h ∙ ap (λ t. take i tables ++ t ∷ []) (sym here)) ∙ map-append table_bytes (take i tables) (table ∷ []) in
      subst (λ texts. AreTried id (lowest ∷ texts) count) (sym parts) (over (table_bytes table) count tried told)
