-- Where a text is a table, each of its entries has keys, and its chips have the ids of its entries.
use Rattle.std.proofs.Common.{◌≡◌, ◌≢◌, ◌∙◌, ℕ, ℤ, pos, ◌<◌, List, [], ◌∷◌, ◌++◌, length, map, refl, Option, Some, None, All, Contains, codes, option_map, option_and_then, ap, subst, arith}
use Rattle.std.proofs.lemmas.List.{get_or-map, length-map}
use Rattle.std.proofs.lemmas.List.Elements.{All-map, All-pop, All-push}
use Rattle.toml.specs.Data.{Data, Members, as_integer, get}
use Rattle.toml.specs.View.{view}
use Rattle.toml.specs.declared.value.Value.{Value}
use Rattle.stm_wire.proofs.Names.{ChipData}
use Rattle.stm_chip.specs.Entry.{Keys, PlaceKeys, PageRun, keys_from, keys_of}
use Rattle.stm_chip.specs.Tried.{tried_of}
use Rattle.stm_chip.specs.Document.ReadsEntries.{none, more}
use Rattle.stm_chip.specs.Document.{HasEntries, HasId, IsDocument, IsNewId, IsTableOf, LacksChip, ReadsEntries}
use Rattle.stm_chip.specs.declared.tried.TriedBoard.{TriedBoard}
use Rattle.stm_chip.proofs.Documents.{items_of_same}

-- keys that are all there: the first and the last of them
module _ (keys : Keys) where
  first_key : (a b : Option ℤ) (c : Option (List PageRun)) (d : Option (List ℕ)) (e : Option ℤ) (f : Option PlaceKeys) (g : Option (List TriedBoard))
      → keys_from a b c d e f g ≡ Some keys → a ≡ Some keys.id
  first_key (Some a) (Some b) (Some c) (Some d) (Some e) (Some f) (Some g) h = ap (λ o. option_map (λ k. k.id) o) h
  first_key None b c d e f g h = cc
  first_key (Some a) None c d e f g h = cc
  first_key (Some a) (Some b) None d e f g h = cc
  first_key (Some a) (Some b) (Some c) None e f g h = cc
  first_key (Some a) (Some b) (Some c) (Some d) None f g h = cc
  first_key (Some a) (Some b) (Some c) (Some d) (Some e) None g h = cc
  first_key (Some a) (Some b) (Some c) (Some d) (Some e) (Some f) None h = cc

  last_key : (a b : Option ℤ) (c : Option (List PageRun)) (d : Option (List ℕ)) (e : Option ℤ) (f : Option PlaceKeys) (g : Option (List TriedBoard))
      → keys_from a b c d e f g ≡ Some keys → g ≡ Some keys.tried
  last_key (Some a) (Some b) (Some c) (Some d) (Some e) (Some f) (Some g) h = ap (λ o. option_map (λ k. k.tried) o) h
  last_key None b c d e f g h = cc
  last_key (Some a) None c d e f g h = cc
  last_key (Some a) (Some b) None d e f g h = cc
  last_key (Some a) (Some b) (Some c) None e f g h = cc
  last_key (Some a) (Some b) (Some c) (Some d) None f g h = cc
  last_key (Some a) (Some b) (Some c) (Some d) (Some e) None g h = cc
  last_key (Some a) (Some b) (Some c) (Some d) (Some e) (Some f) None h = cc

id_is : (entry : Data) (keys : Keys) → keys_of entry ≡ Some keys → option_and_then as_integer (get (codes "id") entry) ≡ Some keys.id
id_is entry keys h = first_key keys _ _ _ _ _ _ _ h

tried_are : (entry : Data) (keys : Keys) → keys_of entry ≡ Some keys → tried_of (get (codes "tried") entry) ≡ Some keys.tried
tried_are entry keys h = last_key keys _ _ _ _ _ _ _ h

record HasKeys (entry : Data) : Type 0 where
  keys : Keys
  keys_are : keys_of entry ≡ Some keys

each_has_keys : {entries : List Data} {chips : List ChipData} → ReadsEntries entries chips → All HasKeys entries
each_has_keys none = λ k d h. absurd (omega arith)
each_has_keys (more {entries} {chips} entry chip reads next) =
    All-push HasKeys entries entry (each_has_keys reads) (record { keys = next.keys; keys_are = next.keys_are })

-- where no entry has an id, no chip has it
new_id : (id : ℕ) {entries : List Data} {chips : List ChipData} → ReadsEntries entries chips → All (λ entry. ¬ HasId id entry) entries → IsNewId chips id
new_id id none others = λ k d h. absurd (omega arith)
new_id id (more {entries} {chips} entry chip reads next) others =
    let parts = All-pop (λ e. ¬ HasId id e) (entries ++ entry ∷ []) entries (Some entry) refl others in
    let other : chip.id ≢ id = λ same. parts.1 (id_is entry next.keys next.keys_are ∙ ap (λ z. Some z) (next.chip_is.id ∙ ap pos same)) in
    All-push (λ c. c.id ≢ id) chips chip (new_id id reads parts.0) other

same_entries : (document : Members) (xs ys : List Data) → HasEntries document xs → HasEntries document ys → xs ≡ ys
same_entries document xs ys a b = items_of_same xs ys (cc (a.there, b.there))

held_is : (P : Data → Type 0) (vs : List Value) (v : Value) → All P (map view vs) → Contains vs v → P (view v)
held_is P vs v each (i, within, is) =
    let h : i < length (map view vs) = omega (arith, length-map vs view) in
    subst P (get_or-map view vs i v (view v) within ∙ ap view is) (each i (view v) h)

module _ (text : List ℕ) (document : Members) (vs : List Value) (id : ℕ) (is : IsDocument text document) (has : HasEntries document (map view vs)) where
  reads_of : (chips : List ChipData) → IsTableOf text chips → ReadsEntries (map view vs) chips
  reads_of chips table =
      let one : table.document ≡ document = cc (table.is_document.parses, is.parses) in
      let there : HasEntries document table.entries = subst (λ d. HasEntries d table.entries) one table.has_entries in
      subst (λ entries. ReadsEntries entries chips) (same_entries document table.entries (map view vs) there has) table.reads

  pub lacks_id : All (λ v. ¬ HasId id (view v)) vs → LacksChip text id
  lacks_id others chips table = new_id id (reads_of chips table) (All-map (λ entry. ¬ HasId id entry) view vs others)

  pub lacks_keys : (v : Value) → Contains vs v → tried_of (get (codes "tried") (view v)) ≡ None → LacksChip text id
  lacks_keys v held lacking chips table =
      let has_keys = held_is HasKeys vs v (each_has_keys (reads_of chips table)) held in
      let there = tried_are (view v) has_keys.keys has_keys.keys_are in
      let no : ⊥ = cc (there, lacking) in
      absurd no
