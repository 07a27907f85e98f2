-- What the text of a chip table says: its chips, or its first fault.
use Rattle.std.specs.Prelude.{Option, ℕ, ◌≡◌, ◌≢◌, ◌↔◌, ◌+◌, ◌⊎◌, List, [], ◌∷◌, ◌++◌, length, map, Vec}
use Rattle.std.specs.Prelude.{None, Some, IsSome, codes, All, AllPairs, Contains, IsUtf8, option_and_then, pos}
use Rattle.std.specs.declared.alloc.Global.{Global}
use Rattle.toml.specs.Data.{Data, Members, array, as_integer, as_table, get, get_member}
use Rattle.toml.specs.View.{items_of, view}
use Rattle.toml.specs.declared.value.Value.{Value}
use Rattle.toml.specs.Parse.{parse_document}
use Rattle.stm_wire.specs.Chip.{ChipData}
use Rattle.stm_chip.specs.Entry.{Keys, keys_of, IsChipOf, BreaksLimit}
use Rattle.stm_chip.specs.Tried.{told_boards, tried_of}
use Rattle.stm_chip.specs.declared.tried.TriedBoard.{TriedBoard}
use Rattle.stm_chip.specs.declared.fault.TableFault.{TableFault}
use Rattle.stm_chip.specs.declared.fault.TableFault.TheVariants.{Syntax, Missing, Limit, TwiceId}
use Rattle.stm_chip.specs.declared.fault.TableFault.TheVariants.{Memory}

-- what the values of an array stand for
abbrev pub values_data : Vec Value Global → List Data
values_data values = map view values.items

-- a document has these tables at its key `chip`, and nothing else there
pub record HasEntries (document : Members) (entries : List Data) : Type 0 where
  pub there : get_member (codes "chip") document ≡ Some (array (items_of entries))
  pub tables : All (λ entry. IsSome (as_table entry)) entries

-- no chip of these has the id
abbrev pub IsNewId : List ChipData → ℕ → Type 0
IsNewId chips id = All (λ chip. chip.id ≢ id) chips

-- no two of these chips have one id
abbrev pub HaveOwnIds : List ChipData → Type 0
HaveOwnIds chips = AllPairs (λ earlier later. earlier.id ≢ later.id) chips

-- the one of these chips that has this id
pub record IsChipWith (chips : List ChipData) (id : ℕ) (chip : ChipData) : Type 0 where
  pub id_is : chip.id ≡ id
  pub held : Contains chips chip
  pub only : (other : ChipData) → Contains chips other → other.id ≡ id → other ≡ chip

-- the one chip with this id is the same in both
abbrev pub HaveSameChip : List ChipData → List ChipData → ℕ → Type 0
HaveSameChip chips others id =
    (chip : ChipData) → (IsChipWith chips id chip) ↔ (IsChipWith others id chip)

-- these chips with this one in the place of that of its id
pub record HaveInPlace (chips : List ChipData) (chip : ChipData)
    (new : List ChipData) : Type 0 where
  pub here : ¬ IsNewId chips chip.id → IsChipWith new chip.id chip
  pub others : (id : ℕ) → id ≢ chip.id → HaveSameChip chips new id
  pub ids : (id : ℕ) → (IsNewId chips id) ↔ (IsNewId new id)

-- an entry after those of some chips is a chip too
pub record IsNextChip (chips : List ChipData) (entry : Data) (chip : ChipData) : Type 0 where
  pub keys : Keys
  pub keys_are : keys_of entry ≡ Some keys
  pub chip_is : IsChipOf keys chip
  pub new_id : IsNewId chips chip.id

-- an entry after those of some chips has the id of one of them
pub record HasOldId (chips : List ChipData) (entry : Data) : Type 0 where
  pub keys : Keys
  pub keys_are : keys_of entry ≡ Some keys
  pub chip : ChipData
  pub chip_is : IsChipOf keys chip
  pub old_id : ¬ IsNewId chips chip.id

-- a limit is broken by an entry, whose keys are all there
pub record HasBadLimit (entry : Data) : Type 0 where
  pub keys : Keys
  pub keys_are : keys_of entry ≡ Some keys
  pub breaks : BreaksLimit keys

-- the entries are these chips, in order, and no id comes twice
pub data ReadsEntries : List Data → List ChipData → Type 0 where
  none : ReadsEntries [] []
  more : {entries : List Data} {chips : List ChipData} (entry : Data) (chip : ChipData)
      → ReadsEntries entries chips → IsNextChip chips entry chip
      → ReadsEntries (entries ++ entry ∷ []) (chips ++ chip ∷ [])

-- what is wrong with entry n, after those of some chips
abbrev pub IsFlaw : ℕ → List ChipData → Data → TableFault → Type 0
IsFlaw n chips entry (Missing k) = (k ≡ n) × (keys_of entry ≡ None)
IsFlaw n chips entry (Limit k) = (k ≡ n) × HasBadLimit entry
IsFlaw n chips entry (TwiceId k) = (k ≡ n) × HasOldId chips entry
IsFlaw n chips entry Syntax = ⊥
IsFlaw n chips entry Memory = Unit {0}

-- the first faulty entry has this fault; entries are counted from 1
pub record HasFlaw (entries : List Data) (fault : TableFault) : Type 0 where
  pub before : List Data
  pub entry : Data
  pub after : List Data
  pub parts : entries ≡ before ++ entry ∷ after
  pub chips : List ChipData
  pub reads : ReadsEntries before chips
  pub flaw : IsFlaw (length before + 1) chips entry fault

-- the text is a document, this tree
pub record IsDocument (text : List ℕ) (document : Members) : Type 0 where
  pub utf8 : IsUtf8 text
  pub parses : parse_document text ≡ Some document

-- the text is the table of these chips
pub record IsTableOf (text : List ℕ) (chips : List ChipData) : Type 0 where
  pub document : Members
  pub is_document : IsDocument text document
  pub entries : List Data
  pub has_entries : HasEntries document entries
  pub reads : ReadsEntries entries chips

-- the text is a document without tables at `chip`
pub record LacksEntries (text : List ℕ) : Type 0 where
  pub document : Members
  pub is_document : IsDocument text document
  pub lacks : (entries : List Data) → ¬ HasEntries document entries

-- the text is a document, and the first faulty entry of its tables at `chip` has this fault
pub record HasFault (text : List ℕ) (fault : TableFault) : Type 0 where
  pub document : Members
  pub is_document : IsDocument text document
  pub entries : List Data
  pub has_entries : HasEntries document entries
  pub has_flaw : HasFlaw entries fault

-- the text's fault; of a want of memory nothing is said
abbrev pub IsTableFaultOf : List ℕ → TableFault → Type 0
IsTableFaultOf text Memory = Unit {0}
IsTableFaultOf text Syntax = IsUtf8 text → parse_document text ≡ None
IsTableFaultOf text (Missing k) = ((k ≡ 0) × LacksEntries text) ⊎ HasFault text (Missing k)
IsTableFaultOf text (Limit k) = HasFault text (Limit k)
IsTableFaultOf text (TwiceId k) = HasFault text (TwiceId k)

-- an entry has this id
abbrev pub HasId : ℕ → Data → Type 0
HasId id entry = option_and_then as_integer (get (codes "id") entry) ≡ Some (pos id)

-- where the text is a table, it has no chip with this id
abbrev pub LacksChip : List ℕ → ℕ → Type 0
LacksChip text id = (chips : List ChipData) → IsTableOf text chips → IsNewId chips id

-- the entry with this id in the text says that so many real boards were tried, or has no key for them
pub record TellsTried (text : List ℕ) (id : ℕ) (count : Option ℕ) : Type 0 where
  pub document : Members
  pub is_document : IsDocument text document
  pub entries : List Data
  pub has_entries : HasEntries document entries
  pub entry : Data
  pub held : Contains entries entry
  pub has_id : HasId id entry
  pub boards : List TriedBoard
  pub boards_are : tried_of (get (codes "tried") entry) ≡ Some boards
  pub count_is : count ≡ told_boards (get (codes "tried") entry) boards
