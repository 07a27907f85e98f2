-- What an entry of a chip table says, and the chip that it means.
use Rattle.std.specs.Prelude.{ℕ, ℤ, pos, ◌≡◌, ◌+◌, ◌^◌, ◌<◌, ◌≤◌, List, [], Option, None, Some}
use Rattle.std.specs.Prelude.{codes, option_and_then, option_map, length, replicate, All, IsTrue}
use Rattle.std.specs.List.{flat_map}
use Rattle.toml.specs.Data.{Data, Items, as_array, as_integer, as_str, get, at}
use Rattle.stm_wire.specs.Chip.{ChipData, IsChip}
use Rattle.stm_wire.specs.declared.chip.EraseKind.{EraseKind}
use Rattle.stm_wire.specs.declared.chip.EraseKind.TheVariants.{Page, Extended}
use Rattle.stm_wire.specs.declared.places.BoardPlaces.{BoardPlaces}
use Rattle.stm_wire.specs.declared.places.UniquePlace.{UniquePlace}
use Rattle.stm_chip.specs.Items.{each_of}
use Rattle.stm_chip.specs.Tried.{tried_of}
use Rattle.stm_chip.specs.declared.tried.TriedBoard.{TriedBoard}

-- how many pages, and of how many bytes
abbrev pub PageRun : Type 0
PageRun = ℤ × ℤ

abbrev pub run_of_two : Option ℤ → Option ℤ → Option Data → Option PageRun
run_of_two (Some count) (Some size) None = Some (count, size)
run_of_two _ _ _ = None

-- the run that an array of two whole numbers is
abbrev pub run_of : Data → Option PageRun
run_of d =
    run_of_two (option_and_then as_integer (at 0 d)) (option_and_then as_integer (at 1 d)) (at 2 d)

-- the runs of an array, where each item is one
abbrev pub page_runs : Items → Option (List PageRun)
page_runs = each_of run_of

-- where the unique id of a device stands: its address, and how many bytes it has
abbrev pub UniqueKey : Type 0
UniqueKey = ℤ × ℤ

-- what the keys say that may be absent of where a device tells its board
pub record PlaceKeys : Type 0 where
  pub unique : Option UniqueKey
  pub size_at : Option ℤ

abbrev pub places_with : Option UniqueKey → Option ℤ → PlaceKeys
places_with unique size_at = record { unique = unique; size_at = size_at }

abbrev pub places_from : Option (Option UniqueKey) → Option (Option ℤ) → Option PlaceKeys
places_from (Some unique) (Some size_at) = Some (places_with unique size_at)
places_from _ _ = None

-- the values of a chip's keys
pub record Keys : Type 0 where
  pub id : ℤ
  pub base : ℤ
  pub runs : List PageRun
  pub erase : List ℕ
  pub erased : ℤ
  pub places : PlaceKeys
  pub tried : List TriedBoard

abbrev pub keys_with : ℤ → ℤ → List PageRun → List ℕ → ℤ → PlaceKeys → List TriedBoard → Keys
keys_with id base runs erase erased places tried =
    record {
      id = id;
      base = base;
      runs = runs;
      erase = erase;
      erased = erased;
      places = places;
      tried = tried;
    }

abbrev pub keys_from : Option ℤ → Option ℤ → Option (List PageRun) → Option (List ℕ)
    → Option ℤ → Option PlaceKeys → Option (List TriedBoard) → Option Keys
keys_from (Some id) (Some base) (Some runs) (Some erase) (Some erased) (Some places) (Some tried) =
    Some (keys_with id base runs erase erased places tried)
keys_from _ _ _ _ _ _ _ = None

-- what an erased place holds: all bits set, where the key is absent
abbrev pub erased_of : Option Data → Option ℤ
erased_of (Some value) = as_integer value
erased_of None = Some (pos 0xFF)

-- where the unique id stands: an array of two whole numbers, or nothing where the key is absent
abbrev pub unique_key : Option Data → Option (Option UniqueKey)
unique_key (Some value) = option_map Some (run_of value)
unique_key None = Some None

-- where the size of the flash stands: a whole number, or nothing where the key is absent
abbrev pub size_at_of : Option Data → Option (Option ℤ)
size_at_of (Some value) = option_map Some (as_integer value)
size_at_of None = Some None

-- where an entry says that its devices tell their board
abbrev pub place_keys : Data → Option PlaceKeys
place_keys d =
    places_from (unique_key (get (codes "unique") d)) (size_at_of (get (codes "size_at") d))

-- the keys of an entry, where each is there, or has a value of its own when absent, and of its kind
abbrev pub keys_of : Data → Option Keys
keys_of d =
    keys_from (option_and_then as_integer (get (codes "id") d))
    (option_and_then as_integer (get (codes "base") d))
    (option_and_then page_runs (option_and_then as_array (get (codes "pages") d)))
    (option_and_then as_str (get (codes "erase") d)) (erased_of (get (codes "erased") d))
    (place_keys d) (tried_of (get (codes "tried") d))

-- a run has a page
abbrev pub IsRun : PageRun → Type 0
IsRun (pos count, pos size) = 1 ≤ count
IsRun _ = ⊥

-- the sizes of a run's pages
abbrev pub pages_of : PageRun → List ℕ
pages_of (pos count, pos size) = replicate count size
pages_of _ = []

-- the word for a kind in a table
abbrev pub kind_word : EraseKind → List ℕ
kind_word Page = codes "page"
kind_word Extended = codes "extended"

abbrev pub key_of_unique : UniquePlace → UniqueKey
key_of_unique place = (pos place.address, pos place.length)

abbrev pub key_of_size : ℕ → ℤ
key_of_size address = pos address

-- the places of these keys
pub record ArePlacesOf (keys : PlaceKeys) (places : BoardPlaces) : Type 0 where
  pub unique : keys.unique ≡ option_map key_of_unique places.unique
  pub size_at : keys.size_at ≡ option_map key_of_size places.size

-- the texts of a board that was tried are short ones
abbrev pub IsShortBoard : TriedBoard → Type 0
IsShortBoard board = IsTrue board.are_short

-- the chip of these keys
pub record IsChipOf (keys : Keys) (chip : ChipData) : Type 0 where
  pub id : keys.id ≡ pos chip.id
  pub base : keys.base ≡ pos chip.base
  pub runs : All IsRun keys.runs
  pub sizes : chip.sizes ≡ flat_map pages_of keys.runs
  pub erase : keys.erase ≡ kind_word chip.kind
  pub erased : keys.erased ≡ pos chip.erased
  pub places : ArePlacesOf keys.places chip.places
  -- what was tried is beside the chip
  pub tried : All IsShortBoard keys.tried
  -- which board it is stands in no table
  pub board : chip.unique ≡ []
  pub limits : IsChip chip

-- the chip's limits leave room for no more pages than a number of 16 bits
-- counts, of sizes of 32 bits
pub record IsPaged (runs : List PageRun) : Type 0 where
  pub each : All IsRun runs
  pub count : length (flat_map pages_of runs) < 2 ^ 16
  pub in_range : All (λ size. size < 2 ^ 32) (flat_map pages_of runs)

-- a run whose pages some pages leave room for
pub record CanAdd (sizes : List ℕ) (run : PageRun) : Type 0 where
  pub is_run : IsRun run
  pub count : length sizes + length (pages_of run) < 2 ^ 16
  pub in_range : All (λ size. size < 2 ^ 32) (pages_of run)

-- a limit is broken: no chip has these keys
abbrev pub BreaksLimit : Keys → Type 0
BreaksLimit keys = (chip : ChipData) → ¬ IsChipOf keys chip

-- no chip tells its board at the places of these keys
abbrev pub HaveNoPlaces : PlaceKeys → Type 0
HaveNoPlaces keys = (chip : ChipData) → IsChip chip → ¬ ArePlacesOf keys chip.places
