-- What the items of an array say, where each of them says something.
use Rattle.std.specs.Prelude.{List, [], ◌∷◌, Option, None, Some}
use Rattle.toml.specs.Data.{Data, Items, no_items, item}

abbrev pub with_first : {T : Type 0} → Option T → Option (List T) → Option (List T)
with_first (Some first) (Some others) = Some (first ∷ others)
with_first _ _ = None

-- what each item says, in order; None where one of them says nothing
unfoldable pub each_of : {T : Type 0} → (Data → Option T) → Items → Option (List T)
each_of says no_items = Some []
each_of says (item d ds) = with_first (says d) (each_of says ds)
