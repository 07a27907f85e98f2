-- Where a chip tells which board it is.
use Rattle.std.specs.Prelude.{None}
use Rattle.stm_wire.specs.declared.places.BoardPlaces.{BoardPlaces}

-- no place is known
abbrev pub no_places : BoardPlaces
no_places = record { unique = None; size = None }
