-- Which segments of a journal stand behind those that there were before.
use Rattle.std.specs.Prelude.{ℕ, ◌+◌, ◌-◌, if◌then◌else◌, nat_le, ◌==◌}
use Rattle.stm_work.specs.declared.left_standing.Standing.{Standing}
use Rattle.stm_work.specs.declared.left_standing.Stands.{Stands}
use Rattle.stm_work.specs.declared.left_standing.Stands.TheVariants.{Nothing, Newest, Several}
use Rattle.stm_work.specs.declared.left_standing.Stands.TheVariants.{SeveralUnfinished, Unfinished}

-- how many segments came since
abbrev pub begun_since : Standing → Standing → ℕ
begun_since now before = now.depth - before.depth

-- the newest is unfinished: it stands alone, or others that came since do too
abbrev pub unfinished_standing : Standing → Standing → Stands
unfinished_standing before now =
    if nat_le (begun_since now before) 1
    then Unfinished now.depth
    else SeveralUnfinished (before.depth + 1) now.depth

-- none is unfinished: none came since, or one, or several
abbrev pub finished_standing : Standing → Standing → Stands
finished_standing before now =
    if begun_since now before == 0
    then Nothing
    else if begun_since now before == 1
    then Newest now.depth
    else Several (before.depth + 1) now.depth

-- which are told: those that came since, and an unfinished newest one also where it was there before
abbrev pub stands_since : Standing → Standing → Stands
stands_since before now =
    if now.is_unfinished then unfinished_standing before now else finished_standing before now
