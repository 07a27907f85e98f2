-- What the code's answer on a record says.
use Rattle.std.specs.Prelude.{ℕ, ◌≤◌, List, take}
use Rattle.stm_image.specs.Record.{Scan}
use Rattle.stm_image.specs.Record
use Rattle.stm_image.specs.declared.scan.Scanned.{Scanned}
use Rattle.stm_image.specs.declared.scan.Scanned.TheVariants.{Ended, Stray, Broken, Cut, Whole}

-- with the bytes in the buffer
abbrev pub scan_of : Scanned → List ℕ → Scan
scan_of Ended buffer = Record.Ended
scan_of Stray buffer = Record.Stray
scan_of Broken buffer = Record.Broken
scan_of Cut buffer = Record.Cut
scan_of (Whole count rest) buffer = Record.Whole (take count buffer) rest.now

-- a record has five bytes and its data, which the buffer holds
abbrev pub HasRoom : Scanned → Type 0
HasRoom (Whole count rest) = (5 ≤ count) × (count ≤ 260)
HasRoom _ = Unit {0}
