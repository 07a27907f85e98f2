-- The words that name a protection.
use Rattle.std.specs.Prelude.{ℕ, if◌then◌else◌, List, codes, bytes_eq, Option, Some, None}
use Rattle.stm_wire.specs.declared.protection.Protection.{Protection}
use Rattle.stm_wire.specs.declared.protection.Protection.TheVariants.{WriteUnprotect}
use Rattle.stm_wire.specs.declared.protection.Protection.TheVariants.{ReadoutProtect}
use Rattle.stm_wire.specs.declared.protection.Protection.TheVariants.{ReadoutUnprotect}

-- no other word names one
abbrev pub protection_of : List ℕ → Option Protection
protection_of word =
    if bytes_eq word (codes "write-unprotect") then Some WriteUnprotect
    else (if bytes_eq word (codes "readout-protect") then Some ReadoutProtect
    else (if bytes_eq word (codes "readout-unprotect") then Some ReadoutUnprotect
    else None))
