-- The commands that change a chip's protection.
use Rattle.std.specs.Prelude.{ℕ}
use Rattle.stm_wire.specs.declared.protection.Protection.{Protection}
use Rattle.stm_wire.specs.declared.protection.Protection.TheVariants.{WriteUnprotect}
use Rattle.stm_wire.specs.declared.protection.Protection.TheVariants.{ReadoutProtect}
use Rattle.stm_wire.specs.declared.protection.Protection.TheVariants.{ReadoutUnprotect}

-- the code of the command
abbrev pub protection_code : Protection → ℕ
protection_code WriteUnprotect = 0x73
protection_code ReadoutProtect = 0x82
protection_code ReadoutUnprotect = 0x92
