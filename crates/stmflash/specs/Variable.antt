-- What a variable of the environment says.
use Rattle.std.specs.Prelude.{◌≡◌, ◌==◌, ℕ, Bool, true, false, List, codes, string_bytes, string_len}
use Rattle.std.specs.Prelude.{Option, Some, None, Result, Ok, Err, if◌then◌else◌}
use Rattle.std.specs.Prelude.{String, alloc_error, nat_eq}
use Rattle.std.specs.declared.alloc.AllocError.{AllocError}
use Rattle.std.specs.declared.alloc.Global.{Global}
use Rattle.std.specs.List.{starts_with}
use Rattle.std.specs.Str.{bytes_eq}
use Rattle.std.specs.declared.env.VarError.{VarError}
use Rattle.std.specs.declared.env.VarError.TheVariants.{NotPresent, NotUnicode, OutOfMemory}
use Rattle.stm_words.specs.declared.usage_fault.UsageFault.TheVariants.{NotText}
use Rattle.stm_work.specs.declared.failure.Failure.{Failure}
use Rattle.stm_work.specs.declared.failure.Failure.TheVariants.{Memory, Usage}
use Rattle.stmflash.specs.declared.variable.Variable.{Variable}

-- it isn't set, or it is a text
abbrev pub is_text_or_unset : Result (String Global) VarError → Bool
is_text_or_unset (Ok text) = true
is_text_or_unset (Err NotPresent) = true
is_text_or_unset (Err fault) = false

abbrev pub is_variable_read : Variable → Bool
is_variable_read variable = is_text_or_unset variable.told

-- the text of one that is set and not empty
abbrev pub variable_told : Result (String Global) VarError → Option (List ℕ)
variable_told (Ok text) = if string_len text == 0 then None else Some (string_bytes text)
variable_told (Err fault) = None

abbrev pub variable_text : Variable → Option (List ℕ)
variable_text variable = variable_told variable.told

-- one that is set to 1
abbrev pub says_one : Option (List ℕ) → Bool
says_one (Some text) = bytes_eq text (codes "1")
says_one None = false

abbrev pub is_one : Variable → Bool
is_one variable = says_one (variable_text variable)

-- why it can't be read: it is no text, and named so, or memory is out
abbrev pub IsNoText : List ℕ → Result (String Global) VarError → Failure → Type 0
IsNoText name (Err NotUnicode) (Usage (NotText told)) = told.now ≡ name
IsNoText name (Err OutOfMemory) Memory = Unit {0}
IsNoText name told failure = ⊥

abbrev pub IsVariableUnread : Variable → Failure → Type 0
IsVariableUnread variable failure = IsNoText variable.name.now variable.told failure

-- the folder that it names: a text that begins at the root; or memory is out
abbrev pub told_folder : Result (String Global) VarError → Result (Option (List ℕ)) AllocError
told_folder (Ok text) =
    Ok (if starts_with nat_eq (string_bytes text) (codes "/") then Some (string_bytes text) else None)
told_folder (Err OutOfMemory) = Err alloc_error
told_folder (Err fault) = Ok None

abbrev pub folder_of : Variable → Result (Option (List ℕ)) AllocError
folder_of variable = told_folder variable.told
