-- What a record of a Rig's calls holds, and how the logic stores it.
use Rattle.std.specs.Prelude.{◌≡◌, ℕ, List, [], ◌==◌, cond, Option, Some, None, refl}
use Rattle.std.specs.Coded.{Coded, code_by, coded×, coded_ℕ, coded_list, coded_option}
use Rattle.stm_wire.specs.Call.{Call, Put, Get, Append, Fetch}

pub record Past : Type 0 where
  pub calls : List Call
  -- how many gets waited long, and the bytes that fetches brought
  pub long_gets : ℕ
  pub told : List ℕ

abbrev pub no_calls : Past
no_calls = record { calls = []; long_gets = 0; told = [] }

abbrev call_parts : Call → ℕ × (Option ℕ × List ℕ)
call_parts (Put byte) = (0, (Some byte, []))
call_parts (Get answer) = (1, (answer, []))
call_parts (Append bytes) = (2, (None, bytes))
call_parts Fetch = (3, (None, []))

abbrev put_of : Option ℕ → Call
put_of None = Fetch
put_of (Some byte) = Put byte

abbrev call_from : ℕ × (Option ℕ × List ℕ) → Call
call_from p =
    cond (p.0 == 0) (put_of p.1.0) (cond (p.0 == 1) (Get p.1.0) (cond (p.0 == 2) (Append p.1.1) Fetch))

pub call_from-call_parts : (call : Call) → call_from (call_parts call) ≡ call
call_from-call_parts (Put byte) = refl
call_from-call_parts (Get answer) = refl
call_from-call_parts (Append bytes) = refl
call_from-call_parts Fetch = refl

abbrev call_code : Coded Call
call_code =
    code_by (ℕ × (Option ℕ × List ℕ)) (coded× coded_ℕ (coded× (coded_option coded_ℕ) (coded_list coded_ℕ)))
    call_parts call_from call_from-call_parts

abbrev pub past_code : Coded Past
past_code =
    code_by (List Call × (ℕ × List ℕ)) (coded× (coded_list call_code) (coded× coded_ℕ (coded_list coded_ℕ)))
    (λ p. (p.calls, (p.long_gets, p.told)))
    (λ t. record { calls = t.0; long_gets = t.1.0; told = t.1.1 })
    (λ p. refl)
