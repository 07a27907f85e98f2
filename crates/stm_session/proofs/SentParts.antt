-- What the steps on pages put on any line: one part after another, with lines of the journal between them.
use Rattle.std.proofs.Common.{◌≡◌, ℕ, ◌+◌, ◌*◌, ◌≤◌, Bool, true, List, Option, Some, Result, IsErrAnd, arith}
use Rattle.stm_wire.proofs.Names.{Call, ChipData, GoesOn, IsPart}
use Rattle.stm_wire.specs.lemmas.PartLaws.{part_longer, parts_join}
use Rattle.stm_session.proofs.Names.{Fault, is_whole, is_whole_at, most_of_command}
use Rattle.stm_session.proofs.Sending.{same_fault}

-- a part after another
pub part_after : (chip : Option ChipData) (whole : Bool) (m n most : ℕ) (a b c : Option (List Call)) → m + n ≤ most → GoesOn (IsPart chip true m) a b → GoesOn (IsPart chip whole n) b c
    → GoesOn (IsPart chip whole most) a c
part_after chip whole m n most a b c le p q = part_longer chip whole (m + n) most a c le (parts_join chip whole m n a b c p q)

-- exits by the fault of a part, of one after another, and of a command of the bootloader
pub part_fails : {U : Type 0} (chip : Option ChipData) (n most : ℕ) (a b : Option (List Call)) (e : Fault) (result : Result U Fault) → n ≤ most → IsErrAnd result (λ x. x ≡ e)
    → GoesOn (IsPart chip (is_whole_at e) n) a b → GoesOn (IsPart chip (is_whole result) most) a b
part_fails chip n most a b e result le is p =
    let P : Bool → Type 0 = λ w. GoesOn (IsPart chip w most) a b in
    same_fault P e result is (part_longer chip (is_whole_at e) n most a b le p)

pub part_fails_after : {U : Type 0} (chip : Option ChipData) (m n most : ℕ) (a b c : Option (List Call)) (e : Fault) (result : Result U Fault) → m + n ≤ most → IsErrAnd result (λ x. x ≡ e)
    → GoesOn (IsPart chip true m) a b → GoesOn (IsPart chip (is_whole_at e) n) b c → GoesOn (IsPart chip (is_whole result) most) a c
part_fails_after chip m n most a b c e result le is p q = part_fails chip (m + n) most a c e result le is (parts_join chip (is_whole_at e) m n a b c p q)

-- commands, one after another
pub commands_next : (chip : ChipData) (i : ℕ) (whole : Bool) (a b c : Option (List Call)) → GoesOn (IsPart (Some chip) true (i * most_of_command)) a b → GoesOn (IsPart (Some chip) whole most_of_command) b c
    → GoesOn (IsPart (Some chip) whole ((i + 1) * most_of_command)) a c
commands_next chip i whole a b c p q =
    let most : i * 27262976 + 27262976 ≤ (i + 1) * 27262976 = omega arith in
    part_after (Some chip) whole (i * most_of_command) most_of_command ((i + 1) * most_of_command) a b c most p q

pub commands_within : (chip : ChipData) (i n : ℕ) (whole : Bool) (a b : Option (List Call)) → i ≤ n → GoesOn (IsPart (Some chip) whole (i * most_of_command)) a b
    → GoesOn (IsPart (Some chip) whole (n * most_of_command)) a b
commands_within chip i n whole a b le p =
    let most : i * 27262976 ≤ n * 27262976 = omega (arith, le) in
    part_longer (Some chip) whole (i * most_of_command) (n * most_of_command) a b most p
