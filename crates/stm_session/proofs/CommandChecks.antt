-- What is checked of a list of commands.
use Rattle.std.proofs.Common.{◌≡◌, ℕ, ◌+◌, ◌-◌, ◌≤◌, Bool, suc, true, false, not, ◌||◌, nat_le, List, [], ◌∷◌, length, map, filter, count_by, Some, None, refl, sym, ◌∙◌, ap, arith}
use Rattle.std.proofs.lemmas.Bool.Decides.{nat_tests}
use Rattle.std.proofs.lemmas.List.Folds.{list_all-map}
use Rattle.std.proofs.lemmas.List.Sums.{length-filter}
use Rattle.std.specs.List.{list_all, list_any}
use Rattle.stm_wire.proofs.Names.{ChipData, Device, is_listed}
use Rattle.stm_journal.proofs.Names.{StateData}
use Rattle.stm_session.proofs.Names.{can_erase, changes_of, Command, command_data, command_refusals, CommandData, erase_code, first_refusal, is_change, is_in_flash, lies_in_flash}
use Rattle.stm_session.specs.declared.fault.Fault.TheVariants.{OutOfFlash, Full}

-- one of the commands is such a one
any_of : (p : CommandData → Bool) (commands : List Command) → list_any p (map command_data commands) ≡ list_any (λ c. p (command_data c)) commands
any_of p [] = refl
any_of p (c ∷ commands) = ap (λ b. p (command_data c) || b) (any_of p commands)

as_many : (p : CommandData → Bool) (commands : List Command) → length (filter (λ c. p (command_data c)) commands) ≡ length (filter p (map command_data commands))
as_many p [] = refl
as_many p (c ∷ commands) = by_test (p (command_data c)) refl (as_many p commands)
  where
    by_test : (b : Bool) → p (command_data c) ≡ b → length (filter (λ x. p (command_data x)) commands) ≡ length (filter p (map command_data commands))
        → length (filter (λ x. p (command_data x)) (c ∷ commands)) ≡ length (filter p (map command_data (c ∷ commands)))
    by_test true is rest = rw is (ap (λ n. suc n) rest)
    by_test false is rest = rw is rest

-- how many of them begin a segment
pub counted : (commands : List Command) → count_by (λ c. is_change (command_data c)) commands ≡ length (changes_of (map command_data commands))
counted commands = sym (length-filter (λ c. is_change (command_data c)) commands) ∙ as_many is_change commands

-- so many more have room
pub room_for : (depth changes d n : ℕ) → d ≡ depth → depth ≤ 65535 → n ≡ changes → nat_le n (65535 - d) ≡ nat_le (depth + changes) 65535
room_for depth changes d n is le same = grind (arith, nat_tests)

-- no command begins a segment, or the device can erase
module _ (chip : ChipData) (d : Device) (commands : List Command) (h : Bool) (has : h ≡ list_any (λ c. is_change (command_data c)) commands) where
  same_test : not (list_any is_change (map command_data commands)) ≡ not h
  same_test = ap not (any_of is_change commands ∙ sym has)

  pub no_change : h ≡ false → not h ≡ (not (list_any is_change (map command_data commands)) || can_erase chip d)
  no_change none = ap not none ∙ sym (ap (λ b. b || can_erase chip d) (same_test ∙ ap not none))

  pub some_change : (codes : List ℕ) (l : Bool) → h ≡ true → l ≡ is_listed codes (erase_code chip.kind) → codes ≡ d.codes
      → l ≡ (not (list_any is_change (map command_data commands)) || can_erase chip d)
  some_change codes l some listed told = listed ∙ ap (λ cs. is_listed cs (erase_code chip.kind)) told ∙ sym (ap (λ b. b || can_erase chip d) (same_test ∙ ap not some))

-- what is refused of the commands, where the device can erase or needn't
module _ (s : StateData) (d : Device) (chip : ChipData) (commands : List Command) where
  places : (b : Bool) → list_all (is_in_flash chip) commands ≡ b → list_all (lies_in_flash chip) (map command_data commands) ≡ b
  places b is = list_all-map (lies_in_flash chip) command_data commands ∙ is

  pub outside : (not (list_any is_change (map command_data commands)) || can_erase chip d) ≡ true → list_all (is_in_flash chip) commands ≡ false
      → first_refusal (command_refusals s d chip (map command_data commands)) ≡ Some OutOfFlash
  outside able is = let lies = places false is in rw (able, lies) refl

  module _ (able : (not (list_any is_change (map command_data commands)) || can_erase chip d) ≡ true) (inside : list_all (is_in_flash chip) commands ≡ true) where
    pub full : nat_le (length s.stack + length (changes_of (map command_data commands))) 65535 ≡ false → first_refusal (command_refusals s d chip (map command_data commands)) ≡ Some Full
    full is = let lies = places true inside in rw (able, lies, is) refl

    pub nothing : nat_le (length s.stack + length (changes_of (map command_data commands))) 65535 ≡ true → first_refusal (command_refusals s d chip (map command_data commands)) ≡ None
    nothing is = let lies = places true inside in rw (able, lies, is) refl
