-- Journals that the definitions compute.
use Rattle.std.specs.Prelude.{◌≡◌, ℕ, List, [], ◌∷◌, ◌++◌, codes, Some, None, true, false, refl}
use Rattle.hex.proofs.OnLiterals.{hex_on_literals}
use Rattle.stm_wire.specs.declared.intent.Intent.TheVariants.{Erase}
use Rattle.stm_journal.specs.declared.stage.Stage.TheVariants.{Open, Returning}
use Rattle.stm_journal.specs.Journals.{good, bad, journal_of}
use Rattle.stm_journal.specs.Greetings.{is_greeted, may_greet}

abbrev LF : List ℕ
LF = 10 ∷ []

abbrev begun : List ℕ
begun = codes "stmjournal 1 0412" ++ LF ++ codes "open 1" ++ LF

empty : journal_of [] ≡ good (record { header = None; stack = [] })
empty = refl

void_first : journal_of (codes "x!" ++ LF ++ begun) ≡ good (record {
  header = Some (record { version = 1; id = 0x412; unique = []; line = 2 });
  stack = record { pages = []; stage = Open None } ∷ [];
})
unfolding hex_on_literals
void_first = refl

intent_without_page : journal_of (begun ++ codes "erase 0" ++ LF) ≡ bad 3
unfolding hex_on_literals
intent_without_page = refl

leading_zero : journal_of (begun ++ codes "page 00 FF" ++ LF) ≡ bad 3
unfolding hex_on_literals
leading_zero = refl

lower_case : journal_of (begun ++ codes "page 0 ff" ++ LF) ≡ bad 3
unfolding hex_on_literals
lower_case = refl

odd_digits : journal_of (begun ++ codes "page 0 F" ++ LF) ≡ bad 3
unfolding hex_on_literals
odd_digits = refl

no_digits : journal_of (begun ++ codes "page 0 " ++ LF) ≡ bad 3
unfolding hex_on_literals
no_digits = refl

opened_twice : journal_of (begun ++ codes "end 1" ++ LF ++ codes "open 1" ++ LF) ≡ bad 4
unfolding hex_on_literals
opened_twice = refl

abbrev half_undone : List ℕ
half_undone = begun ++ codes "page 0 00" ++ LF ++ codes "end 1" ++ LF ++ codes "erase 0" ++ LF

returning : journal_of half_undone
    ≡ good (record {
      header = Some (record { version = 1; id = 0x412; unique = []; line = 1 });
      stack = record {
        pages = record { page = 0; bytes = 0 ∷ []; line = 3; at = 32 } ∷ [];
        stage = Returning (Erase 0);
      } ∷ [];
    })
unfolding hex_on_literals
returning = refl

undone : journal_of (half_undone ++ codes "undone 1" ++ LF)
    ≡ good (record { header = Some (record { version = 1; id = 0x412; unique = []; line = 1 }); stack = [] })
unfolding hex_on_literals
undone = refl

wrong_depth : journal_of (codes "stmjournal 1 0412" ++ LF ++ codes "open 2" ++ LF) ≡ bad 2
unfolding hex_on_literals
wrong_depth = refl

torn : journal_of (begun ++ codes "page 0 FFFF") ≡ good (record {
  header = Some (record { version = 1; id = 0x412; unique = []; line = 1 });
  stack = record { pages = []; stage = Open None } ∷ [];
})
unfolding hex_on_literals
torn = refl

version_two : journal_of (codes "stmjournal 2 0412" ++ LF)
    ≡ good (record { header = Some (record { version = 2; id = 0x412; unique = []; line = 1 }); stack = [] })
unfolding hex_on_literals
version_two = refl

other_version : journal_of (codes "stmjournal 3 0412" ++ LF) ≡ bad 1
unfolding hex_on_literals
other_version = refl

-- version 3: a product id and a unique id of eight bytes
abbrev board : List ℕ
board = codes "stmjournal 3 0412 00FF102030405060" ++ LF

abbrev eight : List ℕ
eight = 0 ∷ 0xFF ∷ 0x10 ∷ 0x20 ∷ 0x30 ∷ 0x40 ∷ 0x50 ∷ 0x60 ∷ []

version_three : journal_of board ≡ good (record {
  header = Some (record { version = 3; id = 0x412; unique = eight; line = 1 });
  stack = [];
})
unfolding hex_on_literals
version_three = refl

board_begun : journal_of (board ++ codes "open 1" ++ LF ++ codes "page 0 00" ++ LF)
    ≡ good (record {
      header = Some (record { version = 3; id = 0x412; unique = eight; line = 1 });
      stack = record {
        pages = record { page = 0; bytes = 0 ∷ []; line = 3; at = 49 } ∷ [];
        stage = Open None;
      } ∷ [];
    })
unfolding hex_on_literals
board_begun = refl

board_named_again : journal_of (board ++ board) ≡ bad 2
unfolding hex_on_literals
board_named_again = refl

seven_bytes : journal_of (codes "stmjournal 3 0412 00FF1020304050" ++ LF) ≡ bad 1
unfolding hex_on_literals
seven_bytes = refl

fifteen_digits : journal_of (codes "stmjournal 3 0412 00FF10203040506" ++ LF) ≡ bad 1
unfolding hex_on_literals
fifteen_digits = refl

lower_case_board : journal_of (codes "stmjournal 3 0412 00ff102030405060" ++ LF) ≡ bad 1
unfolding hex_on_literals
lower_case_board = refl

board_and_more : journal_of (codes "stmjournal 3 0412 00FF102030405060 " ++ LF) ≡ bad 1
unfolding hex_on_literals
board_and_more = refl

no_board : journal_of (codes "stmjournal 3 0412 " ++ LF) ≡ bad 1
unfolding hex_on_literals
no_board = refl

board_in_version_two : journal_of (codes "stmjournal 2 0412 00FF102030405060" ++ LF) ≡ bad 1
unfolding hex_on_literals
board_in_version_two = refl

great_number : journal_of (begun ++ codes "page 65536 FF" ++ LF) ≡ bad 3
unfolding hex_on_literals
great_number = refl

greeted : is_greeted (half_undone ++ codes "connect!" ++ LF) ≡ true
greeted = refl

greeted_behind : is_greeted (half_undone ++ codes "connect!" ++ LF ++ codes "er") ≡ true
greeted_behind = refl

greeted_before : is_greeted (half_undone ++ codes "connect!" ++ LF ++ codes "erase 0" ++ LF) ≡ false
greeted_before = refl

no_greeting : is_greeted (half_undone ++ codes "xconnect!" ++ LF) ≡ false
no_greeting = refl

half_a_greeting : may_greet (half_undone ++ codes "connect") ≡ false
half_a_greeting = refl

-- a torn greeting that is marked is one: it says more than was sent
marked_greeting : is_greeted (half_undone ++ codes "connect" ++ codes "!" ++ LF) ≡ true
marked_greeting = refl
