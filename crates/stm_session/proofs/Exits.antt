-- What the exits of a function share: a step's end, at each of the exits of its `?`, and a page
-- that is read.
use Rattle.std.proofs.Common.{◌≡◌, ◌<◌, ◌++◌, ◌/◌, ◌%◌, ℕ, Bool, List, [], Result, Err, IsErrAnd, length, append-nil, arith}
use Rattle.stm_wire.proofs.Names.{ChipData, GoesOn, InPage, page_count, page_size, RigState}
use Rattle.stm_journal.specs.declared.entry.Entry.{Entry}
use Rattle.stm_journal.proofs.Names.{Loaded}
use Rattle.stm_session.proofs.Names.{AreReadsOf, Begin, Cause, cause_of, DoesSteps, Fault, FaultEnds, Goes, IsInOrder, page_address, page_reads, read_steps, Step, StopsBy}
use Rattle.stm_session.proofs.CutShort.{by_fault, page_stops, page_was_read}
use Rattle.stm_session.proofs.Going.{goes_as, goes_failed}

-- a fault of steps whose lines are all of them
pub goes_fault : {T U : Type 0} {Done1 : T → Type 0} {Done : U → Type 0}
    (flashes : List (List ℕ)) (xs : List Entry) (l2 l3 : Loaded) (a b : RigState) (e : Fault)
    (result : Result U Fault) → Goes flashes xs l2 a b (Err e) Done1
    → IsErrAnd result (λ x. x ≡ e) → Goes flashes xs l3 a b result Done
goes_fault flashes xs l2 l3 a b e result goes is =
    goes_as flashes (xs ++ []) xs l3 a b result (append-nil xs)
    (goes_failed flashes xs [] l2 l3 a b e result goes is)

-- a page that is read whole
module _ (chip : ChipData) (n start size : ℕ) (exists : n < page_count chip)
    (at : start ≡ page_address chip n) (whole : size ≡ page_size chip n) where
  pub in_page : InPage chip n start size
  in_page = record {
    exists = exists;
    begins = omega (arith, at);
    ends = omega (arith, at, whole);
  }

  -- its blocks are steps
  pub reads_page : (l : Loaded) (bytes held : List ℕ) (a b : RigState) → size % 256 ≡ 0
      → ((page : ℕ) → InPage chip page start size → size % 256 ≡ 0 → (torn : Bool)
      → GoesOn (IsInOrder torn (read_steps start (size / 256) bytes)) a.calls b.calls)
      → held ≡ bytes → DoesSteps (page_reads chip n held) l l a b
  reads_page l bytes held a b even order same =
      page_was_read chip n l start size bytes held a b at whole same
      (order n in_page even l.is_torn)

  -- or some of them
  pub read_stops : {U : Type 0} (Q : List Step → Type 0) (torn : Bool) (a b : RigState) (e : Fault)
      (result : Result U Fault) → IsErrAnd result (λ x. x ≡ e) → size % 256 ≡ 0
      → ((held : List ℕ) → length held ≡ page_size chip n
      → (more : List Step) × Q (page_reads chip n held ++ more))
      → ((page : ℕ) → InPage chip page start size → size % 256 ≡ 0 → (torn : Bool)
      → StopsBy (Begin (AreReadsOf start size)) (cause_of e) torn a b)
      → FaultEnds (Begin Q) torn a b result
  read_stops Q torn a b e result is even finish stops =
      by_fault (λ (k : Cause). StopsBy (Begin Q) k torn a b) e result is
      (page_stops Q chip n start size (cause_of e) torn a b at whole finish
      (stops n in_page even torn))
