-- Pages are kept before they change.
use Rattle.std.proofs.Common.{◌≡◌, ℕ, ◌<◌, ◌==◌, ◌&&◌, Bool, true, false, arith, if◌then◌else◌, List, [], ◌∷◌, refl, sym, ◌∙◌, ap, subst}
use Rattle.std.proofs.lemmas.Bool.{false≢true}
use Rattle.std.proofs.Common.{◌/◌, ◌%◌, Result, Ok, Err, append-nil}
use Rattle.std.specs.Prelude.{IfOk, Vec, vec_len}
use Rattle.std.specs.declared.alloc.Global.{Global}
use Rattle.stm_session.proofs.Names.{AreReadsIf, AreReadsOf, Asks, Begin, both_entries, bytes_at, Fault, FaultEnds, has_companion, IsInOrder, page_address, page_reads, read_steps, ReadsIf}
use Rattle.stm_session.proofs.Names.{save_entries, StepLaws}
use Rattle.stm_wire.proofs.Names.{ChipData, GoesOn, InPage, IsModel, IsSettled, page_count, page_of, page_size, RigState}
use Rattle.stm_session.proofs.Exits.{read_stops, reads_page}
use Rattle.stm_session.proofs.Going.{asks_fail, asks_go, goes_nowhere}
use Rattle.stm_session.proofs.Orders.{does_nothing}
use Rattle.stm_session.proofs.Restorings.{page_read}
use Rattle.stm_journal.specs.declared.entry.Entry.{Entry}
use Rattle.stm_journal.specs.declared.entry.Entry.TheVariants.{Keeps}
use Rattle.stm_journal.proofs.Names.{Loaded}

-- page 1
and-left : (a b : Bool) → (a && b) ≡ true → a ≡ true
and-left true b h = refl
and-left false b h = h

pub is_first : (n : ℕ) (b : Bool) → (n == 1 && b) ≡ true → n ≡ 1
is_first n b h = let one : (n == 1) ≡ true = and-left (n == 1) b h in grind (arith, one)

-- their lines
module _ (kept : Bool) (chip : ChipData) (flash : List ℕ) (n : ℕ) where
  pub none_lines : kept ≡ true → [] ≡ save_entries kept chip flash n
  none_lines already = sym (ap (λ (b : Bool). if b then [] else both_entries chip flash n) already)

  some_lines : kept ≡ false → both_entries chip flash n ≡ save_entries kept chip flash n
  some_lines fresh = sym (ap (λ (b : Bool). if b then [] else both_entries chip flash n) fresh)

  pub one_lines : (held : List ℕ) → kept ≡ false → (n == 1 && has_companion chip) ≡ false → held ≡ page_of chip flash n → Keeps n held ∷ [] ≡ save_entries kept chip flash n
  one_lines held fresh alone read =
      ap (λ (bytes : List ℕ). let e : Entry = Keeps n bytes in e ∷ []) read
      ∙ sym (ap (λ (b : Bool). if b then Keeps 257 (page_of chip flash 257) ∷ Keeps 1 (page_of chip flash 1) ∷ [] else Keeps n (page_of chip flash n) ∷ []) alone)
      ∙ some_lines fresh

  pub both_lines : (held : List ℕ) → kept ≡ false → (n == 1 && has_companion chip) ≡ true → held ≡ page_of chip flash 1
      → Keeps 257 (page_of chip flash 257) ∷ Keeps 1 held ∷ [] ≡ save_entries kept chip flash n
  both_lines held fresh both read =
      ap (λ (bytes : List ℕ). let e : Entry = Keeps 257 (page_of chip flash 257) in e ∷ Keeps 1 bytes ∷ []) read
      ∙ sym (ap (λ (b : Bool). if b then Keeps 257 (page_of chip flash 257) ∷ Keeps 1 (page_of chip flash 1) ∷ [] else Keeps n (page_of chip flash n) ∷ []) both)
      ∙ some_lines fresh

-- a page is read where it is due
pub reads_none : (laws : StepLaws) (chip : ChipData) (n : ℕ) (l : Loaded) (a : RigState) (due : Bool)
    → (a.is_honest → IsModel a) → due ≡ false → (none : Vec ℕ Global)
    → ReadsIf due chip n l a a (Ok none)
reads_none laws chip n l a due model idle none =
    let D : Bool → Type 0 = λ b. ReadsIf b chip n l a a (Ok none) in
    subst D (sym idle)
    (record {
      size = λ t. absurd (false≢true t);
      order = does_nothing l a;
      stops = tt;
      honest = λ flashes steady same.
          goes_nowhere laws flashes l a none _ (model steady.honest) steady
          (refl, λ t. absurd (false≢true t));
    })

module _ (chip : ChipData) (n start size : ℕ) (exists : n < page_count chip)
    (at : start ≡ page_address chip n) (whole : size ≡ page_size chip n) (even : size % 256 ≡ 0)
    (laws : StepLaws) (l : Loaded) (a b : RigState) where
  pub reads_due : (due : Bool) → due ≡ true → (r : Result (Vec ℕ Global) Fault)
      → IfOk r (λ held. vec_len held ≡ size)
      → ((page : ℕ) → InPage chip page start size → size % 256 ≡ 0 → (torn : Bool)
      → IfOk r (λ held.
      GoesOn (IsInOrder torn (read_steps start (size / 256) held.items)) a.calls b.calls))
      → ((page : ℕ) → InPage chip page start size → size % 256 ≡ 0 → (torn : Bool)
      → FaultEnds (Begin (AreReadsOf start size)) torn a b r)
      → (a.is_honest → IsSettled a.device → a.device.chip ≡ chip
      → Asks a b r (λ held. held.items ≡ bytes_at chip a.device.flash start size))
      → ReadsIf due chip n l a b r
  reads_due due is r long order stops honest =
      let D : Bool → Type 0 = λ d. ReadsIf d chip n l a b r in
      subst D (sym is) (by_answer r long order stops honest)
    where
      by_answer : (r : Result (Vec ℕ Global) Fault) → IfOk r (λ held. vec_len held ≡ size)
          → ((page : ℕ) → InPage chip page start size → size % 256 ≡ 0 → (torn : Bool)
          → IfOk r (λ held.
          GoesOn (IsInOrder torn (read_steps start (size / 256) held.items)) a.calls b.calls))
          → ((page : ℕ) → InPage chip page start size → size % 256 ≡ 0 → (torn : Bool)
          → FaultEnds (Begin (AreReadsOf start size)) torn a b r)
          → (a.is_honest → IsSettled a.device → a.device.chip ≡ chip
          → Asks a b r (λ held. held.items ≡ bytes_at chip a.device.flash start size))
          → ReadsIf true chip n l a b r
      by_answer (Ok held) long order stops honest = record {
        size = λ t. long ∙ whole;
        order = reads_page chip n start size exists at whole l held.items held.items a b even order refl;
        stops = tt;
        honest = λ flashes steady same.
            let asks = honest steady.honest steady.settled same in
            asks_go laws flashes l a b steady held held asks
            (λ done. (asks.same, λ t. done ∙ page_read chip a.device.flash n start size at whole));
      }
      by_answer (Err e) long order stops honest = record {
        size = tt;
        order = tt;
        stops = read_stops chip n start size exists at whole {U = Vec ℕ Global} (AreReadsIf true chip n) l.is_torn a b e
            (Err e) refl even (λ held many. ([], (held, λ t. many, append-nil (page_reads chip n held))))
            stops;
        honest = λ flashes steady same.
            asks_fail laws flashes l a b steady [] l e (Err e)
            (honest steady.honest steady.settled same) refl;
      }
