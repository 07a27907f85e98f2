-- A command: its segment begins, its pages are turned, its segment ends.
use Rattle.std.proofs.Common.{◌≡◌, inl, inr, ℕ, ◌+◌, true, List, ◌∷◌, ◌++◌, length, take, Result, Ok, Err, IsErrAnd, sym, ap, ◌∙◌, subst}
use Rattle.std.proofs.lemmas.Bool.{true≢false}
use Rattle.stm_wire.proofs.Names.{Device, IsModel, RigState}
use Rattle.stm_wire.specs.lemmas.MomentLaws.{joined, weaker}
use Rattle.stm_journal.specs.declared.entry.Entry.{Entry}
use Rattle.stm_journal.proofs.Names.{Loaded}
use Rattle.stm_session.proofs.Names.{AmidCommand, Changes, Closes, Fault, Goes, is_torn_at, is_unfinished_at, IsClosing, IsOutsideFault, SameMake, Stands, text_added, torn_after}
use Rattle.stm_session.proofs.Going.{at_exit, stands_more}
use Rattle.stm_session.proofs.Standing.{makes_then}
use Rattle.stm_session.proofs.Texts.{adds_then, front_part, lines_later, text_added-append}

-- a beginning of some lines is one of those and more
amid_more : (xs ys : List Entry) (flashes : List (List ℕ)) (after : List ℕ) (a : RigState) (d : Device) (journal : List ℕ) → AmidCommand xs flashes after a d journal → AmidCommand (xs ++ ys) flashes after a d journal
amid_more xs ys flashes after a d journal (inl s) = inl (stands_more xs ys flashes a d journal s)
amid_more xs ys flashes after a d journal (inr h) =
    let torn = is_torn_at a.journal in
    let part = front_part h.written (text_added torn xs) (text_added (torn_after torn xs) ys) in
    inr (record {
      undoable = h.undoable;
      make = h.make;
      finished = h.finished;
      written = part.0;
      lines = h.lines ∙ ap (λ bytes. a.journal ++ bytes) (part.1 ∙ ap (λ bytes. take part.0 bytes) (sym (text_added-append torn xs ys)));
    })

-- the segment has begun, and pages are turned
module _ {T : Type 0} {Done1 : T → Type 0} (flashes : List (List ℕ)) (xs ys : List Entry) (after : List ℕ) (l2 : Loaded) (a b c : RigState) (x : T) (first : Changes flashes xs after l2 a b (Ok x) Done1)
    (same : b.device ≡ a.device) (unfinished : is_unfinished_at b.journal ≡ true) where
  page_moment : (d : Device) (journal : List ℕ) → Stands ys (a.device.flash ∷ flashes) b d journal → AmidCommand (xs ++ ys) flashes after a d journal
  page_moment d journal s =
      let M : Device → Type 0 = λ e. SameMake e d in
      inr (record {
        undoable = s.undoable;
        make = subst M same s.make;
        finished = λ f. absurd (true≢false (sym unfinished ∙ (s.finished f).0));
        written = length (text_added (is_torn_at a.journal) xs) + s.written;
        lines = lines_later xs ys a.journal b.journal journal s.written first.lines s.lines;
      })

  pub pages_go : {U : Type 0} {Done : U → Type 0} (l3 : Loaded) (y : U) → Goes (a.device.flash ∷ flashes) ys l3 b c (Ok y) Done → Changes flashes (xs ++ ys) after l3 a c (Ok y) Done
  pages_go l3 y goes =
      record {
        moments = joined (AmidCommand xs flashes after a) (Stands ys (a.device.flash ∷ flashes) b) (AmidCommand (xs ++ ys) flashes after a) a b c first.moments goes.moments (amid_more xs ys flashes after a) page_moment;
        fails = tt;
        honest = goes.honest;
        steady = goes.steady;
        lines = adds_then xs ys a.journal b.journal c.journal first.lines goes.lines;
        done = goes.done;
      }

  pub pages_fail : {U W : Type 0} {Done2 : U → Type 0} {Done : W → Type 0} (zs : List Entry) (l3 l4 : Loaded) (e : Fault) (result : Result W Fault) → Goes (a.device.flash ∷ flashes) ys l3 b c (Err e) Done2
      → IsErrAnd result (λ z. z ≡ e) → Changes flashes ((xs ++ ys) ++ zs) after l4 a c result Done
  pages_fail zs l3 l4 e (Ok y) goes is = absurd is
  pages_fail zs l3 l4 e (Err y) goes is =
      record {
        moments = joined (AmidCommand xs flashes after a) (Stands ys (a.device.flash ∷ flashes) b) (AmidCommand ((xs ++ ys) ++ zs) flashes after a) a b c first.moments goes.moments
            (λ d journal m. amid_more (xs ++ ys) zs flashes after a d journal (amid_more xs ys flashes after a d journal m))
            (λ d journal s. amid_more (xs ++ ys) zs flashes after a d journal (page_moment d journal s));
        fails = subst IsOutsideFault (sym is) goes.fails;
        honest = goes.honest;
        steady = tt;
        lines = tt;
        done = tt;
      }

  pub turned_make : {U : Type 0} {Done : U → Type 0} (l3 : Loaded) (y : U) → IsModel c → Goes (a.device.flash ∷ flashes) ys l3 b c (Ok y) Done → SameMake a.device c.device
  turned_make l3 y model goes = let M : Device → Type 0 = λ e. SameMake e c.device in subst M same (at_exit (Stands ys (a.device.flash ∷ flashes) b) b c model goes.moments).make

-- it doesn't begin
pub begin_fails : {T W : Type 0} {Done1 : T → Type 0} {Done : W → Type 0} (flashes : List (List ℕ)) (xs ys : List Entry) (after : List ℕ) (l2 l4 : Loaded) (a b : RigState) (e : Fault) (result : Result W Fault)
    → Changes flashes xs after l2 a b (Err e) Done1 → IsErrAnd result (λ z. z ≡ e) → Changes flashes (xs ++ ys) after l4 a b result Done
begin_fails flashes xs ys after l2 l4 a b e (Ok y) first is = absurd is
begin_fails flashes xs ys after l2 l4 a b e (Err y) first is =
    record {
      moments = weaker (AmidCommand xs flashes after a) (AmidCommand (xs ++ ys) flashes after a) a b first.moments (amid_more xs ys flashes after a);
      fails = subst IsOutsideFault (sym is) first.fails;
      honest = first.honest;
      steady = tt;
      lines = tt;
      done = tt;
    }

-- its pages are turned, and it ends
module _ {T : Type 0} {Done1 : T → Type 0} (flashes : List (List ℕ)) (ws zs : List Entry) (after : List ℕ) (l3 l4 : Loaded) (a c d : RigState) (x : T) (turned : Changes flashes ws after l3 a c (Ok x) Done1)
    (make : SameMake a.device c.device) (made : c.device.flash ≡ after) where
  close_moment : (e : Device) (journal : List ℕ) → IsClosing zs (a.device.flash ∷ flashes) c e journal → AmidCommand (ws ++ zs) flashes after a e journal
  close_moment e journal s =
      inr (record {
        undoable = s.undoable;
        make = makes_then a.device c.device e make s.make;
        finished = λ f. s.flash ∙ made;
        written = length (text_added (is_torn_at a.journal) ws) + s.written;
        lines = lines_later ws zs a.journal c.journal journal s.written turned.lines s.lines;
      })

  pub end_goes : {U W : Type 0} {Done : W → Type 0} (u : U) (y : W) → Closes (a.device.flash ∷ flashes) zs l4 c d (Ok u) → Done y → Changes flashes (ws ++ zs) after l4 a d (Ok y) Done
  end_goes u y closes done =
      record {
        moments = joined (AmidCommand ws flashes after a) (IsClosing zs (a.device.flash ∷ flashes) c) (AmidCommand (ws ++ zs) flashes after a) a c d turned.moments closes.moments (amid_more ws zs flashes after a) close_moment;
        fails = tt;
        honest = closes.honest;
        steady = closes.steady;
        lines = adds_then ws zs a.journal c.journal d.journal turned.lines closes.lines;
        done = done;
      }

  pub end_fails : {U W : Type 0} {Done : W → Type 0} (l5 : Loaded) (e : Fault) (result : Result W Fault) → Closes {T = U} (a.device.flash ∷ flashes) zs l4 c d (Err e) → IsErrAnd result (λ z. z ≡ e)
      → Changes flashes (ws ++ zs) after l5 a d result Done
  end_fails l5 e (Ok y) closes is = absurd is
  end_fails l5 e (Err y) closes is =
      record {
        moments = joined (AmidCommand ws flashes after a) (IsClosing zs (a.device.flash ∷ flashes) c) (AmidCommand (ws ++ zs) flashes after a) a c d turned.moments closes.moments (amid_more ws zs flashes after a) close_moment;
        fails = subst IsOutsideFault (sym is) closes.fails;
        honest = closes.honest;
        steady = tt;
        lines = tt;
        done = tt;
      }

-- the same lines, spelled otherwise
pub changes_as : {T : Type 0} {Done : T → Type 0} (flashes : List (List ℕ)) (xs ys : List Entry) (after : List ℕ) (l2 : Loaded) (a b : RigState) (result : Result T Fault) → xs ≡ ys
    → Changes flashes xs after l2 a b result Done → Changes flashes ys after l2 a b result Done
changes_as {T} {Done} flashes xs ys after l2 a b result same changes = let C : List Entry → Type 0 = λ es. Changes {T = T} flashes es after l2 a b result Done in subst C same changes
