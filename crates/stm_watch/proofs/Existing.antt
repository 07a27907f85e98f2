-- Of bytes that were each due there is a device of the model whose exchange they are.
use Rattle.std.proofs.Common.{◌≡◌, ℕ, zero, suc, ◌+◌, ◌-◌, ◌<◌, ◌≤◌, Bool, true, false, ◌==◌}
use Rattle.std.proofs.Common.{if◌then◌else◌, true≢false, List, [], ◌∷◌, ◌++◌, length, take, drop}
use Rattle.std.proofs.Common.{replicate, get_or, Option, Some, None, refl, sym, ◌∙◌, ap, subst}
use Rattle.std.proofs.Common.{arith, append-nil, eqb-true}
use Rattle.std.proofs.lemmas.List.{drop_more, length-replicate}
use Rattle.std.proofs.Math.ListN.{set}
use Rattle.stm_watch.specs.declared.sight.Sight.{Sight}
use Rattle.stm_watch.specs.declared.sight.Sight.TheVariants.{Follows, Left, Lost}
use Rattle.stm_wire.specs.declared.verdict.Verdict.{Verdict}
use Rattle.stm_wire.specs.declared.verdict.Verdict.TheVariants.{Done, Refused, Loose}
use Rattle.stm_wire.proofs.Names.{ack, change_of, ChipData, Connected, Device, Feeds, flash_size, Gone, IsChip, IsDevice, nack, Phase, phase_after, reply, step_reply, verdict}
use Rattle.stm_sim.specs.lemmas.SimulatedChange.{done-change-fits}
use Rattle.stm_sim.specs.lemmas.Simulated.{open-nothing}
use Rattle.stm_watch.specs.Known.{Known, count_read, place_read, told, lost, sight_after, judged}
use Rattle.stm_watch.specs.Known.{fed_to, fed, may_hold, is_due_of, is_due_in, heard_of}
use Rattle.stm_watch.specs.Known.{heard_by_sight, heard, known_at_first}
use Rattle.stm_watch.specs.Seen.{MayHold, Agrees, device_known, IsIn, IsSeenAs, IsSeen}
use Rattle.stm_watch.specs.Laws.{LineEvent, Sent, Came, AreDue, Exchanges, IsHeardOf, IsListing}
use Rattle.stm_watch.specs.Laws.{AreEventBytes}
use Rattle.stm_watch.proofs.Placing.{agrees-length}
use Rattle.stm_watch.proofs.Seeing.{answer-parts, reads-same, owes, replies}
use Rattle.stm_watch.proofs.Hearing.{heard-sight, heard-list}
use Rattle.stm_watch.proofs.Undoing.{Bytes, all-bytes, filled, agrees-filled, length-filled}
use Rattle.stm_watch.proofs.Undoing.{bytes-filled, back-changed}
use Rattle.stm_watch.proofs.Keeping.{IsGood, good-fed, good-heard, good-first}

-- a device of which this is known, with a flash of this size
pub record IsPossible (k : Known) (d : Device) : Type 0 where
  pub seen : IsSeen k d
  pub size : length d.flash ≡ flash_size k.chip
  pub bytes : Bytes d.flash

-- a device of which the byte may leave this one
pub record IsFedFrom (byte : ℕ) (k : Known) (new : Device) : Type 0 where
  pub old : Device
  pub possible : IsPossible k old
  pub feeds : Feeds byte old new

abbrev flash_of : Device → List ℕ
flash_of d = d.flash

-- the device with this flash, before a list ended
followed : (k : Known) (flash : List ℕ) → k.sight ≡ Follows → Agrees k.flash flash
    → length flash ≡ flash_size k.chip → Bytes flash
    → IsPossible k (device_known (Connected k.list) k flash)
followed k flash is agrees size bytes =
    let d = device_known (Connected k.list) k flash in
    record { seen = rw is (flash, refl, agrees); size = size; bytes = bytes }

at-end : (k : Known) (b : Bool) (d : Device) → k.list ≡ []
    → IsSeenAs (if b then Left else Follows) k d → IsIn (if b then Gone else Connected []) k d
at-end k true d none is = is
at-end k false d none is = rw none at is

before-end : (k : Known) (bytes : List ℕ) (d : Device) → k.list ≡ []
    → IsSeenAs (sight_after bytes) k d
    → IsIn (phase_after bytes) k d
before-end k [] d none is = rw none at is
before-end k (code ∷ rest) d none is = at-end k (code == 0x21) d none is

from-none : (byte : ℕ) (k : Known) (new : Device) → k.sight ≡ Follows → k.count ≡ 0
    → verdict k.chip k.codes (k.list ++ byte ∷ []) ≡ None
    → IsPossible (judged None (k.list ++ byte ∷ []) k) new → IsFedFrom byte k new
from-none byte k new is none e possible =
    let bytes = k.list ++ byte ∷ [] in
    let now = judged None bytes k in
    let seen : IsIn (Connected bytes) now new = rw is at possible.seen in
    let flash = seen.0 in
    let same : new.flash ≡ flash = ap flash_of seen.1 in
    let old = device_known (Connected k.list) k flash in
    let owed = owes k.due (step_reply bytes) [] (reply k.chip k.version k.codes flash bytes)
    (drop k.at flash) k.count none
    (replies k flash bytes None e ∙ sym (append-nil (step_reply bytes))) in
    record {
      old = old;
      possible = followed k flash is seen.2 (sym (ap length same)
          ∙ possible.size) (rw same at possible.bytes);
      feeds = record {
        receives = rw e (seen.1 ∙ ap (λ o. record (device_known (Connected bytes) now flash) {
          owed =
              o;
        }) (sym owed));
      };
    }

from-refused : (byte : ℕ) (k : Known) (new : Device) → k.sight ≡ Follows → k.count ≡ 0
    → verdict k.chip k.codes (k.list ++ byte ∷ []) ≡ Some Refused
    → IsPossible (judged (Some Refused) (k.list ++ byte ∷ []) k) new → IsFedFrom byte k new
from-refused byte k new is none e possible =
    let bytes = k.list ++ byte ∷ [] in
    let now = judged (Some Refused) bytes k in
    let seen : IsIn (Connected []) now new = rw is at possible.seen in
    let flash = seen.0 in
    let same : new.flash ≡ flash = ap flash_of seen.1 in
    let old = device_known (Connected k.list) k flash in
    let owed = owes k.due (nack ∷ []) [] (reply k.chip k.version k.codes flash bytes)
    (drop k.at flash) k.count none (replies k flash bytes (Some Refused) e) in
    record {
      old = old;
      possible = followed k flash is seen.2 (sym (ap length same)
          ∙ possible.size) (rw same at possible.bytes);
      feeds = record {
        receives = rw e (seen.1 ∙ ap (λ o. record (device_known (Connected []) now flash) {
          owed =
              o;
        }) (sym owed));
      };
    }

from-done : (byte : ℕ) (k : Known) (new : Device) → IsGood k → k.sight ≡ Follows → k.count ≡ 0
    → verdict k.chip k.codes (k.list ++ byte ∷ []) ≡ Some Done
    → IsPossible (judged (Some Done) (k.list ++ byte ∷ []) k) new → IsFedFrom byte k new
from-done byte k new good is none e possible =
    let bytes = k.list ++ byte ∷ [] in
    let now = judged (Some Done) bytes k in
    let seen : IsIn (phase_after bytes) now new = before-end now bytes new refl possible.seen in
    let after = seen.0 in
    let same : new.flash ≡ after = ap flash_of seen.1 in
    let size : length after ≡ flash_size k.chip = sym (ap length same) ∙ possible.size in
    let before =
    back-changed k.chip (change_of bytes) k.flash after good.chip.erased
    (done-change-fits k.chip k.codes bytes e) good.size size good.small (rw same at possible.bytes)
    seen.2 in
    let flash = before.old in
    let old = device_known (Connected k.list) k flash in
    let more = take (count_read k.chip bytes) (drop (place_read k.chip bytes) after) in
    let owed = owes k.due (ack ∷ told k.chip k.version k.codes bytes) more
    (reply k.chip k.version k.codes flash bytes) (drop k.at flash) k.count none
    (replies k flash bytes (Some Done) e
    ∙ ap (λ xs. ack ∷ xs)
    (answer-parts k.chip k.version k.codes flash bytes
    ∙ ap (λ xs. told k.chip k.version k.codes bytes ++ xs)
    (reads-same k.chip bytes flash after before.effect))) in
    record {
      old = old;
      possible = followed k flash is before.agrees
          (sym (agrees-length k.flash flash before.agrees) ∙ good.size) before.bytes;
      feeds = record {
        receives = rw e (
          after,
          before.effect,
          seen.1
              ∙ ap (λ o. record (device_known (phase_after bytes) now after) {
                owed =
                    o;
              }) (sym owed),
        );
      };
    }

from-judged : (v : Option Verdict) (byte : ℕ) (k : Known) (new : Device) → IsGood k
    → k.sight ≡ Follows → k.count ≡ 0 → verdict k.chip k.codes (k.list ++ byte ∷ []) ≡ v
    → ((judged v (k.list ++ byte ∷ []) k).sight ≡ Lost → ⊥)
    → IsPossible (judged v (k.list ++ byte ∷ []) k) new → IsFedFrom byte k new
from-judged None byte k new good is none e known possible = from-none byte k new is none e possible
from-judged (Some Refused) byte k new good is none e known possible =
    from-refused byte k new is none e possible
from-judged (Some Done) byte k new good is none e known possible =
    from-done byte k new good is none e possible
from-judged (Some Loose) byte k new good is none e known possible = absurd (known refl)

from-fed_to : (s : Sight) (byte : ℕ) (k : Known) (new : Device) → IsGood k → k.sight ≡ s
    → k.count ≡ 0 → ((fed_to s byte k).sight ≡ Lost → ⊥) → IsPossible (fed_to s byte k) new
    → IsFedFrom byte k new
from-fed_to Lost byte k new good is none known possible = absurd (known is)
from-fed_to Left byte k new good is none known possible =
    let seen : IsIn Gone k new = rw is at possible.seen in
    record {
      old = new;
      possible = possible;
      feeds = record { receives = rw seen.1 refl };
    }
from-fed_to Follows byte k new good is none known possible =
    from-judged (verdict k.chip k.codes (k.list ++ byte ∷ [])) byte k new good is none refl known
    possible

from-if : (b : Bool) (byte : ℕ) (k : Known) (new : Device) → IsGood k → (k.count == 0) ≡ b
    → ((if b then fed_to k.sight byte k else lost k).sight ≡ Lost → ⊥)
    → IsPossible (if b then fed_to k.sight byte k else lost k) new → IsFedFrom byte k new
from-if false byte k new good is known possible = absurd (known refl)
from-if true byte k new good is known possible =
    from-fed_to k.sight byte k new good refl (eqb-true k.count 0 is) known possible

from-fed : (byte : ℕ) (k : Known) (new : Device) → IsGood k → ((fed byte k).sight ≡ Lost → ⊥)
    → IsPossible (fed byte k) new → IsFedFrom byte k new
from-fed byte k new good known possible = from-if (k.count == 0) byte k new good refl known possible

-- A byte that came:

abbrev with_owed : ℕ → Device → Device
with_owed byte d = record d { owed = byte ∷ d.owed }

holds-unset : (k : Option ℕ) (byte b : ℕ) → byte ≡ b → may_hold byte k ≡ true → MayHold k b
holds-unset None byte b same may = tt
holds-unset (Some v) byte b same may = eqb-true v byte may ∙ same

agrees-unset : (ks : List (Option ℕ)) (bs : List ℕ) (at byte : ℕ) → at < length ks
    → Agrees (set ks at (Some byte)) bs → may_hold byte (get_or ks at None) ≡ true
    → Agrees ks bs × (byte ≡ get_or bs at byte)
agrees-unset [] bs at byte here a may = absurd (omega (arith, here))
agrees-unset (k ∷ ks) [] zero byte here a may = absurd a
agrees-unset (k ∷ ks) [] (suc at) byte here a may = absurd a
agrees-unset (k ∷ ks) (b ∷ bs) zero byte here a may =
    ((holds-unset k byte b a.0 may, a.1), a.0)
agrees-unset (k ∷ ks) (b ∷ bs) (suc at) byte here a may =
    let more = agrees-unset ks bs at byte (omega (arith, here)) a.1 may in
    ((a.0, more.0), more.1)

some-of : (n : ℕ) → (n == 0) ≡ false → 1 ≤ n
some-of zero e = absurd (true≢false e)
some-of (suc n) e = omega arith

due-by : (b : Bool) (n : ℕ) (t : Bool) → (n == 0) ≡ b → (if b then false else t) ≡ true
    → (1 ≤ n) × (t ≡ true)
due-by true n t is e = absurd (true≢false (sym e))
due-by false n t is e = (some-of n is, e)

due-some : (n : ℕ) (t : Bool) → (if n == 0 then false else t) ≡ true → (1 ≤ n) × (t ≡ true)
due-some n t e = due-by (n == 0) n t refl e

before-of : (phase : Phase) (k : Known) (due : List ℕ) (byte : ℕ) (new : Device) → IsGood k
    → k.due ≡ due → is_due_of k due byte ≡ true → IsIn phase (heard_of k due byte) new
    → IsIn phase k (with_owed byte new)
before-of phase k (b ∷ rest) byte new good is due seen =
    let owed : byte ∷ (rest ++ take k.count (drop k.at seen.0))
    ≡ k.due ++ take k.count (drop k.at seen.0) =
    ap (λ x. x ∷ (rest ++ take k.count (drop k.at seen.0))) (sym (eqb-true b byte due))
    ∙ ap (λ xs. xs ++ take k.count (drop k.at seen.0)) (sym is) in (
      seen.0,
      ap (λ d. with_owed byte d) seen.1
          ∙ ap (λ o. record (device_known phase k seen.0) { owed = o }) owed,
      seen.2,
    )
before-of phase k [] byte new good is due seen =
    let flash = seen.0 in
    let some = due-some k.count _ due in
    let inside = good.inside some.0 in
    let here : k.at < length k.flash = omega (arith, good.size, inside, some.0) in
    let was = agrees-unset k.flash flash k.at byte here seen.2 some.1 in
    let there : k.at < length flash = omega (arith, here, agrees-length k.flash flash was.0) in
    let less : k.count ≡ suc (k.count - 1) = omega (arith, some.0) in
    let parts : drop k.at flash ≡ byte ∷ drop (k.at + 1) flash =
    drop_more flash k.at byte there ∙ ap (λ x. x ∷ drop (k.at + 1) flash) (sym was.1) in
    let all : take k.count (drop k.at flash) ≡ byte ∷ take (k.count - 1) (drop (k.at + 1) flash) =
    ap (λ n. take n (drop k.at flash)) less
    ∙ ap (λ xs. take (suc (k.count - 1)) xs) parts in
    let owed : byte ∷ (k.due ++ take (k.count - 1) (drop (k.at + 1) flash))
    ≡ k.due ++ take k.count (drop k.at flash) =
    ap (λ xs. byte ∷ (xs ++ take (k.count - 1) (drop (k.at + 1) flash))) is ∙ sym all
    ∙ ap (λ xs. xs ++ take k.count (drop k.at flash)) (sym is) in (
      flash,
      ap (λ d. with_owed byte d) seen.1
          ∙ ap (λ o. record (device_known phase k flash) { owed = o }) owed,
      was.0,
    )

of-chip : (k : Known) (due : List ℕ) (byte : ℕ) → (heard_of k due byte).chip ≡ k.chip
of-chip k [] byte = refl
of-chip k (b ∷ due) byte = refl

before-in : (s : Sight) (byte : ℕ) (k : Known) (new : Device) → IsGood k → k.sight ≡ s
    → is_due_in s byte k ≡ true → ((heard_by_sight s byte k).sight ≡ Lost → ⊥)
    → IsPossible (heard_by_sight s byte k) new → IsPossible k (with_owed byte new)
before-in Lost byte k new good is due known possible = absurd (known is)
before-in Left byte k new good is due known possible =
    let mid = heard_of k k.due byte in
    let P : Sight → Type 0 = λ s. IsSeenAs s mid new in
    let seen : IsIn Gone mid new = subst P (heard-sight k k.due byte ∙ is) possible.seen in
    record {
      seen = rw is (before-of Gone k k.due byte new good refl due seen);
      size = possible.size ∙ ap flash_size (of-chip k k.due byte);
      bytes = possible.bytes;
    }
before-in Follows byte k new good is due known possible =
    let mid = heard_of k k.due byte in
    let P : Sight → Type 0 = λ s. IsSeenAs s mid new in
    let L : List ℕ → Type 0 = λ xs. IsIn (Connected xs) mid new in
    let seen : IsIn (Connected k.list) mid new =
    subst L (heard-list k k.due byte) (subst P (heard-sight k k.due byte ∙ is) possible.seen) in
    record {
      seen = rw is (before-of (Connected k.list) k k.due byte new good refl due seen);
      size = possible.size ∙ ap flash_size (of-chip k k.due byte);
      bytes = possible.bytes;
    }

-- Where nothing is known once, nothing is known later:

lost-fed : (byte : ℕ) (k : Known) → k.sight ≡ Lost → (fed byte k).sight ≡ Lost
lost-fed byte k is =
    elim (k.count == 0) as (λ b. (if b then fed_to k.sight byte k else lost k).sight ≡ Lost) [
      | true ↦ ap (λ s. (fed_to s byte k).sight) is ∙ is
      | false ↦ refl
    ]

lost-heard : (byte : ℕ) (k : Known) → k.sight ≡ Lost → (heard byte k).sight ≡ Lost
lost-heard byte k is = ap (λ s. (heard_by_sight s byte k).sight) is ∙ is

lost-stays : (events : List LineEvent) (old new : Known) → old.sight ≡ Lost → AreDue events old new
    → new.sight ≡ Lost
lost-stays [] old new is due = ap (λ (k : Known). k.sight) due ∙ is
lost-stays (Sent byte ∷ events) old new is due =
    lost-stays events (fed byte old) new (lost-fed byte old is) due
lost-stays (Came byte ∷ events) old new is due =
    lost-stays events (heard byte old) new (lost-heard byte old is) due.1

-- a device that this may all have been of
pub record IsExchangeOf (events : List LineEvent) (k : Known) : Type 0 where
  pub first : Device
  pub last : Device
  pub possible : IsPossible k first
  pub exchange : Exchanges events first last

zeros : (n : ℕ) → Bytes (replicate n 0)
zeros zero = tt
zeros (suc n) = (omega arith, zeros n)

possible-in : (phase : Phase) (k : Known) → IsGood k
    → ((flash : List ℕ) → IsIn phase k (device_known phase k flash)
    → IsSeen k (device_known phase k flash)) → (d : Device) × IsPossible k d
possible-in phase k good sees =
    let any : List ℕ = replicate (flash_size k.chip) 0 in
    let any_size : length any ≡ flash_size k.chip =
    length-replicate {A = ℕ} (flash_size k.chip) 0 in
    let flash = filled k.flash any in (
      device_known phase k flash,
      record {
        seen = sees flash (flash, refl, agrees-filled k.flash any (good.size ∙ sym any_size));
        size = length-filled k.flash any ∙ any_size;
        bytes = bytes-filled k.flash any good.small (zeros (flash_size k.chip));
      },
    )

any-possible : (s : Sight) (k : Known) → IsGood k → k.sight ≡ s → (k.sight ≡ Lost → ⊥)
    → (d : Device) × IsPossible k d
any-possible Lost k good is known = absurd (known is)
any-possible Left k good is known = possible-in Gone k good (λ flash in_it. rw is in_it)
any-possible Follows k good is known =
    possible-in (Connected k.list) k good (λ flash in_it. rw is in_it)

exchange-of : (events : List LineEvent) (k last : Known) → IsGood k → AreEventBytes events
    → AreDue events k last → (last.sight ≡ Lost → ⊥) → IsExchangeOf events k
exchange-of [] k last good small due known =
    let here : k.sight ≡ Lost → ⊥ = λ is. known (ap (λ (l : Known). l.sight) due ∙ is) in
    let some = any-possible k.sight k good refl here in
    record { first = some.0; last = some.0; possible = some.1; exchange = refl }
exchange-of (Sent byte ∷ events) k last good small due known =
    let rest = exchange-of events (fed byte k) last (good-fed byte k good small.0) small.1 due
    known in
    let here : (fed byte k).sight ≡ Lost → ⊥ =
    λ is. known (lost-stays events (fed byte k) last is due) in
    let from = from-fed byte k rest.first good here rest.possible in
    record {
      first = from.old;
      last = rest.last;
      possible = from.possible;
      exchange = (rest.first, from.feeds, rest.exchange);
    }
exchange-of (Came byte ∷ events) k last good small due known =
    let rest = exchange-of events (heard byte k) last (good-heard byte k good small.0) small.1
    due.1 known in
    let here : (heard byte k).sight ≡ Lost → ⊥ =
    λ is. known (lost-stays events (heard byte k) last is due.1) in
    record {
      first = with_owed byte rest.first;
      last = rest.last;
      possible = before-in k.sight byte k rest.first good refl due.0 here rest.possible;
      exchange = (rest.first, refl, rest.exchange);
    }

-- it is one of the model
is-device : (chip : ChipData) (version : ℕ) (codes flash : List ℕ) → IsChip chip
    → IsListing chip version codes → length flash ≡ flash_size chip → Bytes flash
    → IsDevice (device_known (Connected []) (known_at_first chip version codes) flash)
is-device chip version codes flash is lists size bytes =
    record {
      chip = is;
      version = lists.byte;
      codes = lists.bytes;
      count = lists.count;
      get = lists.get;
      get_id = lists.get_id;
      read = lists.read;
      write = lists.write;
      erase = lists.erase;
      no_connect = lists.no_connect;
      size = size;
      flash = all-bytes flash bytes;
      phase = (open-nothing chip codes, λ k e h. absurd (omega (arith, h)));
    }

pub heard-of : (chip : ChipData) (version : ℕ) (codes : List ℕ) (events : List LineEvent) (last : Known)
    → IsChip chip → IsListing chip version codes → AreEventBytes events
    → AreDue events (known_at_first chip version codes) last
    → (last.sight ≡ Lost → ⊥) → IsHeardOf chip version codes events
heard-of chip version codes events last is lists small due known =
    let k = known_at_first chip version codes in
    let e = exchange-of events k last (good-first chip version codes is) small due known in
    let seen : IsIn (Connected []) k e.first = e.possible.seen in
    let same : e.first.flash ≡ seen.0 = ap flash_of seen.1 in
    record {
      first = e.first;
      last = e.last;
      chip = ap (λ (d : Device). d.chip) seen.1;
      version = ap (λ (d : Device). d.version) seen.1;
      codes = ap (λ (d : Device). d.codes) seen.1;
      settled = record {
        phase = ap (λ (d : Device). d.phase) seen.1;
        owed = ap (λ (d : Device). d.owed) seen.1;
      };
      device = rw seen.1
          (is-device chip version codes seen.0 is lists (sym (ap length same) ∙ e.possible.size)
          (rw same at e.possible.bytes));
      exchange = e.exchange;
    }
