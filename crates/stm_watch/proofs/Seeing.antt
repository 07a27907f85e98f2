-- A device that follows the model is as what is known of it says, after each byte.
use Rattle.std.proofs.Common.{◌≡◌, ◌⊎◌, inl, inr, ⊎_elim, ℕ, ◌+◌, ◌-◌, Bool, true, false, ◌==◌}
use Rattle.std.proofs.Common.{if◌then◌else◌, List, [], ◌∷◌, ◌++◌, length, take, drop, replicate}
use Rattle.std.proofs.Common.{Option, Some, None, refl, sym, ◌∙◌, ap, subst, append-nil, eqb-true}
use Rattle.std.proofs.Common.{append_assoc}
use Rattle.stm_watch.specs.declared.sight.Sight.{Sight}
use Rattle.stm_watch.specs.declared.sight.Sight.TheVariants.{Follows, Left, Lost}
use Rattle.stm_wire.specs.declared.verdict.Verdict.{Verdict}
use Rattle.stm_wire.specs.declared.verdict.Verdict.TheVariants.{Done, Refused, Loose}
use Rattle.stm_wire.proofs.Names.{ack, answer, Change, change_of, ChipData, commands_answer, Connected, Device, Effect, EraseAll, erased_byte, ErasePages, Feeds, fits_inside, Gone, id_answer, nack}
use Rattle.stm_wire.proofs.Names.{Nothing, number_of, phase_after, read_answer, reply, reply_to, step_reply, Takes, verdict, Write}
use Rattle.stm_watch.specs.Known.{Known, stored_all, changed_known}
use Rattle.stm_watch.specs.Known.{count_of_read, place_of_read, told_of_read, count_read}
use Rattle.stm_watch.specs.Known.{place_read, told, lost, sight_after, judged, fed_to, fed}
use Rattle.stm_watch.specs.Seen.{Agrees, device_known, IsIn, IsSeenAs, IsSeen}
use Rattle.stm_watch.proofs.Placing.{agrees-length, agrees-put, agrees-replicate, agrees-erased}
use Rattle.stm_watch.proofs.Placing.{agrees-take, agrees-drop, agrees-stored}

-- what a change leaves of the flash agrees with what is known of that
pub agrees-changed : (chip : ChipData) (change : Change) (ks : List (Option ℕ)) (old new : List ℕ)
    → Agrees ks old → Effect chip change old new → Agrees (changed_known chip change ks) new
agrees-changed chip Nothing ks old new a e =
    let P : List ℕ → Type 0 = λ f. Agrees ks f in subst P (sym e) a
agrees-changed chip (ErasePages pages) ks old new a e =
    rw e (agrees-erased chip pages ks old a)
agrees-changed chip EraseAll ks old new a e =
    let same : new ≡ replicate (length ks) (erased_byte chip) =
    e ∙ ap (λ n. replicate n (erased_byte chip)) (sym (agrees-length ks old a)) in
    rw same (agrees-replicate (length ks) (erased_byte chip))
agrees-changed chip (Write address sent) ks old new a e =
    let at = address - chip.base in
    let olds = take (length sent) (drop at old) in
    let places = take (length sent) (drop at ks) in
    let part =
    agrees-stored (erased_byte chip) places olds sent e.0
    (agrees-take (length sent) (drop at ks) (drop at old) (agrees-drop at ks old a)) e.1 in
    rw e.2 (agrees-put at (stored_all (erased_byte chip) places sent) ks e.0 old part a)

-- What a done list is answered: what is told, and then bytes of the flash.

read-if : (t : Bool) (n : ℕ) (bytes other : List ℕ)
    → (if t then take n bytes else other)
    ≡ (if t then [] else other) ++ take (if t then n else 0) bytes
read-if true n bytes other = refl
read-if false n bytes other = sym (append-nil other)

read-parts : (chip : ChipData) (flash rest : List ℕ)
    → read_answer chip flash rest
    ≡ told_of_read chip rest ++ take (count_of_read chip rest) (drop (place_of_read chip rest)
    flash)
read-parts chip flash [] = refl
read-parts chip flash (a ∷ []) = refl
read-parts chip flash (a ∷ b ∷ []) = refl
read-parts chip flash (a ∷ b ∷ c ∷ []) = refl
read-parts chip flash (a ∷ b ∷ c ∷ d ∷ []) = refl
read-parts chip flash (a ∷ b ∷ c ∷ d ∷ check ∷ []) = refl
read-parts chip flash (a ∷ b ∷ c ∷ d ∷ check ∷ n ∷ rest) =
    read-if (fits_inside chip (number_of a b c d) (n + 1)) (n + 1)
    (drop (number_of a b c d - chip.base) flash) _

answer-if : (x y z : Bool) (n : ℕ) (a b c told bytes : List ℕ) → c ≡ told ++ take n bytes
    → (if x then a else (if y then b else (if z then c else [])))
    ≡ (if x then a else (if y then b else (if z then told else [])))
    ++ take (if x then 0 else (if y then 0 else (if z then n else 0))) bytes
answer-if true y z n a b c told bytes e = sym (append-nil a)
answer-if false true z n a b c told bytes e = sym (append-nil b)
answer-if false false true n a b c told bytes e = e
answer-if false false false n a b c told bytes e = refl

pub answer-parts : (chip : ChipData) (version : ℕ) (codes flash bytes : List ℕ)
    → answer chip version codes flash bytes
    ≡ told chip version codes bytes ++ take (count_read chip bytes) (drop (place_read chip bytes)
    flash)
answer-parts chip version codes flash [] = refl
answer-parts chip version codes flash (code ∷ []) = refl
answer-parts chip version codes flash (code ∷ check ∷ rest) =
    answer-if (code == 0x00) (code == 0x02) (code == 0x11) (count_of_read chip rest)
    (commands_answer version codes) (id_answer chip) (read_answer chip flash rest)
    (told_of_read chip rest) (drop (place_of_read chip rest) flash) (read-parts chip flash rest)

-- what reads the flash doesn't change it
no-count : (x y : Bool) (n : ℕ)
    → (if x then 0 else (if y then 0 else (if false then n else 0))) ≡ 0
no-count true y n = refl
no-count false true n = refl
no-count false false n = refl

reads-or : (chip : ChipData) (code check : ℕ) (rest : List ℕ) (z : Bool) → (code == 0x11) ≡ z
    → ((if code == 0x00 then 0 else (if code == 0x02 then 0 else (if z then count_of_read chip
    rest else 0))) ≡ 0)
    ⊎ (change_of (code ∷ check ∷ rest) ≡ Nothing)
reads-or chip code check rest false e =
    inl (no-count (code == 0x00) (code == 0x02) (count_of_read chip rest))
reads-or chip code check rest true e =
    inr (ap (λ k. change_of (k ∷ check ∷ rest)) (eqb-true code 0x11 e))

pub reads-nothing : (chip : ChipData) (bytes : List ℕ)
    → (count_read chip bytes ≡ 0) ⊎ (change_of bytes ≡ Nothing)
reads-nothing chip [] = inl refl
reads-nothing chip (code ∷ []) = inl refl
reads-nothing chip (code ∷ check ∷ rest) = reads-or chip code check rest (code == 0x11) refl

-- so what it brings stands in the flash as it is afterwards
pub reads-same : (chip : ChipData) (bytes old new : List ℕ) → Effect chip (change_of bytes) old new
    → take (count_read chip bytes) (drop (place_read chip bytes) old)
    ≡ take (count_read chip bytes) (drop (place_read chip bytes) new)
reads-same chip bytes old new e =
    ⊎_elim
    (λ none.
    ap (λ n. take n (drop (place_read chip bytes) old)) none
    ∙ sym (ap (λ n. take n (drop (place_read chip bytes) new)) none))
    (λ nothing.
    let same : new ≡ old = rw nothing at e in
    ap (λ f. take (count_read chip bytes) (drop (place_read chip bytes) f)) (sym same))
    (reads-nothing chip bytes)

-- what is owed, after a byte
pub owes : (due told more replies bytes : List ℕ) (n : ℕ) → n ≡ 0 → replies ≡ told ++ more
    → (due ++ take n bytes) ++ replies ≡ (due ++ told) ++ more
owes due told more replies bytes n none is =
    ap (λ k. (due ++ take k bytes) ++ replies) none
    ∙ ap (λ xs. xs ++ replies) (append-nil due)
    ∙ ap (λ xs. due ++ xs) is ∙ sym (append_assoc due told more)

at-end : (k : Known) (b : Bool) (d : Device) → k.list ≡ []
    → IsIn (if b then Gone else Connected []) k d → IsSeenAs (if b then Left else Follows) k d
at-end k true d none is = is
at-end k false d none is =
    let P : List ℕ → Type 0 = λ xs. IsIn (Connected xs) k d in subst P (sym none) is

after : (k : Known) (bytes : List ℕ) (d : Device) → k.list ≡ [] → IsIn (phase_after bytes) k d
    → IsSeenAs (sight_after bytes) k d
after k [] d none is = rw none is
after k (code ∷ rest) d none is = at-end k (code == 0x21) d none is

pub replies : (k : Known) (flash bytes : List ℕ) (v : Option Verdict)
    → verdict k.chip k.codes bytes ≡ v
    → reply k.chip k.version k.codes flash bytes ≡ reply_to v k.chip k.version k.codes flash bytes
replies k flash bytes v e = ap (λ w. reply_to w k.chip k.version k.codes flash bytes) e

-- the device, with a list that ends a verdict
seen-judged : (k : Known) (flash bytes rest : List ℕ) (v : Option Verdict) (new : Device)
    → k.sight ≡ Follows → k.count ≡ 0 → Agrees k.flash flash → verdict k.chip k.codes bytes ≡ v
    → Takes (device_known (Connected rest) k flash) bytes v new → IsSeen (judged v bytes k) new
seen-judged k flash bytes rest None new follows none a e takes =
    let now = judged None bytes k in
    let owed = owes k.due (step_reply bytes) [] (reply k.chip k.version k.codes flash bytes)
    (drop k.at flash) k.count none
    (replies k flash bytes None e ∙ sym (append-nil (step_reply bytes))) in
    rw follows (
      flash,
      takes ∙ ap (λ o. record (device_known (Connected bytes) now flash) {
        owed =
            o;
      }) owed,
      a,
    )
seen-judged k flash bytes rest (Some Refused) new follows none a e takes =
    let now = judged (Some Refused) bytes k in
    let owed = owes k.due (nack ∷ []) [] (reply k.chip k.version k.codes flash bytes)
    (drop k.at flash) k.count none
    (replies k flash bytes (Some Refused) e) in
    rw follows
    (flash, takes ∙ ap (λ o. record (device_known (Connected []) now flash) { owed = o }) owed, a)
seen-judged k flash bytes rest (Some Loose) new follows none a e takes = tt
seen-judged k flash bytes rest (Some Done) new follows none a e takes =
    let now = judged (Some Done) bytes k in
    let more = take (count_read k.chip bytes) (drop (place_read k.chip bytes) takes.0) in
    let owed = owes k.due (ack ∷ told k.chip k.version k.codes bytes) more
    (reply k.chip k.version k.codes flash bytes) (drop k.at flash) k.count none
    (replies k flash bytes (Some Done) e
    ∙ ap (λ xs. ack ∷ xs)
    (answer-parts k.chip k.version k.codes flash bytes
    ∙ ap (λ xs. told k.chip k.version k.codes bytes ++ xs)
    (reads-same k.chip bytes flash takes.0 takes.1))) in
    after now bytes new refl (
      takes.0,
      takes.2 ∙ ap (λ o. record (device_known (phase_after bytes) now takes.0) { owed = o }) owed,
      agrees-changed k.chip (change_of bytes) k.flash flash takes.0 a takes.1,
    )

seen-fed_to : (s : Sight) (byte : ℕ) (k : Known) (old new : Device) → k.sight ≡ s → k.count ≡ 0
    → IsSeenAs s k old → Feeds byte old new → IsSeen (fed_to s byte k) new
seen-fed_to Lost byte k old new is none seen feeds =
    let P : Sight → Type 0 = λ s. IsSeenAs s k new in subst P (sym is) tt
seen-fed_to Left byte k old new is none seen feeds =
    let same = rw seen.1 at feeds.receives in
    rw is (seen.0, same, seen.2)
seen-fed_to Follows byte k old new is none seen feeds =
    let takes = rw seen.1 at feeds.receives in
    let bytes = k.list ++ byte ∷ [] in
    seen-judged k seen.0 bytes k.list (verdict k.chip k.codes bytes) new is none seen.2 refl takes

seen-if : (k mid : Known) (new : Device) (b : Bool) → (b ≡ true → IsSeen mid new)
    → IsSeen (if b then mid else lost k) new
seen-if k mid new true seen = seen refl
seen-if k mid new false seen = tt

-- a device that is fed a byte is as what is known says then
pub seen-fed : (byte : ℕ) (k : Known) (old new : Device) → IsSeen k old → Feeds byte old new
    → IsSeen (fed byte k) new
seen-fed byte k old new seen feeds =
    seen-if k (fed_to k.sight byte k) new (k.count == 0)
    (λ t. seen-fed_to k.sight byte k old new refl (eqb-true k.count 0 t) seen feeds)
