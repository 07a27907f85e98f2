-- Reading an honest Rig's journal, fetch by fetch.
use Rattle.std.proofs.Common.{◌≡◌, ◌≤◌, ◌<◌, ℕ, zero, suc, ◌+◌, ◌^◌, List, [], ◌∷◌, ◌++◌, length, take, drop, Ok, Err, refl, sym, ◌∙◌, ap, subst, arith, append_assoc, take_all, length-drop, ⊎_elim}
use Rattle.std.proofs.lemmas.Bool.{cases_lt}
use Rattle.std.proofs.lemmas.List.{take-append-drop, length-take, length-take-le}
use Rattle.stm_wire.proofs.Names.{Append, Call, Device, Fetch, Get, GoesOn, IsModel, LeavesOnly, LosesOwed, Put, RigState}
use Rattle.stm_wire.specs.lemmas.MomentLaws.{joined}
use Rattle.stm_journal.proofs.Names.{AreFetches, Fetches, HasReadJournal, IsFaultOf, IsLoaded, IsLoadFault, IsRead, IsUntouched, journal_of, JournalFault, KeepsDevice, Loaded, LoadingStopsAt, Loads}
use Rattle.stm_journal.proofs.Names.{Summary}
use Rattle.stm_journal.specs.declared.fault.JournalFault.TheVariants.{File, Bad, OtherDevice, OtherBoard, Memory}
use Rattle.std.proofs.Common.{Option, Some, None}

untouched : (a b : RigState) → b.journal ≡ a.journal → b.device ≡ a.device → (d : Device) (j : List ℕ) → IsUntouched b d j → IsUntouched a d j
untouched a b same still d j u =
    let D : Device → Type 0 = λ e. LosesOwed e d in
    (u.0 ∙ same, subst D still u.1)

further : (a b c : RigState) → b.journal ≡ a.journal → b.device ≡ a.device → LeavesOnly (IsUntouched a) a b → LeavesOnly (IsUntouched b) b c → LeavesOnly (IsUntouched a) a c
further a b c same still first second = joined (IsUntouched a) (IsUntouched b) (IsUntouched a) a b c first second (λ d j u. u) (untouched a b same still)

-- what was fetched is what follows
next-bytes : (at n : ℕ) (after journal : List ℕ) → n ≤ length after → take n after ≡ take n (drop at journal) → n ≤ length (drop at journal)
next-bytes at n after journal within same = omega (arith, ap (λ (xs : List ℕ). length xs) same, length-take n after, length-take n (drop at journal))

take-none : (k : ℕ) → take k (let xs : List ℕ = [] in xs) ≡ []
take-none zero = refl
take-none (suc k) = refl

take-further : (at n : ℕ) (xs : List ℕ) → take at xs ++ take n (drop at xs) ≡ take (at + n) xs
take-further zero n xs = let e : 0 + n ≡ n = omega arith in ap (λ (k : ℕ). take k xs) (sym e)
take-further (suc at) n [] = take-none n ∙ sym (take-none (suc at + n))
take-further (suc at) n (x ∷ xs) =
    let e : suc at + n ≡ suc (at + n) = omega arith in
    ap (λ (ys : List ℕ). x ∷ ys) (take-further at n xs) ∙ sym (ap (λ (k : ℕ). take k (x ∷ xs)) e)

bytes-read : (l : Loaded) (tail : Summary) (n : ℕ) (before after more : List ℕ) (a b c : RigState) → HasReadJournal l tail a b → Fetches l.size before after b c (Ok n)
    → n ≤ length after → more ≡ take n after → take l.size a.journal ++ more ≡ take (l.size + n) a.journal
bytes-read l tail n before after more a b c has got within cut =
    ap (λ (xs : List ℕ). take l.size a.journal ++ xs) (cut ∙ got.bytes ∙ ap (λ (j : List ℕ). take n (drop l.size j)) has.journal) ∙ take-further l.size n a.journal

room : (l : Loaded) (tail : Summary) (n : ℕ) (before after : List ℕ) (a b c : RigState) → HasReadJournal l tail a b → Fetches l.size before after b c (Ok n) → n ≤ length after → l.size + n ≤ length a.journal
room l tail n before after a b c has got within =
    omega (arith, has.within, next-bytes l.size n after b.journal within got.bytes, length-drop l.size b.journal, ap (λ (xs : List ℕ). length xs) has.journal)

pub HasRead-more : (l l2 : Loaded) (tail tail2 : Summary) (n : ℕ) (before after more : List ℕ) (a b c : RigState) → HasReadJournal l tail a b → Fetches l.size before after b c (Ok n)
    → n ≤ length after → more ≡ take n after → IsRead l2 tail2 (take l.size a.journal ++ more) → HasReadJournal l2 tail2 a c
HasRead-more l l2 tail tail2 n before after more a b c has got within cut read =
    let all : take l.size a.journal ++ more ≡ take (l.size + n) a.journal = bytes-read l tail n before after more a b c has got within cut in
    let fits : l.size + n ≤ length a.journal = room l tail n before after a b c has got within in
    let size : l2.size ≡ l.size + n = read.size ∙ ap (λ (xs : List ℕ). length xs) all ∙ length-take-le (l.size + n) a.journal fits in
    let B : List ℕ → Type 0 = λ xs. IsRead l2 tail2 xs in
    record {
      honest = got.honest;
      journal = got.journal ∙ has.journal;
      device = got.same_device ∙ has.device;
      moments = further a b c has.journal has.device has.moments got.moments;
      read = subst B (all ∙ ap (λ (k : ℕ). take k a.journal) (sym size)) read;
      within = omega (arith, size, fits);
    }

kept-device : (a c : RigState) (e : JournalFault) → IsLoadFault e → c.device ≡ a.device → KeepsDevice a c e
kept-device a c File is same = absurd is
kept-device a c (Bad line) is same = same
kept-device a c OtherDevice is same = absurd is
kept-device a c OtherBoard is same = absurd is
kept-device a c Memory is same = same

fault-of : (bytes rest journal : List ℕ) (e : JournalFault) → IsLoadFault e → 0 < length journal → bytes ++ rest ≡ journal → LoadingStopsAt bytes e → IsFaultOf journal e
fault-of bytes rest journal File is some whole stops = absurd is
fault-of bytes rest journal (Bad line) is some whole stops = ap (λ (xs : List ℕ). journal_of xs) (sym whole) ∙ stops rest
fault-of bytes rest journal OtherDevice is some whole stops = absurd is
fault-of bytes rest journal OtherBoard is some whole stops = absurd is
fault-of bytes rest [] Memory is some whole stops = absurd (omega (arith, some))
fault-of bytes rest (x ∷ journal) Memory is some whole stops = tt

pub Loads-stopped : (l : Loaded) (tail : Summary) (n : ℕ) (before after more : List ℕ) (e : JournalFault) (a b c : RigState) → HasReadJournal l tail a b → Fetches l.size before after b c (Ok n)
    → n ≤ length after → 0 < n → more ≡ take n after → IsLoadFault e → LoadingStopsAt (take l.size a.journal ++ more) e → Loads a c (Err e)
Loads-stopped l tail n before after more e a b c has got within some cut is stops =
    let all : take l.size a.journal ++ more ≡ take (l.size + n) a.journal = bytes-read l tail n before after more a b c has got within cut in
    let S : List ℕ → Type 0 = λ xs. LoadingStopsAt xs e in
    record {
      honest = got.honest;
      moments = further a b c has.journal has.device has.moments got.moments;
      journal = got.journal ∙ has.journal;
      same_device = tt;
      kept_device = kept-device a c e is (got.same_device ∙ has.device);
      loaded = tt;
      faults = fault-of (take (l.size + n) a.journal) (drop (l.size + n) a.journal) a.journal e is (omega (arith, room l tail n before after a b c has got within)) (take-append-drop (l.size + n) a.journal) (subst S all stops);
    }

at_end : (at len size : ℕ) → 0 < size → (at < len → size ≡ 0) → len ≤ at
at_end at len size some h = ⊎_elim (λ lt. absurd (omega (arith, some, h lt))) (λ le. le) (cases_lt at len)

pub Loads-done : (l l2 : Loaded) (tail : Summary) (n : ℕ) (before after : List ℕ) (a b c : RigState) → HasReadJournal l tail a b → Fetches l.size before after b c (Ok n)
    → 0 < length before → n ≡ 0 → IsLoaded l2 (take l.size a.journal) → Loads a c (Ok l2)
Loads-done l l2 tail n before after a b c has got some none is =
    let same : length b.journal ≡ length a.journal = ap (λ (xs : List ℕ). length xs) has.journal in
    let end : length a.journal ≤ l.size = at_end l.size (length a.journal) (length before) some (λ lt. got.more none (omega (arith, lt, same))) in
    let B : List ℕ → Type 0 = λ xs. IsLoaded l2 xs in
    record {
      honest = got.honest;
      moments = further a b c has.journal has.device has.moments got.moments;
      journal = got.journal ∙ has.journal;
      same_device = got.same_device ∙ has.device;
      kept_device = tt;
      loaded = subst B (take_all l.size a.journal end) is;
      faults = tt;
    }

-- calls after calls
pub AreFetches-append : (xs ys : List Call) → AreFetches xs → AreFetches ys → AreFetches (xs ++ ys)
AreFetches-append [] ys x y = y
AreFetches-append (Put byte ∷ xs) ys x y = absurd x
AreFetches-append (Get answer ∷ xs) ys x y = absurd x
AreFetches-append (Append n ∷ xs) ys x y = absurd x
AreFetches-append (Fetch ∷ xs) ys x y = AreFetches-append xs ys x y

pub GoesOn-fetches : (a b c : Option (List Call)) → GoesOn AreFetches a b → GoesOn AreFetches b c → GoesOn AreFetches a c
GoesOn-fetches None b c p q =
    let G : Option (List Call) → Type 0 = λ o. GoesOn AreFetches o c in
    subst G p q
GoesOn-fetches (Some past) b c p q =
    let G : Option (List Call) → Type 0 = λ o. GoesOn AreFetches o c in
    let r = subst G p.1 q in
    (p.0 ++ r.0, r.1 ∙ ap (λ (xs : List Call). Some xs) (append_assoc past p.0 r.0), AreFetches-append p.0 r.0 p.2 r.2)

-- the numbers stay small
pub short-read : (l : Loaded) (tail : Summary) (n : ℕ) (before after : List ℕ) (a b c : RigState) → IsModel a → HasReadJournal l tail a b → Fetches l.size before after b c (Ok n) → n ≤ length after
    → length (take l.size a.journal) + length (take n after) < 2 ^ 63
short-read l tail n before after a b c model has got within =
    omega (arith, model.journal, room l tail n before after a b c has got within, length-take l.size a.journal, length-take n after)
