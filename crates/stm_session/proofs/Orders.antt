-- Orders join.
use Rattle.std.proofs.Common.{◌≡◌, ℕ, zero, suc, ◌+◌, ◌*◌, ◌<◌, ◌≤◌, Bool, false, List, [], ◌∷◌, ◌++◌, length, get_or, take, drop, Option, Some, None, Ok, refl, sym, ◌∙◌, ap, ap₂, subst, arith, append_assoc, append-nil}
use Rattle.std.specs.Prelude.{slice_get}
use Rattle.std.proofs.lemmas.List.{drop-append-le, length-drop, length-map, take-append-le, take_all}
use Rattle.std.proofs.Math.Seq.{drop-append_seam}
use Rattle.stm_wire.proofs.Names.{Append, AreLineCalls, Call, calls_of, ChipData, Fetch, Get, GoesOn, Put, read_turns, RigState, SettlesWithin, Turn}
use Rattle.stm_wire.specs.Dialogue.{Adds as AddsCalls}
use Rattle.stm_wire.specs.lemmas.DialogueLaws.{GoesOn-adds, GoesOn-append, GoesOn-nothing, GoesOn-weaker, calls_of-are_line}
use Rattle.stm_session.proofs.Names.{acts_of, acts_of_steps, Adds, AreGivenBack, AreSegmentsUndone, byte_of, DoesSteps, EndsWell, IsGivenBack, IsInOrder, IsSegmentUndone, limit_of, newest_kept}
use Rattle.stm_session.proofs.Names.{read_steps, Sends, SettlesFirst, SettlesThen, Step, Tells, tells_behind, torn_behind, Way}
use Rattle.stm_journal.specs.declared.entry.Entry.{Entry}
use Rattle.stm_journal.specs.declared.kept.Kept.{Kept}
use Rattle.stm_journal.proofs.Names.{added_bytes, AppendsOnce, AreFetches, Loaded, pages_of_segments, SegmentData}
use Rattle.stm_session.proofs.Tellings.{behind_both, returned_as, taken_as}

pub acts-append : (xs ys : List Call) → acts_of (xs ++ ys) ≡ acts_of xs ++ acts_of ys
acts-append [] ys = refl
acts-append (Put byte ∷ xs) ys = ap (λ (l : List Call). Put byte ∷ l) (acts-append xs ys)
acts-append (Get answer ∷ xs) ys = ap (λ (l : List Call). Get answer ∷ l) (acts-append xs ys)
acts-append (Append n ∷ xs) ys = ap (λ (l : List Call). Append n ∷ l) (acts-append xs ys)
acts-append (Fetch ∷ xs) ys = acts-append xs ys

pub steps-append : (torn : Bool) (xs ys : List Step) → acts_of_steps torn (xs ++ ys) ≡ acts_of_steps torn xs ++ acts_of_steps (torn_behind torn xs) ys
steps-append torn [] ys = refl
steps-append torn (Adds entries ∷ xs) ys = ap (λ (l : List Call). Append (added_bytes torn entries) ∷ l) (steps-append false xs ys)
steps-append torn (Sends turns ∷ xs) ys = ap (λ (l : List Call). calls_of turns ++ l) (steps-append torn xs ys) ∙ sym (append_assoc (calls_of turns) (acts_of_steps torn xs) (acts_of_steps (torn_behind torn xs) ys))

pub torn-append : (torn : Bool) (xs ys : List Step) → torn_behind torn (xs ++ ys) ≡ torn_behind (torn_behind torn xs) ys
torn-append torn [] ys = refl
torn-append torn (Adds entries ∷ xs) ys = torn-append false xs ys
torn-append torn (Sends turns ∷ xs) ys = torn-append torn xs ys

-- steps after others
pub order_then : (torn : Bool) (xs ys : List Step) (a b c : Option (List Call)) → GoesOn (IsInOrder torn xs) a b → GoesOn (IsInOrder (torn_behind torn xs) ys) b c → GoesOn (IsInOrder torn (xs ++ ys)) a c
order_then torn xs ys a b c p q =
    GoesOn-append (IsInOrder torn xs) (IsInOrder (torn_behind torn xs) ys) (IsInOrder torn (xs ++ ys)) a b c p q
    (λ cs ds x y.
    acts-append cs ds ∙ ap (λ (l : List Call). l ++ acts_of ds) x ∙ ap (λ (l : List Call). acts_of_steps torn xs ++ l) y ∙ sym (steps-append torn xs ys))

pub does_then : (xs ys : List Step) (l l2 l3 : Loaded) (a b c : RigState) → DoesSteps xs l l2 a b → DoesSteps ys l2 l3 b c → DoesSteps (xs ++ ys) l l3 a c
does_then xs ys l l2 l3 a b c p q =
    let P : Bool → Type 0 = λ t. GoesOn (IsInOrder t ys) b.calls c.calls in
    record {
      acts = order_then l.is_torn xs ys a.calls b.calls c.calls p.acts (subst P p.torn q.acts);
      torn = q.torn ∙ ap (λ (t : Bool). torn_behind t ys) p.torn ∙ sym (torn-append l.is_torn xs ys);
    }

pub does_as : (xs ys : List Step) (l l2 : Loaded) (a b : RigState) → xs ≡ ys → DoesSteps xs l l2 a b → DoesSteps ys l l2 a b
does_as xs ys l l2 a b is p = let P : List Step → Type 0 = λ zs. DoesSteps zs l l2 a b in subst P is p

-- nothing
pub does_nothing : (l : Loaded) (a : RigState) → DoesSteps [] l l a a
does_nothing l a = record { acts = GoesOn-nothing (IsInOrder l.is_torn []) a.calls refl; torn = refl }

-- fetches
pub fetches-act : (calls : List Call) → AreFetches calls → acts_of calls ≡ []
fetches-act [] is = refl
fetches-act (Fetch ∷ calls) is = fetches-act calls is
fetches-act calls is = absurd is

pub does_fetch : (l : Loaded) (a b : RigState) → GoesOn AreFetches a.calls b.calls → DoesSteps [] l l a b
does_fetch l a b p = record { acts = GoesOn-weaker AreFetches (IsInOrder l.is_torn []) a.calls b.calls p fetches-act; torn = refl }

-- one append
pub does_add : {T : Type 0} (x : T) (entries : List Entry) (l l2 : Loaded) (a b : RigState) → GoesOn (AppendsOnce (added_bytes l.is_torn entries) (Ok x)) a.calls b.calls → l2.is_torn ≡ false
    → DoesSteps (Adds entries ∷ []) l l2 a b
does_add x entries l l2 a b p torn =
    record {
      acts = GoesOn-weaker (AppendsOnce (added_bytes l.is_torn entries) (Ok x)) (IsInOrder l.is_torn (Adds entries ∷ [])) a.calls b.calls p (λ calls is. ap (λ (cs : List Call). acts_of cs) is);
      torn = torn;
    }

-- calls of the line are acts
pub acts-line : (calls : List Call) → AreLineCalls calls → acts_of calls ≡ calls
acts-line [] is = refl
acts-line (Put byte ∷ calls) is = ap (λ (l : List Call). Put byte ∷ l) (acts-line calls is)
acts-line (Get answer ∷ calls) is = ap (λ (l : List Call). Get answer ∷ l) (acts-line calls is)
acts-line calls is = absurd is

-- a dialogue
acts-calls : (turns : List Turn) → acts_of (calls_of turns) ≡ calls_of turns
acts-calls turns = acts-line (calls_of turns) (calls_of-are_line turns)

pub order_sent : (torn : Bool) (turns : List Turn) (a b : Option (List Call)) → AddsCalls (calls_of turns) a b → GoesOn (IsInOrder torn (Sends turns ∷ [])) a b
order_sent torn turns a b adds = GoesOn-adds (IsInOrder torn (Sends turns ∷ [])) (calls_of turns) a b adds (acts-calls turns ∙ sym (append-nil (calls_of turns)))

-- reads leave a torn tail
pub torn-reads : (torn : Bool) (address blocks : ℕ) (bytes : List ℕ) → torn_behind torn (read_steps address blocks bytes) ≡ torn
torn-reads torn address zero bytes = refl
torn-reads torn address (suc blocks) bytes = torn-append torn (read_steps address blocks bytes) (Sends _ ∷ []) ∙ torn-reads torn address blocks bytes

pub does_reads : (l : Loaded) (address blocks : ℕ) (bytes : List ℕ) (a b : RigState) → GoesOn (IsInOrder l.is_torn (read_steps address blocks bytes)) a.calls b.calls → DoesSteps (read_steps address blocks bytes) l l a b
does_reads l address blocks bytes a b p = record { acts = p; torn = sym (torn-reads l.is_torn address blocks bytes) }

-- pages are put back, one after another
pub returned_next : (again : Bool) (chip : ChipData) (Told : Tells) (pages : List Kept) (i : ℕ) (kept : Kept) (xs ys : List Step) → slice_get pages i ≡ Some kept → AreGivenBack again chip Told (take i pages) xs → IsGivenBack again chip (tells_behind xs Told) kept.page ys
    → AreGivenBack again chip Told (take (i + 1) pages) (xs ++ ys)
returned_next again chip Told pages i kept xs ys at are is =
    let one : suc i ≡ i + 1 = omega arith in
    let P : ℕ → Type 0 = λ m. AreGivenBack again chip Told (take m pages) (xs ++ ys) in
    subst P one (next Told pages i xs at are is)
  where
    next : (Told : Tells) (pages : List Kept) (i : ℕ) (xs : List Step) → slice_get pages i ≡ Some kept → AreGivenBack again chip Told (take i pages) xs → IsGivenBack again chip (tells_behind xs Told) kept.page ys → AreGivenBack again chip Told (take (suc i) pages) (xs ++ ys)
    next Told [] i xs at are is = absurd (let h : None ≡ Some kept = at in cc)
    next Told (x ∷ pages) zero xs at are is =
        let some : Some x ≡ Some kept = at in
        let same : x ≡ kept = cc in
        let Q : Kept → Type 0 = λ k. IsGivenBack again chip Told k.page ys in
        let R : List Step → Type 0 = λ l. IsGivenBack again chip (tells_behind l Told) kept.page ys in
        (ys, [], ap (λ (zs : List Step). zs ++ ys) are ∙ sym (append-nil ys), subst Q (sym same) (subst R are is), refl)
    next Told (x ∷ pages) (suc i) xs at (first, rest, e, one, more) is = (
      first,
      rest ++ ys,
      ap (λ (zs : List Step). zs ++ ys) e ∙ append_assoc first rest ys,
      one,
      next (tells_behind first Told) pages i rest at more (returned_as again chip (tells_behind xs Told) (tells_behind rest (tells_behind first Told)) kept.page ys (behind_both Told xs first rest e) is),
    )

-- segments are undone, one after another
pub taken_next : (again : Bool) (chip : ChipData) (Told : Tells) (segments : List (List Kept)) (i : ℕ) (pages : List Kept) (below : List (List Kept)) (xs ys : List Step) → drop i segments ≡ pages ∷ below → AreSegmentsUndone again chip Told i segments xs
    → IsSegmentUndone again chip (tells_behind xs Told) pages (length below + 1) ys → AreSegmentsUndone again chip Told (i + 1) segments (xs ++ ys)
taken_next again chip Told segments i pages below xs ys at are is =
    let one : suc i ≡ i + 1 = omega arith in
    let P : ℕ → Type 0 = λ m. AreSegmentsUndone again chip Told m segments (xs ++ ys) in
    subst P one (next Told segments i xs at are is)
  where
    next : (Told : Tells) (segments : List (List Kept)) (i : ℕ) (xs : List Step) → drop i segments ≡ pages ∷ below → AreSegmentsUndone again chip Told i segments xs → IsSegmentUndone again chip (tells_behind xs Told) pages (length below + 1) ys
        → AreSegmentsUndone again chip Told (suc i) segments (xs ++ ys)
    next Told [] zero xs at are is = absurd (let h : [] ≡ pages ∷ below = at in cc)
    next Told [] (suc i) xs at are is = absurd are
    next Told (x ∷ segments) zero xs at are is =
        let first : x ≡ pages = ap (λ (zs : List (List Kept)). get_or zs 0 []) at in
        let rest : segments ≡ below = ap (λ (zs : List (List Kept)). drop 1 zs) at in
        let Q : List Kept → Type 0 = λ ps. IsSegmentUndone again chip Told ps (length below + 1) ys in
        let R : List (List Kept) → Type 0 = λ zs. IsSegmentUndone again chip Told x (length zs + 1) ys in
        let S : List Step → Type 0 = λ l. IsSegmentUndone again chip (tells_behind l Told) pages (length below + 1) ys in
        (ys, [], ap (λ (zs : List Step). zs ++ ys) are ∙ sym (append-nil ys), subst R (sym rest) (subst Q (sym first) (subst S are is)), refl)
    next Told (x ∷ segments) (suc i) xs at (first, rest, e, one, more) is = (
      first,
      rest ++ ys,
      ap (λ (zs : List Step). zs ++ ys) e ∙ append_assoc first rest ys,
      one,
      next (tells_behind first Told) segments i rest at more (taken_as again chip (tells_behind xs Told) (tells_behind rest (tells_behind first Told)) pages (length below + 1) ys (behind_both Told xs first rest e) is),
    )

-- settling, and then steps
same_calls : (past xs ys : List Call) → past ++ xs ≡ past ++ ys → xs ≡ ys
same_calls [] xs ys is = is
same_calls (call ∷ past) xs ys is = same_calls past xs ys (ap (λ (l : List Call). drop 1 l) is)

-- calls of which both are said
pub GoesOn-both : (P Q : List Call → Type 0) (a b : Option (List Call)) → GoesOn P a b → GoesOn Q a b → GoesOn (λ xs. P xs × Q xs) a b
GoesOn-both P Q None b p q = p
GoesOn-both P Q (Some past) b p q =
    let same : p.0 ≡ q.0 = same_calls past p.0 q.0 (ap (λ (o : Option (List Call)). list_in o) (sym p.1 ∙ q.1)) in
    (p.0, p.1, (p.2, subst Q (sym same) q.2))
  where
    list_in : Option (List Call) → List Call
    list_in None = []
    list_in (Some l) = l

pub settles_and : (way : Way) (P Then : List Call → Type 0) (a b c : Option (List Call)) → GoesOn (SettlesWithin (byte_of way) (limit_of way)) a b → GoesOn (EndsWell way) a b → GoesOn P b c → ((xs : List Call) → P xs → Then (acts_of xs))
    → GoesOn (SettlesThen way Then) a c
settles_and way P Then a b c p e q f =
    GoesOn-append (λ xs. SettlesWithin (byte_of way) (limit_of way) xs × EndsWell way xs) P (SettlesThen way Then) a b c (GoesOn-both (SettlesWithin (byte_of way) (limit_of way)) (EndsWell way) a b p e) q
    (λ xs ys x y. (xs, acts_of ys, x.0, x.1, acts-append xs ys ∙ ap (λ (l : List Call). l ++ acts_of ys) (acts-line xs x.0.line), f ys y))

pub settles_then : (way : Way) (torn : Bool) (steps : List Step) (a b c : Option (List Call)) → GoesOn (SettlesWithin (byte_of way) (limit_of way)) a b → GoesOn (EndsWell way) a b → GoesOn (IsInOrder torn steps) b c
    → GoesOn (SettlesFirst way torn steps) a c
settles_then way torn steps a b c p e q = settles_and way (IsInOrder torn steps) (λ rest. rest ≡ acts_of_steps torn steps) a b c p e q (λ xs x. x)

-- and then further calls
pub settled_and : (way : Way) (Then P Now : List Call → Type 0) (a b c : Option (List Call)) → GoesOn (SettlesThen way Then) a b → GoesOn P b c → ((xs ys : List Call) → Then xs → P ys → Now (xs ++ acts_of ys))
    → GoesOn (SettlesThen way Now) a c
settled_and way Then P Now a b c p q f =
    GoesOn-append (SettlesThen way Then) P (SettlesThen way Now) a b c p q
    (λ cs ds x y. (x.0, x.1 ++ acts_of ds, x.2, x.3, acts-append cs ds ∙ ap (λ (l : List Call). l ++ acts_of ds) x.4 ∙ append_assoc x.0 x.1 (acts_of ds), f x.1 ds x.5 y))

pub settled_then : (way : Way) (torn : Bool) (xs ys : List Step) (a b c : Option (List Call)) → torn_behind torn xs ≡ torn → GoesOn (SettlesFirst way torn xs) a b → GoesOn (IsInOrder torn ys) b c
    → GoesOn (SettlesFirst way torn (xs ++ ys)) a c
settled_then way torn xs ys a b c still p q =
    settled_and way (λ rest. rest ≡ acts_of_steps torn xs) (IsInOrder torn ys) (λ rest. rest ≡ acts_of_steps torn (xs ++ ys)) a b c p q
    (λ cs ds x y.
    ap (λ (l : List Call). l ++ acts_of ds) x ∙ ap (λ (l : List Call). acts_of_steps torn xs ++ l) (y ∙ ap (λ (t : Bool). acts_of_steps t ys) (sym still)) ∙ sym (steps-append torn xs ys))

pub fetched_and : (way : Way) (Then : List Call → Type 0) (a b c : Option (List Call)) → GoesOn AreFetches a b → GoesOn (SettlesThen way Then) b c → GoesOn (SettlesThen way Then) a c
fetched_and way Then a b c p q =
    GoesOn-append AreFetches (SettlesThen way Then) (SettlesThen way Then) a b c p q
    (λ cs ds x y. (y.0, y.1, y.2, y.3, acts-append cs ds ∙ ap (λ (l : List Call). l ++ acts_of ds) (fetches-act cs x) ∙ y.4, y.5))

pub fetched_then : (way : Way) (torn : Bool) (steps : List Step) (a b c : Option (List Call)) → GoesOn AreFetches a b → GoesOn (SettlesFirst way torn steps) b c → GoesOn (SettlesFirst way torn steps) a c
fetched_then way torn steps a b c p q = fetched_and way (λ rest. rest ≡ acts_of_steps torn steps) a b c p q

-- blocks that were read don't change by what is read behind them
block_before : (n : ℕ) (bytes more : List ℕ) → n + 256 ≤ length bytes → take 256 (drop n (bytes ++ more)) ≡ take 256 (drop n bytes)
block_before n bytes more within =
    ap (λ (l : List ℕ). take 256 l) (drop-append-le n bytes more (omega (arith, within)))
    ∙ take-append-le 256 (drop n bytes) more (omega (arith, length-drop n bytes, within))

pub reads_before : (address blocks : ℕ) (bytes more : List ℕ) → 256 * blocks ≤ length bytes → read_steps address blocks (bytes ++ more) ≡ read_steps address blocks bytes
reads_before address zero bytes more within = refl
reads_before address (suc blocks) bytes more within =
    ap₂ (λ (xs : List Step) (ys : List ℕ). xs ++ Sends (read_turns (address + 256 * blocks) ys) ∷ []) (reads_before address blocks bytes more (omega (arith, within))) (block_before (256 * blocks) bytes more (omega (arith, within)))

pub reads_next : (start blocks : ℕ) (bytes answer : List ℕ) → length bytes ≡ 256 * blocks → length answer ≡ 256
    → read_steps start (suc blocks) (bytes ++ answer) ≡ read_steps start blocks bytes ++ Sends (read_turns (start + 256 * blocks) answer) ∷ []
reads_next start blocks bytes answer many whole =
    let last : drop (256 * blocks) (bytes ++ answer) ≡ answer = ap (λ (n : ℕ). drop n (bytes ++ answer)) (sym many) ∙ drop-append_seam bytes answer in
    ap₂ (λ (xs : List Step) (ys : List ℕ). xs ++ Sends (read_turns (start + 256 * blocks) ys) ∷ []) (reads_before start blocks bytes answer (omega (arith, many)))
    (ap (λ (l : List ℕ). take 256 l) last ∙ take_all 256 answer (omega (arith, whole)))

-- one block of a page more is read
pub blocks_next : (torn : Bool) (start blocks : ℕ) (bytes answer : List ℕ) (a b c : Option (List Call)) → length bytes ≡ 256 * blocks → length answer ≡ 256 → GoesOn (IsInOrder torn (read_steps start blocks bytes)) a b
    → GoesOn (IsInOrder torn (Sends (read_turns (start + 256 * blocks) answer) ∷ [])) b c → GoesOn (IsInOrder torn (read_steps start (suc blocks) (bytes ++ answer))) a c
blocks_next torn start blocks bytes answer a b c many whole p q =
    let own = Sends (read_turns (start + 256 * blocks) answer) ∷ [] in
    let Q : Bool → Type 0 = λ t. GoesOn (IsInOrder t own) b c in
    let P : List Step → Type 0 = λ steps. GoesOn (IsInOrder torn steps) a c in
    subst P (sym (reads_next start blocks bytes answer many whole)) (order_then torn (read_steps start blocks bytes) own a b c p (subst Q (sym (torn-reads torn start blocks bytes)) q))

-- the newest of the segments, and those below it
pub segments_split : (stack : List SegmentData) → 0 < length stack → pages_of_segments stack ≡ newest_kept stack ∷ pages_of_segments (drop 1 stack)
segments_split [] some = absurd (omega (arith, some))
segments_split (segment ∷ below) some = refl

pub segments_count : (stack : List SegmentData) → 0 < length stack → length stack ≡ length (pages_of_segments (drop 1 stack)) + 1
segments_count [] some = absurd (omega (arith, some))
segments_count (segment ∷ below) some = let h : length (pages_of_segments below) ≡ length below = length-map below (λ (s : SegmentData). s.pages) in omega (arith, h)
