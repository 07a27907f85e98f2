-- What the clauses of a call say that it did.
use Rattle.std.proofs.Common.{◌≡◌, inl, inr, ℕ, ◌/◌, ◌%◌, Bool, List, [], ◌∷◌, ◌++◌, Option, Some, None, refl, sym, ◌∙◌, ap, subst, append-nil}
use Rattle.stm_wire.specs.declared.places.UniquePlace.{UniquePlace}
use Rattle.stm_wire.specs.declared.fault.WireFault.TheVariants.{Line}
use Rattle.stm_wire.proofs.Names.{Call, ChipData, Fetch, GoesOn, RigState}
use Rattle.stm_journal.specs.declared.entry.Entry.{Entry}
use Rattle.stm_journal.proofs.Names.{AreFetches}
use Rattle.stm_session.proofs.Names.{acts_of, acts_of_steps, Adds, AreCutShort, asking_steps, Begin, Cause, confirm_steps, confirmed_at, confirming, IsAfter, IsAsked, IsAsking, IsConfirmedInPart}
use Rattle.stm_session.proofs.Names.{IsConfirming, of_file, of_line, of_memory, of_protocol, of_refusal, of_session, ReachesAndDoes, ReachesAndStops, ReachesInPart, Sends, SettlesFirst, SettlesThen}
use Rattle.stm_session.proofs.Names.{Step, step_in, StepFailsBy, torn_behind, Way}
use Rattle.stm_session.specs.Kept.{reads}
use Rattle.stm_any_line.specs.Segments.{segments_behind_steps}
use Rattle.stm_any_line.specs.Tracks.{asks, names, refused, sends, Tracks}
use Rattle.stm_any_line.specs.Calls.{AllSay, AreBegunOf, DoesBehind, Made}
use Rattle.stm_any_line.proofs.Tracking.{Segments, say_front, say_then, tracks_front, tracks_then}

-- the calls that a record went on by
or_none : Option (List Call) → List Call
or_none None = []
or_none (Some calls) = calls

rest_of : List Call → List Call
rest_of [] = []
rest_of (call ∷ calls) = calls

cancel : (xs ys zs : List Call) → xs ++ ys ≡ xs ++ zs → ys ≡ zs
unfolding rest_of
cancel [] ys zs e = e
cancel (x ∷ xs) ys zs e = cancel xs ys zs (ap rest_of e)

no_none : (past : List Call) → None ≡ Some past → ⊥
no_none past e = cc e

made_at : (P : List Call → Type 0) (calls past : List Call) (a b : Option (List Call))
    → a ≡ Some past → b ≡ Some (past ++ calls) → GoesOn P a b → P calls
unfolding or_none
made_at P calls past None b before after p = absurd (no_none past before)
made_at P calls past (Some was) b before after (own, is, p) =
    let same : was ≡ past = ap or_none before in
    let joined : was ++ own ≡ past ++ calls = ap or_none (sym is ∙ after) in
    let back : past ++ calls ≡ was ++ calls = ap (λ (l : List Call). l ++ calls) (sym same) in
    subst P (cancel was own calls (joined ∙ back)) p

pub made_by : (P : List Call → Type 0) (calls : List Call) (old new : RigState)
    → Made calls old new → GoesOn P old.calls new.calls → P calls
made_by P calls old new made goes =
    made_at P calls made.past old.calls new.calls made.before made.after goes

-- Steps that may come behind others, whose lines are such: how they join.
abbrev pub Goes : (Entry → Type 0) → ChipData → Segments → List Step → List Step → Type 0
Goes Says chip s b steps = Tracks chip s b steps × AllSay Says steps

goes_then : (Says : Entry → Type 0) (chip : ChipData) (s : Segments) (b xs ys : List Step)
    → Goes Says chip s b xs → Goes Says chip (segments_behind_steps s xs) (b ++ xs) ys
    → Goes Says chip s b (xs ++ ys)
goes_then Says chip s b xs ys p q =
    (tracks_then chip s b xs ys p.0 q.0, say_then Says xs ys p.1 q.1)

goes_front : (Says : Entry → Type 0) (chip : ChipData) (s : Segments) (b xs ys : List Step)
    → Goes Says chip s b (xs ++ ys) → Goes Says chip s b xs
goes_front Says chip s b xs ys p =
    (tracks_front chip s b xs ys p.0, say_front Says xs ys p.1)

goes_as : (Says : Entry → Type 0) (chip : ChipData) (s : Segments) (b xs ys : List Step)
    → ys ≡ xs → Goes Says chip s b xs → Goes Says chip s b ys
goes_as Says chip s b xs ys is p =
    let P : List Step → Type 0 = λ l. Goes Says chip s b l in
    subst P (sym is) p

-- questions
asked_goes : (Says : Entry → Type 0) (chip : ChipData) (s : Segments) (b : List Step) (version : ℕ) (codes : List ℕ)
    (id : ℕ) → Goes Says chip s b (asking_steps version codes id)
asked_goes Says chip s b version codes id =
    ((asks version codes refl, (names (id / 256) (id % 256) refl, tt)), tt)

asking_goes : (Says : Entry → Type 0) (chip : ChipData) (s : Segments) (b steps : List Step) → IsAsking steps
    → Goes Says chip s b steps
asking_goes Says chip s b steps asking =
    let get = asking.is_get in
    let get_id = asking.is_get_id in
    goes_as Says chip s b (asking.first ++ asking.second) steps asking.is
    (goes_then Says chip s b asking.first asking.second
    (goes_as Says chip s b _ asking.first get.is ((asks get.version get.codes refl, tt), tt))
    (goes_as Says chip _ _ _ asking.second get_id.is ((names get_id.high get_id.low refl, tt), tt)))

confirm_goes : (Says : Entry → Type 0) (chip : ChipData) (s : Segments) (b : List Step) (place : Option UniquePlace)
    (unique : List ℕ) → Goes Says chip s b (confirm_steps place unique)
confirm_goes Says chip s b None unique = (tt, tt)
confirm_goes Says chip s b (Some place) unique =
    ((sends (reads place.address unique refl), tt), tt)

confirm_leaves : (s : Segments) (place : Option UniquePlace) (unique : List ℕ)
    → segments_behind_steps s (confirm_steps place unique) ≡ s
confirm_leaves s None unique = refl
confirm_leaves s (Some place) unique = refl

is_asked_goes : (Says : Entry → Type 0) (chip : ChipData) (s : Segments) (b : List Step) (address count : ℕ)
    (came : Option (List ℕ)) (steps : List Step) → IsAsked address count came steps
    → Goes Says chip s b steps
is_asked_goes Says chip s b address count (Some bytes) steps (size, is) =
    goes_as Says chip s b _ steps is ((sends (reads address bytes refl), tt), tt)
is_asked_goes Says chip s b address count None steps (frame, turns, is_refused, is) =
    goes_as Says chip s b _ steps is ((refused address count frame is_refused, tt), tt)

confirming_goes : (Says : Entry → Type 0) (chip : ChipData) (s : Segments) (b : List Step) (place : Option UniquePlace)
    (steps : List Step) → IsConfirming place steps → Goes Says chip s b steps
confirming_goes Says chip s b None steps is = goes_as Says chip s b [] steps is (tt, tt)
confirming_goes Says chip s b (Some place) steps (came, asked) =
    is_asked_goes Says chip s b place.address place.length came steps asked

-- such steps behind the question whether the board is the chip's
after_confirming : (Says : Entry → Type 0) (chip : ChipData) (s : Segments) (b own : List Step)
    → ((c : List Step) → Goes Says chip s c own) → Goes Says chip s b (confirming chip ++ own)
after_confirming Says chip s b own track =
    let place = confirmed_at chip in
    let asked : List Step = confirm_steps place chip.unique in
    let P : Segments → Type 0 = λ t. Goes Says chip t (b ++ asked) own in
    goes_then Says chip s b asked own (confirm_goes Says chip s b place chip.unique)
    (subst P (sym (confirm_leaves s place chip.unique)) (track (b ++ asked)))

-- All was done.
pub does_whole : (Says : Entry → Type 0) (chip : ChipData) (torn : Bool) (way : Way) (before : List Step)
    (calls : List Call) (P : List Step → Type 0) (old new : RigState)
    → ((b own : List Step) → P own → Goes Says chip (segments_behind_steps [] before) b own)
    → Made calls old new
    → ReachesAndDoes way chip.id torn (IsAfter (confirming chip) P) old new
    → DoesBehind Says chip before torn calls
does_whole Says chip torn way before calls P old new track made (version, codes, steps, after, goes) =
    let s : Segments = segments_behind_steps [] before in
    let asked : List Step = asking_steps version codes chip.id in
    let own = after.0 in
    let x = made_by (SettlesFirst way torn (asked ++ steps)) calls old new made goes in
    let behind = after_confirming Says chip s (before ++ asked) own (λ c. track c own after.2) in
    let went =
    goes_as Says chip s before (asked ++ steps) _ (append-nil (asked ++ steps))
    (goes_then Says chip s before asked steps (asked_goes Says chip s before version codes chip.id)
    (goes_as Says chip s (before ++ asked) _ steps after.1 behind))
    in
    record {
      did =
          record {
            settling = x.0;
            line = x.2.line;
            done = asked ++ steps;
            failed = None;
            last = [];
            begun = refl;
            is =
                x.4
                ∙ ap (λ (l : List Call). x.0 ++ l)
                (x.5 ∙ sym (append-nil (acts_of_steps torn (asked ++ steps))));
          };
      tracks = went.0;
      says = went.1;
    }

-- what failed
begun_of : (cause : Cause) (torn : Bool) (failed : Option Step) (last : List Call)
    → StepFailsBy cause torn failed last → AreBegunOf torn failed last
begun_of of_line torn (Some (Sends turns)) last f = (Line, f)
begun_of of_line torn None last f = absurd f
begun_of of_protocol torn (Some (Sends turns)) last f = (f.0, f.2)
begun_of of_protocol torn None last f = absurd f
begun_of of_file torn (Some (Adds entries)) last f = f
begun_of of_file torn (Some (Sends turns)) last f = absurd f
begun_of of_file torn None last f = f
begun_of of_memory torn None last f = f
begun_of of_memory torn (Some (Sends turns)) last f = absurd f
begun_of of_session torn None last f = f
begun_of of_session torn (Some (Sends turns)) last f = absurd f
begun_of of_refusal torn None last f = f
begun_of of_refusal torn (Some (Sends turns)) last f = absurd f
begun_of cause torn (Some (Adds entries)) last f = absurd f

-- A part was done, whose steps are allowed.
does_cut : (Says : Entry → Type 0) (chip : ChipData) (torn : Bool) (way : Way) (before : List Step) (calls : List Call)
    (Q : List Step → Type 0) (cause : Cause)
    → ((xs : List Step) → Q xs → Goes Says chip (segments_behind_steps [] before) before xs)
    → SettlesThen way (AreCutShort Q cause torn) calls → DoesBehind Says chip before torn calls
does_cut Says chip torn way before calls Q cause track x =
    let cut = x.5 in
    let went = track (cut.done ++ step_in cut.failed) cut.allowed in
    record {
      did =
          record {
            settling = x.0;
            line = x.2.line;
            done = cut.done;
            failed = cut.failed;
            last = cut.last;
            begun = begun_of cause (torn_behind torn cut.done) cut.failed cut.last cut.fails;
            is = x.4 ∙ ap (λ (l : List Call). x.0 ++ l) cut.is;
          };
      tracks = went.0;
      says = went.1;
    }

confirmed_in_part : (Says : Entry → Type 0) (chip : ChipData) (s : Segments) (b own : List Step) (P : List Step → Type 0)
    → ((c xs : List Step) → P xs → Goes Says chip s c xs) → IsConfirmedInPart chip P own
    → Goes Says chip s b own
confirmed_in_part Says chip s b own P track (inl (rest, is)) =
    goes_front Says chip s b own rest
    (confirming_goes Says chip s b (confirmed_at chip) (own ++ rest) is)
confirmed_in_part Says chip s b own P track (inr (steps, is, p)) =
    goes_as Says chip s b _ own is (after_confirming Says chip s b steps (λ c. track c steps p))

pub does_stopped : (Says : Entry → Type 0) (chip : ChipData) (torn : Bool) (way : Way) (before : List Step)
    (calls : List Call) (P : List Step → Type 0) (cause : Cause) (old new : RigState)
    → ((b own : List Step) → P own → Goes Says chip (segments_behind_steps [] before) b own)
    → Made calls old new → ReachesAndStops way chip.id torn (IsConfirmedInPart chip P) cause old new
    → DoesBehind Says chip before torn calls
does_stopped Says chip torn way before calls P cause old new track made (version, codes, goes) =
    let s : Segments = segments_behind_steps [] before in
    let asked : List Step = asking_steps version codes chip.id in
    let Q : List Step → Type 0 = IsAfter asked (IsConfirmedInPart chip P) in
    let x = made_by (SettlesThen way (AreCutShort Q cause torn)) calls old new made goes in
    does_cut Says chip torn way before calls Q cause
    (λ xs after.
    goes_as Says chip s before _ xs after.1
    (goes_then Says chip s before asked after.0
    (asked_goes Says chip s before version codes chip.id)
    (confirmed_in_part Says chip s (before ++ asked) after.0 P track after.2)))
    x

-- a device that wasn't reached
reached_in_part : (Says : Entry → Type 0) (chip : ChipData) (torn : Bool) (way : Way) (before : List Step)
    (calls : List Call) (cause : Cause) → ReachesInPart way cause torn calls
    → DoesBehind Says chip before torn calls
reached_in_part Says chip torn way before calls cause (inl none) =
    record {
      did =
          record {
            settling = [];
            line = tt;
            done = [];
            failed = None;
            last = [];
            begun = refl;
            is = none;
          };
      tracks = tt;
      says = tt;
    }
reached_in_part Says chip torn way before calls cause (inr (inl heard)) =
    record {
      did =
          record {
            settling = acts_of calls;
            line = heard.1.line;
            done = [];
            failed = None;
            last = [];
            begun = refl;
            is = sym (append-nil (acts_of calls));
          };
      tracks = tt;
      says = tt;
    }
reached_in_part Says chip torn way before calls cause (inr (inr x)) =
    let s : Segments = segments_behind_steps [] before in
    does_cut Says chip torn way before calls (Begin IsAsking) cause
    (λ xs begun. goes_front Says chip s before xs begun.0 (asking_goes Says chip s before _ begun.1)) x

pub does_unreached : (Says : Entry → Type 0) (chip : ChipData) (torn : Bool) (way : Way) (before : List Step)
    (calls : List Call) (cause : Cause) (old new : RigState) → Made calls old new
    → GoesOn (ReachesInPart way cause torn) old.calls new.calls → DoesBehind Says chip before torn calls
does_unreached Says chip torn way before calls cause old new made goes =
    reached_in_part Says chip torn way before calls cause
    (made_by (ReachesInPart way cause torn) calls old new made goes)

-- nothing but fetches
fetches_act : (calls : List Call) → AreFetches calls → acts_of calls ≡ []
fetches_act [] are = refl
fetches_act (Fetch ∷ calls) are = fetches_act calls are
fetches_act calls are = absurd are

pub does_nothing : (Says : Entry → Type 0) (chip : ChipData) (torn : Bool) (before : List Step) (calls : List Call)
    (old new : RigState) → Made calls old new → GoesOn AreFetches old.calls new.calls
    → DoesBehind Says chip before torn calls
does_nothing Says chip torn before calls old new made goes =
    record {
      did =
          record {
            settling = [];
            line = tt;
            done = [];
            failed = None;
            last = [];
            begun = refl;
            is = fetches_act calls (made_by AreFetches calls old new made goes);
          };
      tracks = tt;
      says = tt;
    }
