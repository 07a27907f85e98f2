-- Parts of a session join.
use Rattle.std.proofs.Common.{◌≡◌, ℕ, ◌+◌, ◌≤◌, Bool, true, List, [], ◌∷◌}
use Rattle.std.proofs.Common.{◌++◌, length, Option, None, refl, sym, ◌∙◌, ap}
use Rattle.std.proofs.Common.{arith, append_assoc, append-nil, length-append}
use Rattle.std.specs.List.{AllByRecursion, concat}
use Rattle.std.proofs.lemmas.List.Folds.{concat-append}
use Rattle.stm_wire.specs.Call.{Call}
use Rattle.stm_wire.specs.Chip.{ChipData}
use Rattle.stm_wire.specs.Dialogue.{GoesOn, puts_of, gets_of}
use Rattle.stm_wire.specs.lemmas.DialogueLaws.{GoesOn-append, GoesOn-nothing, GoesOn-weaker}
use Rattle.stm_wire.specs.lemmas.DialogueLaws.{gets_of-append, line_calls_are_few, puts_of-append}
use Rattle.stm_wire.specs.Parts.{AreFew, IsPart, IsSession}
use Rattle.stm_wire.specs.SentList.{IsFrame, get, get_id, read, write, erase, tells, IsSettlingRun}
use Rattle.stm_wire.specs.Settling.{Talks}

few-join : (m n : ℕ) (xs ys : List Call) → AreFew m xs → AreFew n ys → AreFew (m + n) (xs ++ ys)
few-join m n xs ys p q =
    omega (
      arith,
      p,
      q,
      ap length (puts_of-append xs ys),
      length-append (puts_of xs) (puts_of ys),
      gets_of-append xs ys,
    )

all-join : (chip : Option ChipData) (xs ys : List (List ℕ)) → AllByRecursion (IsFrame chip) xs
    → AllByRecursion (IsFrame chip) ys → AllByRecursion (IsFrame chip) (xs ++ ys)
all-join chip [] ys p q = q
all-join chip (x ∷ xs) ys (first, rest) q = (first, all-join chip xs ys rest q)

-- what is put by a whole list and then by a part
sent-join : (front : List ℕ) (frames more : List (List ℕ)) (unsent left : List ℕ)
    (xs ys : List Call) → left ≡ [] → puts_of xs ++ left ≡ front ++ concat frames
    → puts_of ys ++ unsent ≡ concat more
    → puts_of (xs ++ ys) ++ unsent ≡ front ++ concat (frames ++ more)
sent-join front frames more unsent left xs ys none p q =
    let full : puts_of xs ≡ front ++ concat frames =
    sym (append-nil (puts_of xs)) ∙ ap (λ zs. puts_of xs ++ zs) (sym none) ∙ p in
    ap (λ zs. zs ++ unsent) (puts_of-append xs ys) ∙ append_assoc (puts_of xs) (puts_of ys) unsent
    ∙ ap (λ zs. puts_of xs ++ zs) q
    ∙ ap (λ zs. zs ++ concat more) full ∙ append_assoc front (concat frames) (concat more)
    ∙ ap (λ zs. front ++ zs) (sym (concat-append frames more))

-- two parts, one after the other
pub parts_join : (chip : Option ChipData) (whole : Bool) (m n : ℕ) (a b c : Option (List Call))
    → GoesOn (IsPart chip true m) a b → GoesOn (IsPart chip whole n) b c
    → GoesOn (IsPart chip whole (m + n)) a c
parts_join chip whole m n a b c p q =
    GoesOn-append (IsPart chip true m) (IsPart chip whole n) (IsPart chip whole (m + n)) a b c p q
    (λ xs ys x y.
    record {
      frames = x.frames ++ y.frames;
      are_frames = all-join chip x.frames y.frames x.are_frames y.are_frames;
      unsent = y.unsent;
      all_sent = y.all_sent;
      sent = sent-join [] x.frames y.frames y.unsent x.unsent xs ys (x.all_sent refl) x.sent y.sent;
      few = few-join m n xs ys x.few y.few;
    })

-- a session and a part
pub session_joins : (chip : Option ChipData) (byte limit : ℕ) (whole : Bool) (m n : ℕ)
    (a b c : Option (List Call)) → GoesOn (IsSession chip byte limit true m) a b
    → GoesOn (IsPart chip whole n) b c
    → GoesOn (IsSession chip byte limit whole (m + n)) a c
session_joins chip byte limit whole m n a b c p q =
    GoesOn-append (IsSession chip byte limit true m) (IsPart chip whole n)
    (IsSession chip byte limit whole (m + n)) a b c p q
    (λ xs ys x y.
    record {
      settling = x.settling;
      is_settling = x.is_settling;
      frames = x.frames ++ y.frames;
      are_frames = all-join chip x.frames y.frames x.are_frames y.are_frames;
      unsent = y.unsent;
      all_sent = y.all_sent;
      sent =
          sent-join x.settling x.frames y.frames y.unsent x.unsent xs ys
          (x.all_sent refl) x.sent y.sent;
      few = few-join m n xs ys x.few y.few;
    })

-- a settling run is a session so far
pub settling_is_session : (chip : Option ChipData) (byte limit : ℕ) (whole : Bool) (most : ℕ)
    (a b : Option (List Call)) → GoesOn (Talks (IsSettlingRun byte limit) most) a b
    → GoesOn (IsSession chip byte limit whole most) a b
settling_is_session chip byte limit whole most a b p =
    GoesOn-weaker (Talks (IsSettlingRun byte limit) most)
    (IsSession chip byte limit whole most) a b p
    (λ xs talks.
    record {
      settling = puts_of xs;
      is_settling = talks.puts;
      frames = [];
      are_frames = tt;
      unsent = [];
      all_sent = λ w. refl;
      sent = refl;
      few = omega (arith, talks.few, line_calls_are_few xs talks.line);
    })

-- calls that put and get nothing are a part, and a session
pub silent_is_part : (chip : Option ChipData) (whole : Bool) (most : ℕ) (P : List Call → Type 0)
    (a b : Option (List Call)) → ((xs : List Call) → P xs → puts_of xs ≡ [])
    → ((xs : List Call) → P xs → gets_of xs ≡ 0)
    → GoesOn P a b → GoesOn (IsPart chip whole most) a b
silent_is_part chip whole most P a b puts gets p =
    GoesOn-weaker P (IsPart chip whole most) a b p
    (λ xs x.
    record {
      frames = [];
      are_frames = tt;
      unsent = [];
      all_sent = λ w. refl;
      sent = append-nil (puts_of xs) ∙ puts xs x;
      few = omega (arith, ap length (puts xs x), gets xs x);
    })

pub silent_is_session : (chip : Option ChipData) (byte limit : ℕ) (whole : Bool) (most : ℕ)
    (P : List Call → Type 0) (a b : Option (List Call))
    → ((xs : List Call) → P xs → puts_of xs ≡ [])
    → ((xs : List Call) → P xs → gets_of xs ≡ 0) → GoesOn P a b
    → GoesOn (IsSession chip byte limit whole most) a b
silent_is_session chip byte limit whole most P a b puts gets p =
    GoesOn-weaker P (IsSession chip byte limit whole most) a b p
    (λ xs x.
    record {
      settling = [];
      is_settling = (0, refl);
      frames = [];
      are_frames = tt;
      unsent = [];
      all_sent = λ w. refl;
      sent = append-nil (puts_of xs) ∙ puts xs x;
      few = omega (arith, ap length (puts xs x), gets xs x);
    })

-- and before a session they change nothing
pub silent_then_session : (chip : Option ChipData) (byte limit : ℕ) (whole : Bool) (most : ℕ)
    (P : List Call → Type 0) (a b c : Option (List Call))
    → ((xs : List Call) → P xs → puts_of xs ≡ [])
    → ((xs : List Call) → P xs → gets_of xs ≡ 0) → GoesOn P a b
    → GoesOn (IsSession chip byte limit whole most) b c
    → GoesOn (IsSession chip byte limit whole most) a c
silent_then_session chip byte limit whole most P a b c puts gets p q =
    GoesOn-append P (IsSession chip byte limit whole most)
    (IsSession chip byte limit whole most) a b c p q
    (λ xs ys x y.
    let same : puts_of (xs ++ ys) ≡ puts_of ys =
    puts_of-append xs ys ∙ ap (λ zs. zs ++ puts_of ys) (puts xs x) in
    record {
      settling = y.settling;
      is_settling = y.is_settling;
      frames = y.frames;
      are_frames = y.are_frames;
      unsent = y.unsent;
      all_sent = y.all_sent;
      sent = ap (λ zs. zs ++ y.unsent) same ∙ y.sent;
      few = omega (arith, y.few, ap length same, gets_of-append xs ys, gets xs x);
    })

-- no calls
pub nothing_is_part : (chip : Option ChipData) (whole : Bool) (most : ℕ) (a : Option (List Call))
    → GoesOn (IsPart chip whole most) a a
nothing_is_part chip whole most a =
    GoesOn-nothing (IsPart chip whole most) a
    (record {
      frames = [];
      are_frames = tt;
      unsent = [];
      all_sent = λ w. refl;
      sent = refl;
      few = omega arith;
    })

pub part_longer : (chip : Option ChipData) (whole : Bool) (m n : ℕ) (a b : Option (List Call))
    → m ≤ n → GoesOn (IsPart chip whole m) a b → GoesOn (IsPart chip whole n) a b
part_longer chip whole m n a b le p =
    GoesOn-weaker (IsPart chip whole m) (IsPart chip whole n) a b p
    (λ xs x.
    record {
      frames = x.frames;
      are_frames = x.are_frames;
      unsent = x.unsent;
      all_sent = x.all_sent;
      sent = x.sent;
      few = omega (arith, le, x.few);
    })

pub session_weaker : (chip : Option ChipData) (byte limit : ℕ) (whole : Bool) (m n : ℕ)
    (a b : Option (List Call)) → m ≤ n → GoesOn (IsSession chip byte limit true m) a b
    → GoesOn (IsSession chip byte limit whole n) a b
session_weaker chip byte limit whole m n a b le p =
    GoesOn-weaker (IsSession chip byte limit true m) (IsSession chip byte limit whole n) a b p
    (λ xs x.
    record {
      settling = x.settling;
      is_settling = x.is_settling;
      frames = x.frames;
      are_frames = x.are_frames;
      unsent = x.unsent;
      all_sent = λ w. x.all_sent refl;
      sent = x.sent;
      few = omega (arith, le, x.few);
    })

pub session_longer : (chip : Option ChipData) (byte limit : ℕ) (whole : Bool) (m n : ℕ)
    (a b : Option (List Call)) → m ≤ n → GoesOn (IsSession chip byte limit whole m) a b
    → GoesOn (IsSession chip byte limit whole n) a b
session_longer chip byte limit whole m n a b le p =
    GoesOn-weaker (IsSession chip byte limit whole m) (IsSession chip byte limit whole n) a b p
    (λ xs x.
    record {
      settling = x.settling;
      is_settling = x.is_settling;
      frames = x.frames;
      are_frames = x.are_frames;
      unsent = x.unsent;
      all_sent = x.all_sent;
      sent = x.sent;
      few = omega (arith, le, x.few);
    })

-- a frame that names no place may be sent to any chip
pub frame_of_any : (chip : Option ChipData) (frame : List ℕ) → IsFrame None frame
    → IsFrame chip frame
frame_of_any chip frame (get e) = get e
frame_of_any chip frame (get_id e) = get_id e
frame_of_any chip frame (read c page address size is some limit within e) = cc
frame_of_any chip frame (write c page address sent is some limit within e) = cc
frame_of_any chip frame (erase c page is exists e) = cc
frame_of_any chip frame (tells c place is known e) = cc

frames_of_any : (chip : Option ChipData) (frames : List (List ℕ))
    → AllByRecursion (IsFrame None) frames → AllByRecursion (IsFrame chip) frames
frames_of_any chip [] p = tt
frames_of_any chip (frame ∷ frames) (first, rest) =
    (frame_of_any chip frame first, frames_of_any chip frames rest)

pub session_of_any : (chip : Option ChipData) (byte limit : ℕ) (whole : Bool) (most : ℕ)
    (a b : Option (List Call)) → GoesOn (IsSession None byte limit whole most) a b
    → GoesOn (IsSession chip byte limit whole most) a b
session_of_any chip byte limit whole most a b p =
    GoesOn-weaker (IsSession None byte limit whole most)
    (IsSession chip byte limit whole most) a b p
    (λ xs x.
    record {
      settling = x.settling;
      is_settling = x.is_settling;
      frames = x.frames;
      are_frames = frames_of_any chip x.frames x.are_frames;
      unsent = x.unsent;
      all_sent = x.all_sent;
      sent = x.sent;
      few = x.few;
    })
