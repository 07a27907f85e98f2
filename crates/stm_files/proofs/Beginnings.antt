-- What the bytes of a file come to that are read one by one: whether it is no journal.
use Rattle.std.proofs.Common.{◌≡◌, ℕ, ◌+◌, ◌-◌, List, [], ◌∷◌, ◌++◌, Bool, true, false, ◌&&◌, ◌==◌, not, if◌then◌else◌, suc, length, Option, Some, None, refl, sym, ◌∙◌, ap, arith, true≢false}
use Rattle.std.proofs.lemmas.List.Sums.{fold-append}
use Rattle.std.specs.Prelude.{IfSome, find, fold, nat_le}
use Rattle.std.specs.List.{list_all}
use Rattle.std.specs.Io.KnownBytes.{Consumes, IsAtEnd}
use Rattle.std.proofs.KnownBytes.{Consumes-trans}
use Rattle.stm_journal.proofs.Names.{in_front, is_void, Text, text_of}
use Rattle.stm_files.specs.Beginning.{ReadsTo, ended, read_on, is_said, longer, may_be_torn, no_bytes, unread, is_other_at_end}
use Rattle.stm_files.specs.NoJournal.{follows_to, has_word, is_filling, is_no_journal, is_other, is_torn, is_torn_from, may_stand, version_at}
use Rattle.stm_files.specs.declared.beginning.Course.{Course}
use Rattle.stm_files.specs.declared.beginning.Course.TheVariants.{Header, Torn, Other}
use Rattle.stm_files.specs.declared.beginning.LineStart.{LineStart}
use Rattle.stm_files.specs.declared.beginning.Beginning.{Beginning}
use Rattle.stm_files.specs.declared.beginning.Beginning.TheVariants.{Void, Said}
use Rattle.stm_files.proofs.Tallies.{flipped}

abbrev begun : ℕ → ℕ → Course → Bool → LineStart
begun v at c m = record { version = v; at = at; course = c; is_marked = m }

-- a line that may be torn still, by how it goes on
other-behind : (line : List ℕ) (v at : ℕ) (m : Bool) → may_be_torn (fold longer (begun v at Other m) line) ≡ false
other-behind [] v at m = refl
other-behind (b ∷ line) v at m = other-behind line v at (b == 33)

torn-behind : (line : List ℕ) (v at : ℕ) (m : Bool) → may_be_torn (fold longer (begun v at Torn m) line) ≡ list_all is_filling line
torn-behind [] v at m = refl
torn-behind (b ∷ line) v at m =
    elim (is_filling b) as (λ x. may_be_torn (fold longer (begun v at (if x then Torn else Other) (b == 33)) line) ≡ (x && list_all is_filling line)) [
      | true ↦ torn-behind line v at (b == 33)
      | false ↦ other-behind line v at (b == 33)
    ]

torn-broken : (line : List ℕ) (v at : ℕ) (m f : Bool) → may_be_torn (fold longer (begun v at (if f then Torn else Other) m) line) ≡ (f && list_all is_filling line)
torn-broken line v at m true = torn-behind line v at m
torn-broken line v at m false = other-behind line v at m

torn-from : (line : List ℕ) (v at : ℕ) (m : Bool) → may_be_torn (fold longer (begun v at Header m) line) ≡ is_torn_from v at line
torn-from [] v at m = refl
torn-from (b ∷ line) v at m =
    elim (may_stand v at b) as (λ x. may_be_torn (fold longer (if x then begun (version_at v at b) (at + 1) Header (b == 33) else begun v at (if is_filling b then Torn else Other) (b == 33)) line)
    ≡ (if x then is_torn_from (version_at v at b) (at + 1) line else list_all is_filling (b ∷ line))) [
      | true ↦ torn-from line (version_at v at b) (at + 1) (b == 33)
      | false ↦ torn-broken line v at (b == 33) (is_filling b)
    ]

-- the place to which a line goes on as a header does
place-other : (line : List ℕ) (v at : ℕ) (m : Bool) → (fold longer (begun v at Other m) line).at ≡ at
place-other [] v at m = refl
place-other (b ∷ line) v at m = place-other line v at (b == 33)

place-torn : (line : List ℕ) (v at : ℕ) (m : Bool) → (fold longer (begun v at Torn m) line).at ≡ at
place-torn [] v at m = refl
place-torn (b ∷ line) v at m =
    elim (is_filling b) as (λ x. (fold longer (begun v at (if x then Torn else Other) (b == 33)) line).at ≡ at) [
      | true ↦ place-torn line v at (b == 33)
      | false ↦ place-other line v at (b == 33)
    ]

place-broken : (line : List ℕ) (v at : ℕ) (m x : Bool) → (fold longer (begun v at (if x then Torn else Other) m) line).at ≡ at
place-broken line v at m true = place-torn line v at m
place-broken line v at m false = place-other line v at m

place-from : (line : List ℕ) (v at : ℕ) (m : Bool) → (fold longer (begun v at Header m) line).at ≡ follows_to v at line
place-from [] v at m = refl
place-from (b ∷ line) v at m =
    elim (may_stand v at b) as (λ x. (fold longer (if x then begun (version_at v at b) (at + 1) Header (b == 33) else begun v at (if is_filling b then Torn else Other) (b == 33)) line).at
    ≡ (if x then follows_to (version_at v at b) (at + 1) line else at)) [
      | true ↦ place-from line (version_at v at b) (at + 1) (b == 33)
      | false ↦ place-broken line v at (b == 33) (is_filling b)
    ]

-- whether its last byte is `!`
marked : Bool → List ℕ → Bool
marked m [] = m
marked m (b ∷ line) = marked (b == 33) line

marked-either : (x : Bool) (s t : LineStart) (m : Bool) → s.is_marked ≡ m → t.is_marked ≡ m → (if x then s else t).is_marked ≡ m
marked-either true s t m p q = p
marked-either false s t m p q = q

marked-longer : (line : LineStart) (b : ℕ) → (longer line b).is_marked ≡ (b == 33)
marked-longer line b = marked-either _ _ _ (b == 33) refl refl

marked-fold : (bytes : List ℕ) (line : LineStart) → (fold longer line bytes).is_marked ≡ marked line.is_marked bytes
unfolding marked
marked-fold [] line = refl
marked-fold (b ∷ bytes) line = marked-fold bytes (longer line b) ∙ ap (λ m. marked m bytes) (marked-longer line b)

void-front : (b c : ℕ) (line : List ℕ) → is_void (b ∷ c ∷ line) ≡ is_void (c ∷ line)
void-front b c line =
    let k : length (b ∷ c ∷ line) - 1 ≡ suc (length (c ∷ line) - 1) = omega arith in
    rw k refl

marked-void : (line : List ℕ) → marked false line ≡ is_void line
unfolding marked
marked-void [] = refl
marked-void (b ∷ []) = sym (flipped b)
marked-void (b ∷ c ∷ line) = marked-void (c ∷ line) ∙ sym (void-front b c line)

-- what a file is whose rest has these lines and this tail, by the line that is begun
judged : Bool → LineStart → List (List ℕ) → List ℕ → Bool
judged a line [] tail = not (a && may_be_torn (fold longer line tail))
judged a line (l ∷ lines) tail =
    if (fold longer line l).is_marked then judged (a && may_be_torn (fold longer line l)) no_bytes lines tail
    else not (nat_le 11 (fold longer line l).at)

said : (bytes : List ℕ) (x : Bool) → is_other_at_end (fold read_on (Said x) bytes) ≡ not x
said [] x = refl
said (b ∷ bytes) x = said bytes x

judged-front : (a : Bool) (line : LineStart) (b : ℕ) (lines : List (List ℕ)) (tail : List ℕ)
    → judged a (longer line b) lines tail ≡ judged a line (in_front b (record { lines = lines; tail = tail })).lines (in_front b (record { lines = lines; tail = tail })).tail
unfolding judged
judged-front a line b [] tail = refl
judged-front a line b (l ∷ lines) tail = refl

judges : (bytes : List ℕ) (a : Bool) (line : LineStart) → is_other_at_end (fold read_on (Void a line) bytes) ≡ judged a line (text_of bytes).lines (text_of bytes).tail
unfolding judged
judges [] a line = refl
judges (b ∷ bytes) a line =
    let t : Text = text_of bytes in
    elim (b == 10) as (λ x. is_other_at_end (fold read_on (if x then ended a line else Void a (longer line b)) bytes)
    ≡ judged a line (if x then record { lines = [] ∷ t.lines; tail = t.tail } else in_front b t).lines (if x then record { lines = [] ∷ t.lines; tail = t.tail } else in_front b t).tail) [
      | true ↦ elim line.is_marked as (λ m. is_other_at_end (fold read_on (if m then Void (a && may_be_torn line) no_bytes else Said (nat_le 11 line.at)) bytes)
          ≡ (if m then judged (a && may_be_torn line) no_bytes t.lines t.tail else not (nat_le 11 line.at))) [
            | true ↦ judges bytes (a && may_be_torn line) no_bytes
            | false ↦ said bytes (nat_le 11 line.at)
          ]
      | false ↦ judges bytes a (longer line b) ∙ judged-front a line b t.lines t.tail
    ]

-- the same by the words of the definition
and-true : (a : Bool) → (a && true) ≡ a
and-true true = refl
and-true false = refl

and-assoc : (a b c : Bool) → ((a && b) && c) ≡ (a && (b && c))
and-assoc true b c = refl
and-assoc false b c = refl

line-torn : (line : List ℕ) → may_be_torn (fold longer no_bytes line) ≡ is_torn line
line-torn line = torn-from line 0 0 false

line-void : (line : List ℕ) → (fold longer no_bytes line).is_marked ≡ is_void line
line-void line = marked-fold line no_bytes ∙ marked-void line

line-word : (line : List ℕ) → nat_le 11 (fold longer no_bytes line).at ≡ has_word line
line-word line = ap (λ n. nat_le 11 n) (place-from line 0 0 false)

judged-means : (lines : List (List ℕ)) (a : Bool) (tail : List ℕ)
    → judged a no_bytes lines tail ≡ is_other (find (λ line. not (is_void line)) lines) ((a && list_all is_torn lines) && is_torn tail)
unfolding judged
judged-means [] a tail = ap not (ap (λ x. a && x) (line-torn tail) ∙ ap (λ x. x && is_torn tail) (sym (and-true a)))
judged-means (l ∷ lines) a tail =
    ap (λ m. if m then judged (a && may_be_torn (fold longer no_bytes l)) no_bytes lines tail else not (nat_le 11 (fold longer no_bytes l).at)) (line-void l)
    ∙ ap (λ x. if is_void l then judged (a && x) no_bytes lines tail else not (nat_le 11 (fold longer no_bytes l).at)) (line-torn l)
    ∙ ap (λ x. if is_void l then judged (a && is_torn l) no_bytes lines tail else not x) (line-word l)
    ∙ elim (is_void l) as (λ m. (if m then judged (a && is_torn l) no_bytes lines tail else not (has_word l))
    ≡ is_other (if not m then Some l else find (λ line. not (is_void line)) lines) ((a && (is_torn l && list_all is_torn lines)) && is_torn tail)) [
      | true ↦ judged-means lines (a && is_torn l) tail
          ∙ ap (λ x. is_other (find (λ line. not (is_void line)) lines) (x && is_torn tail)) (and-assoc a (is_torn l) (list_all is_torn lines))
      | false ↦ refl
    ]

-- a file is told by all its bytes
told : (bytes : List ℕ) → is_other_at_end (fold read_on unread bytes) ≡ is_no_journal bytes
told bytes = judges bytes true no_bytes ∙ judged-means (text_of bytes).lines true (text_of bytes).tail

-- bytes more were read
pub read-more : (a b c : Option (List ℕ)) (file : Beginning) (bytes : List ℕ) → ReadsTo a b file → Consumes b c bytes → ReadsTo a c (fold read_on file bytes)
read-more a b c file bytes is got =
    (is.0 ++ bytes, Consumes-trans a b c is.0 bytes is.1 got, ap (λ f. fold read_on f bytes) is.2 ∙ sym (fold-append read_on unread is.0 bytes))

said-stays : (bytes : List ℕ) (file : Beginning) → is_said file ≡ true → is_other_at_end (fold read_on file bytes) ≡ is_other_at_end file
said-stays bytes (Said x) is = said bytes x
said-stays bytes (Void a line) is = absurd (true≢false (sym is))

read-all : (had taken left : List ℕ) (file : Beginning) → had ≡ taken ++ left → file ≡ fold read_on unread taken → is_other_at_end (fold read_on file left) ≡ is_no_journal had
read-all had taken left file is from =
    ap (λ f. is_other_at_end (fold read_on f left)) from ∙ ap is_other_at_end (sym (fold-append read_on unread taken left))
    ∙ ap (λ bytes. is_other_at_end (fold read_on unread bytes)) (sym is) ∙ told had

-- the first line that isn't void is read, or all is
pub known-said : (a c : Option (List ℕ)) (file : Beginning) → ReadsTo a c file → is_said file ≡ true → IfSome a (λ had. is_other_at_end file ≡ is_no_journal had)
known-said None c file is said = tt
known-said (Some had) None file is said = absurd is.1
known-said (Some had) (Some left) file is said = sym (said-stays left file said) ∙ read-all had is.0 left file is.1 is.2

pub known-whole : (a c : Option (List ℕ)) (file : Beginning) → ReadsTo a c file → IsAtEnd c → IfSome a (λ had. is_other_at_end file ≡ is_no_journal had)
known-whole None c file is end = tt
known-whole (Some had) None file is end = absurd is.1
known-whole (Some had) (Some left) file is end = ap (λ rest. is_other_at_end (fold read_on file rest)) (sym end) ∙ read-all had is.0 left file is.1 is.2
