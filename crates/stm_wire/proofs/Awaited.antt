-- Each byte fed to a harmless device ends its exchange by a refusal, or brings that nearer.
use Rattle.std.proofs.Common.{lit≤, ◌≡◌, ℕ, suc, ◌+◌, ◌*◌, ◌<◌, ◌≤◌, ◌⊎◌, inl, inr, ⊎_elim, cond, ◌||◌, eqb, List, [], ◌∷◌, ◌++◌, length, refl, sym, ap, ◌∙◌, subst, arith, Option, Some, None}
use Rattle.std.proofs.lemmas.Bool.{cond_both, eq-eqb, ne_eqb, cases_eq}
use Rattle.std.proofs.lemmas.List.{append-nil, length-append}
use Rattle.stm_wire.proofs.Tellings.{readable-few}
use Rattle.stm_wire.proofs.Names.{ack, answer, ChipData, commands_answer, Connected, Device, Feed, Feeds, Gone, Harmless, id_answer, IsDevice, IsListening, IsOpenPhase, IsRefusedIn, nack, number_of}
use Rattle.stm_wire.proofs.Names.{Phase, phase_after, read_answer, Receives, reply_of, reply_to, step_reply, Takes, Verdict, verdict}
use Rattle.stm_wire.specs.declared.verdict.Verdict.TheVariants.{Done, Refused, Loose}
use Rattle.stm_wire.proofs.Bound.{IsBytes, by_recursion}
use Rattle.stm_wire.proofs.Ending.{refused_pair, bytes_more, nearer_open, nearer_done}

-- the reply on an open list
step_cases : (bytes : List ℕ) → (step_reply bytes ≡ []) ⊎ (step_reply bytes ≡ ack ∷ [])
step_cases (c ∷ x ∷ []) = inr refl
step_cases (c ∷ x ∷ a ∷ b ∷ d ∷ e ∷ y ∷ []) = cond_both (eqb c 0x11 || eqb c 0x31) (ack ∷ []) [] (λ r. (r ≡ []) ⊎ (r ≡ ack ∷ [])) (λ _. inr refl) (λ _. inl refl)
step_cases _ = inl refl

-- How much the exchange that is open may still add to twice the bytes owed, above one for each byte
-- fed. Outside it each refusal takes two bytes, so that a device owes half as many as it was sent.
-- A done list brings 259 bytes at most; an acknowledgement comes at two bytes, and at seven.
abbrev pub due_behind : List ℕ → ℕ
due_behind (a ∷ b ∷ d ∷ e ∷ y ∷ rest) = 0
due_behind rest = 2

abbrev pub due : ℕ → List ℕ → ℕ
due byte [] = 0
due byte (c ∷ []) = cond (eqb c byte) 1 521
due byte (c ∷ x ∷ rest) = 517 + due_behind rest

due_behind_most : (rest : List ℕ) → due_behind rest ≤ 2
due_behind_most (a ∷ b ∷ d ∷ e ∷ y ∷ rest) = lit≤ tt
due_behind_most _ = lit≤ tt

pub due_most : (byte : ℕ) (rest : List ℕ) → due byte rest ≤ 521
due_most byte [] = lit≤ tt
due_most byte (c ∷ []) = cond_both (eqb c byte) 1 521 (λ n. n ≤ 521) (λ _. lit≤ tt) (λ _. lit≤ tt)
due_most byte (c ∷ x ∷ rest) = let m = due_behind_most rest in omega arith

due_open : (chip : ChipData) (codes : List ℕ) (byte : ℕ) (rest : List ℕ) → verdict chip codes (rest ++ byte ∷ []) ≡ None →
    2 * length (step_reply (rest ++ byte ∷ [])) + due byte (rest ++ byte ∷ []) ≤ due byte rest + 1
due_open chip codes byte [] e = rw (eq-eqb byte byte refl) (lit≤ tt)
due_open chip codes byte (c ∷ []) e = ⊎_elim
    (λ same. absurd (let h = sym (refused_pair chip codes c byte same) ∙ e in cc))
    (λ other. rw (ne_eqb c byte other) (lit≤ tt)) (cases_eq c byte)
due_open chip codes byte (c ∷ x ∷ []) e = lit≤ tt
due_open chip codes byte (c ∷ x ∷ a ∷ []) e = lit≤ tt
due_open chip codes byte (c ∷ x ∷ a ∷ b ∷ []) e = lit≤ tt
due_open chip codes byte (c ∷ x ∷ a ∷ b ∷ d ∷ []) e = lit≤ tt
due_open chip codes byte (c ∷ x ∷ a ∷ b ∷ d ∷ f ∷ []) e = cond_both (eqb c 0x11 || eqb c 0x31) (ack ∷ []) [] (λ r. 2 * length r + 517 ≤ 520) (λ _. lit≤ tt) (λ _. lit≤ tt)
due_open chip codes byte (c ∷ x ∷ a ∷ b ∷ d ∷ f ∷ y ∷ []) e = lit≤ tt
due_open chip codes byte (c ∷ x ∷ a ∷ b ∷ d ∷ f ∷ y ∷ z ∷ rest) e = lit≤ tt

due_done : (chip : ChipData) (codes : List ℕ) (byte : ℕ) (rest : List ℕ) → verdict chip codes (rest ++ byte ∷ []) ≡ Some Done → 517 ≤ due byte rest
due_done chip codes byte [] e = absurd (let h : None ≡ Some Done = e in cc)
due_done chip codes byte (c ∷ []) e = ⊎_elim
    (λ same. absurd (let h = sym (refused_pair chip codes c byte same) ∙ e in cc))
    (λ other. rw (ne_eqb c byte other) (lit≤ tt)) (cases_eq c byte)
due_done chip codes byte (c ∷ x ∷ rest) e = omega arith

due_refused : (chip : ChipData) (codes : List ℕ) (byte : ℕ) (rest : List ℕ) → verdict chip codes (rest ++ byte ∷ []) ≡ Some Refused → 1 ≤ due byte rest
due_refused chip codes byte [] e = absurd (let h : None ≡ Some Refused = e in cc)
due_refused chip codes byte (c ∷ []) e = cond_both (eqb c byte) 1 521 (λ n. 1 ≤ n) (λ _. lit≤ tt) (λ _. lit≤ tt)
due_refused chip codes byte (c ∷ x ∷ rest) e = omega arith

read_small : (chip : ChipData) (flash bytes : List ℕ) → IsBytes bytes → length (read_answer chip flash bytes) ≤ 258
read_small chip flash (a ∷ b ∷ c ∷ d ∷ x ∷ n ∷ rest) by =
    let small = by.1.1.1.1.1.0 in
    let few = readable-few chip flash (number_of a b c d) (n + 1) in
    omega arith
read_small chip flash _ by = lit≤ tt

pub answer_small : (d : Device) → IsDevice d → (bytes : List ℕ) → IsBytes bytes → length (answer d.chip d.version d.codes d.flash bytes) ≤ 258
answer_small d is (c ∷ x ∷ rest) by =
    let P : List ℕ → Type 0 = λ r. length r ≤ 258 in
    let count = is.count in
    cond_both (eqb c 0x00) (commands_answer d.version d.codes) _ P (λ _. let l = length-append (length d.codes ∷ d.version ∷ d.codes) (ack ∷ []) in omega arith)
    (λ _. cond_both (eqb c 0x02) (id_answer d.chip) _ P (λ _. lit≤ tt)
    (λ _. cond_both (eqb c 0x11) (read_answer d.chip d.flash rest) [] P (λ _. read_small d.chip d.flash rest by.1.1) (λ _. lit≤ tt)))
answer_small d is _ by = lit≤ tt

pub step_small : (bytes : List ℕ) → length (step_reply bytes) ≤ 1
step_small bytes = ⊎_elim (λ none. rw none (lit≤ tt)) (λ one. rw one (lit≤ tt)) (step_cases bytes)

-- twice the bytes owed grow by one more at most than what was due allows
owes_open : (byte : ℕ) (rest : List ℕ) (old : Device) → verdict old.chip old.codes (rest ++ byte ∷ []) ≡ None →
    2 * length (old.owed ++ reply_of old (rest ++ byte ∷ [])) + due byte (rest ++ byte ∷ []) ≤ 2 * length old.owed + due byte rest + 1
owes_open byte rest old v =
    let bytes = rest ++ byte ∷ [] in
    let r : reply_of old bytes ≡ step_reply bytes = ap (λ w. reply_to w old.chip old.version old.codes old.flash bytes) v in
    let len = length-append old.owed (step_reply bytes) in
    let less = due_open old.chip old.codes byte rest v in
    rw r (omega arith)

owes_done : (byte : ℕ) (rest : List ℕ) (old : Device) → IsDevice old → IsBytes rest → byte < 256 → verdict old.chip old.codes (rest ++ byte ∷ []) ≡ Some Done →
    2 * length (old.owed ++ reply_of old (rest ++ byte ∷ [])) ≤ 2 * length old.owed + due byte rest + 1
owes_done byte rest old is by small v =
    let bytes = rest ++ byte ∷ [] in
    let a = answer old.chip old.version old.codes old.flash bytes in
    let r : reply_of old bytes ≡ ack ∷ a = ap (λ w. reply_to w old.chip old.version old.codes old.flash bytes) v in
    let len = length-append old.owed (ack ∷ a) in
    let few = answer_small old is bytes (bytes_more rest byte by small) in
    let whole = due_done old.chip old.codes byte rest v in
    rw r (omega arith)

-- the byte was refused: the exchange is over
pub record Refuses (byte : ℕ) (rest : List ℕ) (old new : Device) : Type 0 where
  pub is : new ≡ record old { owed = old.owed ++ nack ∷ []; phase = Connected [] }
  pub due : 1 ≤ due byte rest

-- the byte was taken, and nothing is owed for it, or what begins with an acknowledgement
pub record Advances (byte : ℕ) (rest : List ℕ) (old new : Device) : Type 0 where
  pub left : List ℕ
  pub phase : new.phase ≡ Connected left
  pub nearer : (n : ℕ) → IsRefusedIn old.chip old.codes byte (suc n) rest → IsRefusedIn old.chip old.codes byte n left
  pub owes : 2 * length new.owed + due byte left ≤ 2 * length old.owed + due byte rest + 1
  pub reply : (new.owed ≡ old.owed) ⊎ ((more : List ℕ) × (new.owed ≡ old.owed ++ ack ∷ more))

advances_open : (byte : ℕ) (rest : List ℕ) (old new : Device) →
    verdict old.chip old.codes (rest ++ byte ∷ []) ≡ None → Takes old (rest ++ byte ∷ []) None new → Advances byte rest old new
advances_open byte rest old new v e =
    let bytes = rest ++ byte ∷ [] in
    let replies : reply_of old bytes ≡ step_reply bytes = ap (λ w. reply_to w old.chip old.version old.codes old.flash bytes) v in
    subst (Advances byte rest old) (sym e) (record {
      left = bytes;
      phase = refl;
      nearer = nearer_open old.chip old.codes byte rest v;
      owes = owes_open byte rest old v;
      reply = ⊎_elim (λ none. inl (ap (λ r. old.owed ++ r) (replies ∙ none) ∙ append-nil old.owed)) (λ one. inr ([], ap (λ r. old.owed ++ r) (replies ∙ one))) (step_cases bytes);
    })

-- a device that leaves, or of which nothing is promised, isn't harmless
not_gone : (byte : ℕ) (pages : List ℕ) (old new : Device) → Harmless old byte pages → Feeds byte old new → new.phase ≡ Gone → ⊥
not_gone byte pages old new h f e = subst IsListening e (h.each (Feed ∷ []) new (new, f, refl)).phase

stays : (bytes : List ℕ) → (phase_after bytes ≡ Connected []) ⊎ (phase_after bytes ≡ Gone)
stays [] = inl refl
stays (c ∷ rest) = cond_both (eqb c 0x21) Gone (Connected []) (λ p. (p ≡ Connected []) ⊎ (p ≡ Gone)) (λ _. inr refl) (λ _. inl refl)

pub fed : (byte : ℕ) (pages rest : List ℕ) (old new : Device) → IsDevice old → old.phase ≡ Connected rest → byte < 256 → Harmless old byte pages → Feeds byte old new →
    Refuses byte rest old new ⊎ Advances byte rest old new
fed byte pages rest old new is at small h f = go (verdict old.chip old.codes bytes) refl (subst (λ (p : Phase). Receives old p byte new) at f.receives)
  where
    bytes : List ℕ
    bytes = rest ++ byte ∷ []

    by : IsBytes rest
    by = by_recursion rest (subst (IsOpenPhase old.chip old.codes) at is.phase).1

    gone : Device
    gone = record old { owed = old.owed ++ reply_of old bytes; phase = Gone }

    go : (v : Option Verdict) → verdict old.chip old.codes bytes ≡ v → Takes old bytes v new → Refuses byte rest old new ⊎ Advances byte rest old new
    go None v t = inr (advances_open byte rest old new v t)
    go (Some Refused) v t = inl (record {
      is = t ∙ ap (λ r. record old { owed = old.owed ++ r; phase = Connected [] }) (ap (λ w. reply_to w old.chip old.version old.codes old.flash bytes) v);
      due = due_refused old.chip old.codes byte rest v;
    })
    go (Some Done) v (flash, effect, e) = ⊎_elim
        (λ here. inr (record {
          left = [];
          phase = ap (λ (x : Device). x.phase) e ∙ here;
          nearer = nearer_done old.chip old.codes byte rest v;
          owes = (let all = ap (λ (x : Device). length x.owed) e in let few = owes_done byte rest old is by small v in omega arith);
          reply = inr (answer old.chip old.version old.codes old.flash bytes, ap (λ (x : Device). x.owed) e ∙ ap (λ w. old.owed ++ reply_to w old.chip old.version old.codes old.flash bytes) v);
        }))
        (λ left. absurd (not_gone byte pages old new h f (ap (λ (x : Device). x.phase) e ∙ left)))
        (stays bytes)
    go (Some Loose) v t = absurd (not_gone byte pages old gone h
        (record {
          receives = subst (λ (p : Phase). Receives old p byte gone) (sym at) (subst (λ w. Takes old bytes w gone) (sym v)
              (record { chip = refl; version = refl; codes = refl; same_length = refl; flash = is.flash; phase = tt; owed = λ p. refl }));
        })
        refl)
