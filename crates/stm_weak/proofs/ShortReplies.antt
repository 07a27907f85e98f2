-- A byte that repeats the one before it is answered by one byte at most, and by NACK where it is
-- refused.
use Rattle.std.proofs.Common.{◌≡◌, ◌⊎◌, inl, inr, ⊎_elim, ℕ, Bool, true, false, ◌&&◌, ◌||◌, ◌==◌}
use Rattle.std.proofs.Common.{if◌then◌else◌, List, [], ◌∷◌, ◌++◌, length, get_or, Option, Some}
use Rattle.std.proofs.Common.{None, refl, sym, ◌∙◌, ap, subst, arith, append_assoc, length-append}
use Rattle.std.proofs.lemmas.Bool.{eqb-true}
use Rattle.std.proofs.lemmas.List.{get_or-append_right}
use Rattle.stm_wire.specs.declared.verdict.Verdict.{Verdict}
use Rattle.stm_wire.specs.declared.verdict.Verdict.TheVariants.{Done, Refused, Loose}
use Rattle.stm_wire.proofs.Names.{ack, answer, at_end, ChipData, command_verdict, commands_answer, complement, Connected, Device, Fresh, Gone, id_answer, is_listed, nack, Phase, read_answer, Receives}
use Rattle.stm_wire.proofs.Names.{reply_of, reply_to, step_reply, Takes, verdict}
use Rattle.stm_weak.specs.SettledBatches.{IsTameIn}
use Rattle.stm_weak.proofs.Calm.{at_end_is, no_verdict, refused_not_done, refused_pair, unlike}
use Rattle.stm_weak.proofs.Tails.{five_open, in_read_done, six_open}

-- nothing came, or the byte was the last that did
abbrev pub IsRepeating : ℕ → Phase → Type 0
IsRepeating byte Fresh = Unit {0}
IsRepeating byte (Connected rest) =
    (rest ≡ []) ⊎ ((before : List ℕ) × (rest ≡ before ++ byte ∷ []))
IsRepeating byte Gone = Unit {0}

-- it owes one byte at most; and where that is NACK, it waits for a command
abbrev pub OwesLittle : Device → Type 0
OwesLittle d = (d.owed ≡ [])
    ⊎ ((x : ℕ) × (d.owed ≡ x ∷ []) × (x ≡ nack → d.phase ≡ Connected []))

step_short : (bytes : List ℕ) → (step_reply bytes ≡ []) ⊎ (step_reply bytes ≡ ack ∷ [])
step_short (code ∷ check ∷ []) = inr refl
step_short (code ∷ check ∷ a ∷ b ∷ c ∷ d ∷ x ∷ []) = by (code == 0x11 || code == 0x31)
  where
    by : (t : Bool) → ((if t then ack ∷ [] else []) ≡ []) ⊎ ((if t then ack ∷ [] else []) ≡ ack ∷ [])
    by true = inr refl
    by false = inl refl
step_short bytes = inl refl

-- A list that ends in one byte twice has no answer behind its ACK.

module _ (chip : ChipData) (byte : ℕ) where
  twin_at : (before : List ℕ) (tail : List ℕ) → tail ≡ before ++ byte ∷ byte ∷ [] → length tail ≡ 7
      → get_or tail 5 0 ≡ get_or tail 6 0
  twin_at before tail e size =
      let P : List ℕ → Type 0 = λ xs. get_or xs 5 0 ≡ get_or xs 6 0 in
      let five : length before ≡ 5 =
      let h = ap (λ (xs : List ℕ). length xs) e in
      omega (arith, h, size, length-append before (byte ∷ byte ∷ [])) in
      subst P (sym e)
      (get_or-append_right before (byte ∷ byte ∷ []) 5 5 0 five (omega arith)
      ∙ sym (get_or-append_right before (byte ∷ byte ∷ []) 5 6 0 five (omega arith)))

  read_undone : (tail before : List ℕ) → tail ≡ before ++ byte ∷ byte ∷ []
      → command_verdict chip 0x11 tail ≡ Some Done → ⊥
  read_undone (a ∷ b ∷ c ∷ d ∷ check ∷ []) before e done = five_open chip a b c d check done
  read_undone (a ∷ b ∷ c ∷ d ∷ check ∷ n ∷ []) before e done =
      six_open chip a b c d check n done
  read_undone (a ∷ b ∷ c ∷ d ∷ check ∷ n ∷ last ∷ rest) before e done =
      let is = in_read_done chip a b c d check n last rest done in
      let size : length (a ∷ b ∷ c ∷ d ∷ check ∷ n ∷ last ∷ rest) ≡ 7 =
      ap (λ (xs : List ℕ). length (a ∷ b ∷ c ∷ d ∷ check ∷ n ∷ last ∷ xs)) is.1 in
      unlike n (twin_at before (a ∷ b ∷ c ∷ d ∷ check ∷ n ∷ last ∷ rest) e size ∙ is.0)
  read_undone tail before e done = no_verdict Done done

  -- something comes behind a code and its complement
  some_tail : (before : List ℕ) → before ++ byte ∷ byte ∷ [] ≡ [] → ⊥
  some_tail [] e = absurd (cc)
  some_tail (x ∷ before) e = absurd (cc)

  ended_empty : (tail : List ℕ) → at_end Done tail ≡ Some Done → tail ≡ []
  ended_empty [] e = refl
  ended_empty (x ∷ tail) e = absurd (no_verdict Done e)

  tail_unanswered : (version : ℕ) (codes flash : List ℕ) (code check : ℕ) (tail : List ℕ)
      → (tail ≡ [] → ⊥) → (command_verdict chip 0x11 tail ≡ Some Done → ⊥)
      → verdict chip codes (code ∷ check ∷ tail) ≡ Some Done
      → answer chip version codes flash (code ∷ check ∷ tail) ≡ []
  tail_unanswered version codes flash code check tail some unread done =
      by_code (code == 0x00) refl (code == 0x02) refl (code == 0x11) refl
    where
      listed : command_verdict chip code tail ≡ Some Done
      listed = by (check == complement code && is_listed codes code) done
        where
          by : (t : Bool)
              → (if t then command_verdict chip code tail else at_end Refused tail) ≡ Some Done
              → command_verdict chip code tail ≡ Some Done
          by true e = e
          by false e = absurd (refused_not_done (at_end_is Refused Done tail e))

      at : (own : ℕ) → (code == own) ≡ true → command_verdict chip own tail ≡ Some Done
      at own e =
          let P : ℕ → Type 0 = λ c. command_verdict chip c tail ≡ Some Done in
          subst P (eqb-true code own e) listed

      by_code : (get : Bool) → (code == 0x00) ≡ get → (id : Bool) → (code == 0x02) ≡ id
          → (reads : Bool) → (code == 0x11) ≡ reads
          → (if get then commands_answer version codes else (if id then id_answer chip
          else (if reads then read_answer chip flash tail else []))) ≡ []
      by_code true e id f reads g = absurd (some (ended_empty tail (at 0x00 e)))
      by_code false e true f reads g = absurd (some (ended_empty tail (at 0x02 f)))
      by_code false e false f true g = absurd (unread (at 0x11 g))
      by_code false e false f false g = refl

  pub twin_unanswered : (version : ℕ) (codes flash before : List ℕ)
      → verdict chip codes (before ++ byte ∷ byte ∷ []) ≡ Some Done
      → answer chip version codes flash (before ++ byte ∷ byte ∷ []) ≡ []
  twin_unanswered version codes flash [] done =
      absurd (refused_not_done (at_end_is Refused Done []
      (sym (refused_pair chip codes byte byte [] (unlike byte)) ∙ done)))
  twin_unanswered version codes flash (code ∷ []) done =
      tail_unanswered version codes flash code byte (byte ∷ [])
      (λ e. absurd (let h : byte ∷ [] ≡ [] = e in cc)) (λ e. no_verdict Done e) done
  twin_unanswered version codes flash (code ∷ check ∷ before) done =
      tail_unanswered version codes flash code check (before ++ byte ∷ byte ∷ [])
      (some_tail before) (λ e. read_undone (before ++ byte ∷ byte ∷ []) before refl e) done

-- So a byte that repeats the last one leaves little owed.
module _ (byte : ℕ) (now new : Device) (none : now.owed ≡ []) where
  owes : (reply : List ℕ) → new.owed ≡ now.owed ++ reply → new.owed ≡ reply
  owes reply e = e ∙ ap (λ (o : List ℕ). o ++ reply) none

  little_takes : (bytes : List ℕ) (v : Option Verdict) → verdict now.chip now.codes bytes ≡ v
      → (v ≡ Some Loose → ⊥)
      → (v ≡ Some Done → answer now.chip now.version now.codes now.flash bytes ≡ [])
      → Takes now bytes v new → OwesLittle new
  little_takes bytes None e never unanswered t =
      let reply : reply_of now bytes ≡ step_reply bytes =
      ap (λ v. reply_to v now.chip now.version now.codes now.flash bytes) e in
      let is : new.owed ≡ step_reply bytes =
      owes (reply_of now bytes) (ap (λ (d : Device). d.owed) t) ∙ reply in
      ⊎_elim (λ (nothing : step_reply bytes ≡ []). inl (is ∙ nothing))
      (λ (one : step_reply bytes ≡ ack ∷ []). inr (
        ack,
        is ∙ one,
        λ same. absurd (let h : 0x79 ≡ 0x1F = same in omega (arith, h)),
      ))
      (step_short bytes)
  little_takes bytes (Some Refused) e never unanswered t =
      let reply : reply_of now bytes ≡ nack ∷ [] =
      ap (λ v. reply_to v now.chip now.version now.codes now.flash bytes) e in
      inr (
        nack,
        owes (reply_of now bytes) (ap (λ (d : Device). d.owed) t) ∙ reply,
        λ same. ap (λ (d : Device). d.phase) t,
      )
  little_takes bytes (Some Done) e never unanswered (flash, effect, t) =
      let reply : reply_of now bytes
      ≡ ack ∷ answer now.chip now.version now.codes now.flash bytes =
      ap (λ v. reply_to v now.chip now.version now.codes now.flash bytes) e in
      inr (
        ack,
        owes (reply_of now bytes) (ap (λ (d : Device). d.owed) t) ∙ reply
            ∙ ap (λ (xs : List ℕ). ack ∷ xs) (unanswered refl),
        λ same. absurd (let h : 0x79 ≡ 0x1F = same in omega (arith, h)),
      )
  little_takes bytes (Some Loose) e never unanswered t = absurd (never refl)

  pub little_fresh : (own : ℕ) → Receives now Fresh own new → OwesLittle new
  little_fresh own e = by (own == 0x7F) e
    where
      by : (t : Bool) → new ≡ (if t
          then record now { owed = now.owed ++ ack ∷ []; phase = Connected [] } else now)
          → OwesLittle new
      by true e = inr (
        ack,
        owes (ack ∷ []) (ap (λ (d : Device). d.owed) e),
        λ same. absurd (let h : 0x79 ≡ 0x1F = same in omega (arith, h)),
      )
      by false e = inl (ap (λ (d : Device). d.owed) e ∙ none)

  unanswered_in : (rest : List ℕ) → IsRepeating byte (Connected rest)
      → verdict now.chip now.codes (rest ++ byte ∷ []) ≡ Some Done
      → answer now.chip now.version now.codes now.flash (rest ++ byte ∷ []) ≡ []
  unanswered_in rest (inl nothing) done =
      let P : List ℕ → Type 0 =
      λ xs. answer now.chip now.version now.codes now.flash (xs ++ byte ∷ []) ≡ [] in
      subst P (sym nothing) refl
  unanswered_in rest (inr (before, is)) done =
      let whole : rest ++ byte ∷ [] ≡ before ++ byte ∷ byte ∷ [] =
      ap (λ (xs : List ℕ). xs ++ byte ∷ []) is ∙ append_assoc before (byte ∷ []) (byte ∷ []) in
      ap (λ (xs : List ℕ). answer now.chip now.version now.codes now.flash xs) whole
      ∙ twin_unanswered now.chip byte now.version now.codes now.flash before
      (ap (λ (xs : List ℕ). verdict now.chip now.codes xs) (sym whole) ∙ done)

  pub little : (p : Phase) → IsRepeating byte p → IsTameIn now.chip now.codes byte p
      → Receives now p byte new → OwesLittle new
  little Fresh repeats tame r = little_fresh byte r
  little Gone repeats tame r = inl (ap (λ (d : Device). d.owed) r ∙ none)
  little (Connected rest) repeats tame r =
      little_takes (rest ++ byte ∷ []) (verdict now.chip now.codes (rest ++ byte ∷ [])) refl
      (λ e. tame 0 e) (λ e. unanswered_in rest repeats e) r
