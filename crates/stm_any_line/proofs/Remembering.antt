-- Of a page that is kept: its bytes were read, and it stays kept until its segment is undone.
use Rattle.std.proofs.Common.{◌≡◌, ◌⊎◌, inl, inr, ⊎_elim, ℕ, List, [], ◌∷◌, ◌++◌, refl, sym, ap, subst, append_assoc, append-nil}
use Rattle.stm_wire.proofs.Names.{ChipData, Turn}
use Rattle.stm_journal.specs.declared.entry.Entry.{Entry}
use Rattle.stm_journal.specs.declared.entry.Entry.TheVariants.{Names, Opens, Keeps, Erases, Programs, Ends, Undoes}
use Rattle.stm_session.proofs.Names.{Adds, looks, Sends, Step}
use Rattle.stm_session.specs.Kept.{erases, reads, writes}
use Rattle.stm_any_line.specs.Segments.{HasPage, SomeKeeps, IsNewest, SavedPage, saved, segments_behind, segments_behind_lines, segments_behind_steps, with_saved_page}
use Rattle.stm_any_line.specs.Tracks.{IsJustRead, MayPut, asks, names, refused, sends, MaySayAll, Tracks}
use Rattle.stm_any_line.specs.Remembered.{AreTakenOff, IsOneOf, IsTakenOff, NewestHas, StaysKept, WasRead}
use Rattle.stm_any_line.proofs.Tracking.{Segments, behind-append, has-more, tracks_front}

-- a page that was kept, or is the one more
has-either : (pages : List SavedPage) (page : SavedPage) (n : ℕ) (bytes : List ℕ)
    → HasPage (pages ++ page ∷ []) n bytes → HasPage pages n bytes ⊎ (page ≡ saved n bytes)
has-either [] page n bytes (inl is) = inr is
has-either [] page n bytes (inr none) = absurd none
has-either (x ∷ pages) page n bytes (inl is) = inl (inl is)
has-either (x ∷ pages) page n bytes (inr is) =
    ⊎_elim (λ was. inl (inr was)) (λ new. inr new) (has-either pages page n bytes is)

kept-either : (s : Segments) (page : SavedPage) (n : ℕ) (bytes : List ℕ)
    → SomeKeeps n bytes (with_saved_page page s) → SomeKeeps n bytes s ⊎ (page ≡ saved n bytes)
kept-either [] page n bytes is = absurd is
kept-either (pages ∷ below) page n bytes (inl is) =
    ⊎_elim (λ was. inl (inl was)) (λ new. inr new) (has-either pages page n bytes is)
kept-either (pages ∷ below) page n bytes (inr is) = inl (inr is)

kept-more : (s : Segments) (page : SavedPage) (n : ℕ) (bytes : List ℕ) → SomeKeeps n bytes s
    → SomeKeeps n bytes (with_saved_page page s)
kept-more [] page n bytes is = absurd is
kept-more (pages ∷ below) page n bytes (inl is) = inl (has-more pages page n bytes is)
kept-more (pages ∷ below) page n bytes (inr is) = inr is

kept-below : (s : Segments) (number n : ℕ) (bytes : List ℕ)
    → SomeKeeps n bytes (segments_behind s (Undoes number)) → SomeKeeps n bytes s
kept-below [] number n bytes is = absurd is
kept-below (pages ∷ below) number n bytes is = inr is

-- a line kept it, with what had just come
abbrev Said : ChipData → ℕ → List ℕ → List Step → List Entry → Type 0
Said chip n bytes b entries = IsOneOf (Keeps n bytes) entries × IsJustRead chip n bytes b

said-later : (chip : ChipData) (n : ℕ) (bytes : List ℕ) (b : List Step) (s : Segments) (e : Entry)
    (entries : List Entry) → SomeKeeps n bytes s ⊎ Said chip n bytes b entries
    → SomeKeeps n bytes s ⊎ Said chip n bytes b (e ∷ entries)
said-later chip n bytes b s e entries (inl was) = inl was
said-later chip n bytes b s e entries (inr (said, read)) = inr (inr said, read)

said-new : (chip : ChipData) (n m : ℕ) (bytes held : List ℕ) (b : List Step) (s : Segments)
    (entries : List Entry) → IsJustRead chip m held b
    → SomeKeeps n bytes s ⊎ (saved m held ≡ saved n bytes)
    → SomeKeeps n bytes s ⊎ Said chip n bytes b (Keeps m held ∷ entries)
said-new chip n m bytes held b s entries read (inl was) = inl was
said-new chip n m bytes held b s entries read (inr same) =
    let number : m ≡ n = ap (λ (p : SavedPage). p.number) same in
    let P : SavedPage → Type 0 = λ p. Said chip p.number p.bytes b (Keeps m held ∷ entries) in
    inr (subst P same (inl refl, read))

lines-origin : (chip : ChipData) (n : ℕ) (bytes : List ℕ) (s : Segments) (b : List Step)
    (entries : List Entry) → MaySayAll chip s b entries
    → SomeKeeps n bytes (segments_behind_lines s entries)
    → SomeKeeps n bytes s ⊎ Said chip n bytes b entries
lines-origin chip n bytes s b [] may is = inl is
lines-origin chip n bytes s b (Names version id unique ∷ entries) (first, may) is =
    said-later chip n bytes b s _ entries (lines-origin chip n bytes s b entries may is)
lines-origin chip n bytes s b (Opens k ∷ entries) (first, may) is =
    opened (lines-origin chip n bytes ([] ∷ s) b entries may is)
  where
    opened : SomeKeeps n bytes ([] ∷ s) ⊎ Said chip n bytes b entries
        → SomeKeeps n bytes s ⊎ Said chip n bytes b (Opens k ∷ entries)
    opened (inl (inl none)) = absurd none
    opened (inl (inr was)) = inl was
    opened (inr (said, read)) = inr (inr said, read)
lines-origin chip n bytes s b (Keeps m held ∷ entries) (first, may) is =
    kept (lines-origin chip n bytes (with_saved_page (saved m held) s) b entries may is)
  where
    kept : SomeKeeps n bytes (with_saved_page (saved m held) s) ⊎ Said chip n bytes b entries
        → SomeKeeps n bytes s ⊎ Said chip n bytes b (Keeps m held ∷ entries)
    kept (inl now) =
        said-new chip n m bytes held b s entries first (kept-either s (saved m held) n bytes now)
    kept (inr (said, read)) = inr (inr said, read)
lines-origin chip n bytes s b (Erases m ∷ entries) (first, may) is =
    said-later chip n bytes b s _ entries (lines-origin chip n bytes s b entries may is)
lines-origin chip n bytes s b (Programs m ∷ entries) (first, may) is =
    said-later chip n bytes b s _ entries (lines-origin chip n bytes s b entries may is)
lines-origin chip n bytes s b (Ends k ∷ entries) (first, may) is =
    said-later chip n bytes b s _ entries (lines-origin chip n bytes s b entries may is)
lines-origin chip n bytes s b (Undoes k ∷ entries) (first, may) is =
    undone (lines-origin chip n bytes (segments_behind s (Undoes k)) b entries may is)
  where
    undone : SomeKeeps n bytes (segments_behind s (Undoes k)) ⊎ Said chip n bytes b entries
        → SomeKeeps n bytes s ⊎ Said chip n bytes b (Undoes k ∷ entries)
    undone (inl was) = inl (kept-below s k n bytes was)
    undone (inr (said, read)) = inr (inr said, read)

-- steps behind others
record WasReadBehind (chip : ChipData) (n : ℕ) (bytes : List ℕ) (b steps : List Step) : Type 0 where
  pub earlier : List Step
  pub entries : List Entry
  pub later : List Step
  pub is : steps ≡ earlier ++ Adds entries ∷ later
  pub kept : IsOneOf (Keeps n bytes) entries
  pub read : IsJustRead chip n bytes (b ++ earlier)

one-later : (chip : ChipData) (n : ℕ) (bytes : List ℕ) (b : List Step) (step : Step)
    (steps : List Step) → WasReadBehind chip n bytes (b ++ step ∷ []) steps
    → WasReadBehind chip n bytes b (step ∷ steps)
one-later chip n bytes b step steps was =
    let P : List Step → Type 0 = λ l. IsJustRead chip n bytes l in
    record {
      earlier = step ∷ was.earlier;
      entries = was.entries;
      later = was.later;
      is = ap (λ (l : List Step). step ∷ l) was.is;
      kept = was.kept;
      read = subst P (append_assoc b (step ∷ []) was.earlier) was.read;
    }

steps-origin : (chip : ChipData) (n : ℕ) (bytes : List ℕ) (s : Segments) (b steps : List Step)
    → Tracks chip s b steps → SomeKeeps n bytes (segments_behind_steps s steps)
    → SomeKeeps n bytes s ⊎ WasReadBehind chip n bytes b steps
steps-origin chip n bytes s b [] tracks is = inl is
steps-origin chip n bytes s b (Adds entries ∷ steps) (may, tracks) is =
    either
    (steps-origin chip n bytes (segments_behind_lines s entries) (b ++ Adds entries ∷ []) steps
    tracks is)
  where
    here : SomeKeeps n bytes s ⊎ Said chip n bytes b entries
        → SomeKeeps n bytes s ⊎ WasReadBehind chip n bytes b (Adds entries ∷ steps)
    here (inl was) = inl was
    here (inr (said, read)) =
        let P : List Step → Type 0 = λ l. IsJustRead chip n bytes l in
        inr
        (record {
          earlier = [];
          entries = entries;
          later = steps;
          is = refl;
          kept = said;
          read = subst P (sym (append-nil b)) read;
        })

    either : SomeKeeps n bytes (segments_behind_lines s entries)
        ⊎ WasReadBehind chip n bytes (b ++ Adds entries ∷ []) steps
        → SomeKeeps n bytes s ⊎ WasReadBehind chip n bytes b (Adds entries ∷ steps)
    either (inl now) = here (lines-origin chip n bytes s b entries may now)
    either (inr was) = inr (one-later chip n bytes b (Adds entries) steps was)
steps-origin chip n bytes s b (Sends turns ∷ steps) (may, tracks) is =
    ⊎_elim (λ was. inl was) (λ was. inr (one-later chip n bytes b (Sends turns) steps was))
    (steps-origin chip n bytes s (b ++ Sends turns ∷ []) steps tracks is)

pub kept_was_read : (chip : ChipData) (n : ℕ) (bytes : List ℕ) (steps : List Step)
    → Tracks chip [] [] steps → SomeKeeps n bytes (segments_behind_steps [] steps)
    → WasRead chip n bytes steps
kept_was_read chip n bytes steps tracks is =
    whole (steps-origin chip n bytes [] [] steps tracks is)
  where
    whole : SomeKeeps n bytes [] ⊎ WasReadBehind chip n bytes [] steps → WasRead chip n bytes steps
    whole (inl none) = absurd none
    whole (inr was) =
        record {
          earlier = was.earlier;
          entries = was.entries;
          later = was.later;
          is = was.is;
          kept = was.kept;
          read = was.read;
        }

-- how long it is kept: behind lines
lines-stay : (n : ℕ) (bytes : List ℕ) (s : Segments) (entries : List Entry) → SomeKeeps n bytes s
    → SomeKeeps n bytes (segments_behind_lines s entries) ⊎ AreTakenOff n bytes s entries
lines-stay n bytes s [] is = inl is
lines-stay n bytes s (Opens k ∷ entries) is = lines-stay n bytes ([] ∷ s) entries (inr is)
lines-stay n bytes s (Keeps m held ∷ entries) is =
    lines-stay n bytes (with_saved_page (saved m held) s) entries
    (kept-more s (saved m held) n bytes is)
lines-stay n bytes [] (Undoes k ∷ entries) is = absurd is
lines-stay n bytes (pages ∷ below) (Undoes k ∷ entries) (inl now) = inr (inl now)
lines-stay n bytes (pages ∷ below) (Undoes k ∷ entries) (inr was) =
    ⊎_elim (λ still. inl still) (λ off. inr (inr off)) (lines-stay n bytes below entries was)
lines-stay n bytes s (x ∷ entries) is = lines-stay n bytes s entries is

-- and behind steps
steps-stay : (n : ℕ) (bytes : List ℕ) (s : Segments) (steps : List Step) → SomeKeeps n bytes s
    → SomeKeeps n bytes (segments_behind_steps s steps) ⊎ IsTakenOff n bytes s steps
steps-stay n bytes s [] is = inl is
steps-stay n bytes s (Adds entries ∷ steps) is =
    on (λ still. steps-stay n bytes (segments_behind_lines s entries) steps still)
    (lines-stay n bytes s entries is)
  where
    on : (SomeKeeps n bytes (segments_behind_lines s entries)
        → SomeKeeps n bytes (segments_behind_steps (segments_behind_lines s entries) steps)
        ⊎ IsTakenOff n bytes (segments_behind_lines s entries) steps)
        → SomeKeeps n bytes (segments_behind_lines s entries) ⊎ AreTakenOff n bytes s entries
        → SomeKeeps n bytes (segments_behind_steps s (Adds entries ∷ steps))
        ⊎ IsTakenOff n bytes s (Adds entries ∷ steps)
    on later (inl still) = ⊎_elim (λ end. inl end) (λ off. inr (inr off)) (later still)
    on later (inr off) = inr (inl off)
steps-stay n bytes s (Sends turns ∷ steps) is = steps-stay n bytes s steps is

newest-kept : (s : Segments) (n : ℕ) (bytes : List ℕ) → NewestHas n bytes s → SomeKeeps n bytes s
newest-kept [] n bytes is = absurd is
newest-kept (pages ∷ below) n bytes is = inl is

newest-with : (s : Segments) (n : ℕ) → IsNewest n s → (bytes : List ℕ) × NewestHas n bytes s
newest-with [] n is = absurd is
newest-with (pages ∷ below) n is = is

-- steps at the end of others
pub tracks_back : (chip : ChipData) (s : Segments) (b xs ys : List Step)
    → Tracks chip s b (xs ++ ys) → Tracks chip (segments_behind_steps s xs) (b ++ xs) ys
tracks_back chip s b [] ys p =
    let P : List Step → Type 0 = λ l. Tracks chip s l ys in
    subst P (sym (append-nil b)) p
tracks_back chip s b (Adds entries ∷ xs) ys (first, p) =
    let later : Segments = segments_behind_lines s entries in
    let P : List Step → Type 0 = λ l. Tracks chip (segments_behind_steps later xs) l ys in
    subst P (append_assoc b (Adds entries ∷ []) xs)
    (tracks_back chip later (b ++ Adds entries ∷ []) xs ys p)
tracks_back chip s b (Sends turns ∷ xs) ys (first, p) =
    let P : List Step → Type 0 = λ l. Tracks chip (segments_behind_steps s xs) l ys in
    subst P (append_assoc b (Sends turns ∷ []) xs)
    (tracks_back chip s (b ++ Sends turns ∷ []) xs ys p)

put-as : (chip : ChipData) (P Q : ℕ → Type 0) (turns : List Turn) → ((n : ℕ) → P n → Q n)
    → MayPut chip P turns → MayPut chip Q turns
put-as chip P Q turns weaker (asks version codes is) = asks version codes is
put-as chip P Q turns weaker (names high low is) = names high low is
put-as chip P Q turns weaker (refused address size frame is) = refused address size frame is
put-as chip P Q turns weaker (sends (reads address answer is)) = sends (reads address answer is)
put-as chip P Q turns weaker (sends (looks place look)) = sends (looks place look)
put-as chip P Q turns weaker (sends (erases n own is)) = sends (erases n (weaker n own) is)
put-as chip P Q turns weaker (sends (writes n offset bytes own some within is)) =
    sends (writes n offset bytes (weaker n own) some within is)

pub changed_is_kept : (chip : ChipData) (before later : List Step) (turns : List Turn)
    → Tracks chip [] [] (before ++ Sends turns ∷ later)
    → MayPut chip (λ n. StaysKept chip n before (Sends turns ∷ later)) turns
changed_is_kept chip before later turns tracks =
    let s : Segments = segments_behind_steps [] before in
    let back = tracks_back chip [] [] before (Sends turns ∷ later) tracks in
    let front = tracks_front chip [] [] before (Sends turns ∷ later) tracks in
    put-as chip _ _ turns
    (λ n own.
    let newest = newest-with s n own in
    let is = newest-kept s n newest.0 newest.1 in
    let P : Segments → Type 0 = λ t. SomeKeeps n newest.0 t ⊎ IsTakenOff n newest.0 s (Sends turns ∷ later) in
    record {
      bytes = newest.0;
      newest = newest.1;
      read = kept_was_read chip n newest.0 before front is;
      stays = subst P (sym (behind-append [] before (Sends turns ∷ later)))
          (steps-stay n newest.0 s (Sends turns ∷ later) is);
    })
    back.0
