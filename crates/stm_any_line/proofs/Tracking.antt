-- Steps that may come behind others: how they join.
use Rattle.std.proofs.Common.{◌≡◌, inl, inr, ⊎_elim, ℕ, List, [], ◌∷◌, ◌++◌, refl, sym, ◌∙◌, ap, subst}
use Rattle.std.proofs.Common.{append_assoc, append-nil, length}
use Rattle.stm_wire.proofs.Names.{ChipData, page_size}
use Rattle.stm_journal.specs.declared.entry.Entry.{Entry}
use Rattle.stm_session.proofs.Names.{Adds, page_reads, Sends, Step}
use Rattle.stm_any_line.specs.Segments.{HasPage, IsNewest, SavedPage, saved}
use Rattle.stm_any_line.specs.Segments.{segments_behind_lines, segments_behind_steps, with_saved_page}
use Rattle.stm_any_line.specs.Calls.{AllSay}
use Rattle.stm_any_line.specs.Tracks.{IsJustRead, SendReads, Tracks}

abbrev pub Segments : Type 0
Segments = List (List SavedPage)

pub behind-append : (s : Segments) (xs ys : List Step)
    → segments_behind_steps s (xs ++ ys) ≡ segments_behind_steps (segments_behind_steps s xs) ys
behind-append s [] ys = refl
behind-append s (Adds entries ∷ xs) ys = behind-append (segments_behind_lines s entries) xs ys
behind-append s (Sends turns ∷ xs) ys = behind-append s xs ys

pub tracks_then : (chip : ChipData) (s : Segments) (b xs ys : List Step) → Tracks chip s b xs
    → Tracks chip (segments_behind_steps s xs) (b ++ xs) ys → Tracks chip s b (xs ++ ys)
tracks_then chip s b [] ys p q =
    let P : List Step → Type 0 = λ l. Tracks chip s l ys in
    subst P (append-nil b) q
tracks_then chip s b (Adds entries ∷ xs) ys (first, p) q =
    let later : Segments = segments_behind_lines s entries in
    let P : List Step → Type 0 = λ l. Tracks chip (segments_behind_steps later xs) l ys in (
      first,
      tracks_then chip later (b ++ Adds entries ∷ []) xs ys p
          (subst P (sym (append_assoc b (Adds entries ∷ []) xs)) q),
    )
tracks_then chip s b (Sends turns ∷ xs) ys (first, p) q =
    let P : List Step → Type 0 = λ l. Tracks chip (segments_behind_steps s xs) l ys in (
      first,
      tracks_then chip s (b ++ Sends turns ∷ []) xs ys p
          (subst P (sym (append_assoc b (Sends turns ∷ []) xs)) q),
    )

-- a beginning of such steps is such
pub tracks_front : (chip : ChipData) (s : Segments) (b xs ys : List Step)
    → Tracks chip s b (xs ++ ys) → Tracks chip s b xs
tracks_front chip s b [] ys p = tt
tracks_front chip s b (Adds entries ∷ xs) ys (first, p) =
    (first, tracks_front chip (segments_behind_lines s entries) (b ++ Adds entries ∷ []) xs ys p)
tracks_front chip s b (Sends turns ∷ xs) ys (first, p) =
    (first, tracks_front chip s (b ++ Sends turns ∷ []) xs ys p)

pub tracks_as : (chip : ChipData) (s : Segments) (b xs ys : List Step) → ys ≡ xs
    → Tracks chip s b xs → Tracks chip s b ys
tracks_as chip s b xs ys is p =
    let P : List Step → Type 0 = λ l. Tracks chip s b l in
    subst P (sym is) p

-- pages that are kept
pub has-more : (pages : List SavedPage) (page : SavedPage) (n : ℕ) (bytes : List ℕ)
    → HasPage pages n bytes → HasPage (pages ++ page ∷ []) n bytes
has-more [] page n bytes is = absurd is
has-more (x ∷ pages) page n bytes is =
    ⊎_elim (λ first. inl first) (λ rest. inr (has-more pages page n bytes rest)) is

pub has-last : (pages : List SavedPage) (n : ℕ) (bytes : List ℕ)
    → HasPage (pages ++ saved n bytes ∷ []) n bytes
has-last [] n bytes = inl refl
has-last (x ∷ pages) n bytes = inr (has-last pages n bytes)

-- a segment is begun
abbrev pub IsBegun : Segments → Type 0
IsBegun [] = ⊥
IsBegun (pages ∷ below) = Unit {0}

pub newest-more : (s : Segments) (page : SavedPage) (m : ℕ) → IsNewest m s
    → IsNewest m (with_saved_page page s)
newest-more [] page m is = absurd is
newest-more (pages ∷ below) page m (bytes, is) = (bytes, has-more pages page m bytes is)

pub newest-new : (s : Segments) (n : ℕ) (bytes : List ℕ) → IsBegun s
    → IsNewest n (with_saved_page (saved n bytes) s)
newest-new [] n bytes begun = absurd begun
newest-new (pages ∷ below) n bytes begun = (bytes, has-last pages n bytes)

pub begun-more : (s : Segments) (page : SavedPage) → IsBegun s → IsBegun (with_saved_page page s)
begun-more [] page begun = absurd begun
begun-more (pages ∷ below) page begun = tt

-- what was just read
pub reads-then : (xs ys : List Step) → SendReads xs → SendReads ys → SendReads (xs ++ ys)
reads-then [] ys p q = q
reads-then (Adds entries ∷ xs) ys p q = reads-then xs ys p q
reads-then (Sends turns ∷ xs) ys (first, p) q = (first, reads-then xs ys p q)

pub just_read : (chip : ChipData) (n : ℕ) (bytes : List ℕ) (b : List Step)
    → length bytes ≡ page_size chip n → IsJustRead chip n bytes (b ++ page_reads chip n bytes)
just_read chip n bytes b size =
    record {
      size = size;
      earlier = b;
      since = [];
      only_reads = tt;
      is = ap (λ (l : List Step). b ++ l) (sym (append-nil (page_reads chip n bytes)));
    }

pub just_then : (chip : ChipData) (n : ℕ) (bytes : List ℕ) (b more : List Step)
    → IsJustRead chip n bytes b → SendReads more → IsJustRead chip n bytes (b ++ more)
just_then chip n bytes b more just only =
    let whole : List Step = page_reads chip n bytes in
    record {
      size = just.size;
      earlier = just.earlier;
      since = just.since ++ more;
      only_reads = reads-then just.since more just.only_reads only;
      is =
          ap (λ (l : List Step). l ++ more) just.is
          ∙ append_assoc just.earlier (whole ++ just.since) more
          ∙ ap (λ (l : List Step). just.earlier ++ l) (append_assoc whole just.since more);
    }

-- lines of such steps
pub say_then : (Says : Entry → Type 0) (xs ys : List Step) → AllSay Says xs → AllSay Says ys
    → AllSay Says (xs ++ ys)
say_then Says [] ys p q = q
say_then Says (Adds entries ∷ xs) ys (first, p) q = (first, say_then Says xs ys p q)
say_then Says (Sends turns ∷ xs) ys p q = say_then Says xs ys p q

pub say_front : (Says : Entry → Type 0) (xs ys : List Step) → AllSay Says (xs ++ ys)
    → AllSay Says xs
say_front Says [] ys p = tt
say_front Says (Adds entries ∷ xs) ys (first, p) = (first, say_front Says xs ys p)
say_front Says (Sends turns ∷ xs) ys p = say_front Says xs ys p

pub say_as : (Says : Entry → Type 0) (xs ys : List Step) → ys ≡ xs → AllSay Says xs
    → AllSay Says ys
say_as Says xs ys is p =
    let P : List Step → Type 0 = λ l. AllSay Says l in
    subst P (sym is) p
