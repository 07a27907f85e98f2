-- What is said of what the journal told passes from steps to steps.
use Rattle.std.proofs.Common.{◌≡◌, ℕ, zero, suc, Bool, List, [], ◌∷◌, ◌++◌, ◌∙◌, ap, subst, append_assoc}
use Rattle.stm_wire.proofs.Names.{ChipData}
use Rattle.stm_journal.specs.declared.kept.Kept.{Kept}
use Rattle.stm_session.proofs.Names.{AreAllUndone, AreGivenBack, AreRewritten, AreSegmentsUndone, IsGivenBack, IsRewritten, IsSegmentUndone, page_reads, Step, Tells, tells_behind}

-- one says at least what the other does
abbrev pub SaysAlso : Tells → Tells → Type 0
SaysAlso A B = (steps : List Step) (page : List ℕ) → A steps page → B steps page

also_behind : (A B : Tells) (first : List Step) → SaysAlso A B → SaysAlso (tells_behind first A) (tells_behind first B)
also_behind A B first more steps page told = more (first ++ steps) page told

-- behind steps, and then others
pub behind_both : (Told : Tells) (xs first rest : List Step) → xs ≡ first ++ rest → SaysAlso (tells_behind xs Told) (tells_behind rest (tells_behind first Told))
behind_both Told xs first rest is steps page told =
    let P : List Step → Type 0 = λ l. Told l page in
    subst P (ap (λ (l : List Step). l ++ steps) is ∙ append_assoc first rest steps) told

pub returned_as : (again : Bool) (chip : ChipData) (A B : Tells) (n : ℕ) (xs : List Step) → SaysAlso A B → IsGivenBack again chip A n xs → IsGivenBack again chip B n xs
returned_as again chip A B n xs more r = record { held = r.held; held_size = r.held_size; page = r.page; size = r.size; told = more (page_reads chip n r.held) r.page r.told; is = r.is }

pub pages_as : (again : Bool) (chip : ChipData) (A B : Tells) (pages : List Kept) (xs : List Step) → SaysAlso A B → AreGivenBack again chip A pages xs → AreGivenBack again chip B pages xs
pages_as again chip A B [] xs more are = are
pages_as again chip A B (kept ∷ pages) xs more (first, rest, e, one, others) =
    (first, rest, e, returned_as again chip A B kept.page first more one, pages_as again chip (tells_behind first A) (tells_behind first B) pages rest (also_behind A B first more) others)

pub taken_as : (again : Bool) (chip : ChipData) (A B : Tells) (pages : List Kept) (number : ℕ) (xs : List Step) → SaysAlso A B → IsSegmentUndone again chip A pages number xs → IsSegmentUndone again chip B pages number xs
taken_as again chip A B pages number xs more t = record { returns = t.returns; are_returns = pages_as again chip A B pages t.returns more t.are_returns; is = t.is }

pub segments_as : (again : Bool) (chip : ChipData) (A B : Tells) (taken : ℕ) (segments : List (List Kept)) (xs : List Step) → SaysAlso A B → AreSegmentsUndone again chip A taken segments xs → AreSegmentsUndone again chip B taken segments xs
segments_as again chip A B zero segments xs more are = are
segments_as again chip A B (suc taken) [] xs more are = absurd are
segments_as again chip A B (suc taken) (pages ∷ below) xs more (first, rest, e, one, others) =
    (first, rest, e, taken_as again chip A B pages _ first more one, segments_as again chip (tells_behind first A) (tells_behind first B) taken below rest (also_behind A B first more) others)

pub rewritten_as : (chip : ChipData) (A B : Tells) (n : ℕ) (xs : List Step) → SaysAlso A B → IsRewritten chip A n xs → IsRewritten chip B n xs
rewritten_as chip A B n xs more r = record { page = r.page; size = r.size; told = more [] r.page r.told; is = r.is }

pub work_as : (chip : ChipData) (A B : Tells) (work : List ℕ) (xs : List Step) → SaysAlso A B → AreRewritten chip A work xs → AreRewritten chip B work xs
work_as chip A B [] xs more are = are
work_as chip A B (n ∷ work) xs more (first, rest, e, one, others) =
    (first, rest, e, rewritten_as chip A B n first more one, work_as chip (tells_behind first A) (tells_behind first B) work rest (also_behind A B first more) others)

pub all_as : (again : Bool) (chip : ChipData) (A B : Tells) (work : List ℕ) (taken : ℕ) (segments : List (List Kept)) (xs : List Step) → SaysAlso A B → AreAllUndone again chip A work taken segments xs → AreAllUndone again chip B work taken segments xs
all_as again chip A B work taken segments xs more all =
    record {
      first = all.first;
      is_first = work_as chip A B work all.first more all.is_first;
      back = all.back;
      are_back = segments_as again chip (tells_behind all.first A) (tells_behind all.first B) taken segments all.back (also_behind A B all.first more) all.are_back;
      is = all.is;
    }
