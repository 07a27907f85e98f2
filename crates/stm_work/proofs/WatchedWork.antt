-- What a watched Rig makes of what is promised on the inner one.
use Rattle.std.proofs.Common.{◌≡◌, ℕ}
use Rattle.std.proofs.Common.{sym, ◌∙◌, ap, subst, List, take}
use Rattle.stm_wire.specs.declared.get_command.Commands.{Commands}
use Rattle.stm_wire.proofs.Names.{ChipData, Device, IsSettled, RigState}
use Rattle.stm_chip.specs.Document.{IsChipWith}
use Rattle.stm_watch.specs.Known.{Known, known_at_first}
use Rattle.stm_watch.specs.Laws.{SettledIsSeen}
use Rattle.stm_watch.specs.Seen.{IsSeen}
use Rattle.stm_work.specs.Watching.{IsWatchingBegun, TellsCodes}

-- at a settled device whose chip the table has, and which told its own version and codes, watching
-- begins with the Rig following the model
pub begun-at : SettledIsSeen → (table : List ChipData) (id : ℕ) (chip : ChipData) (told : Commands)
    (old mid new : RigState) (k : Known) → IsChipWith table id chip
    → k ≡ known_at_first chip told.version (take told.count told.codes)
    → (old.is_honest → IsSettled old.device → TellsCodes old mid told) → IsWatchingBegun k mid new
    → old.is_honest → IsSettled old.device → IsChipWith table id old.device.chip
    → new.is_honest × (new.device ≡ old.device)
begun-at first table id chip told old mid new k found is asks begun honest settled knows =
    let t = asks honest settled in
    let d : Device = old.device in
    let codes : List ℕ = take told.count told.codes in
    let same : chip ≡ d.chip = knows.only chip found.held found.id_is in
    let is-own : k ≡ known_at_first d.chip d.version d.codes =
    is ∙ ap (λ c. known_at_first c told.version codes) same
    ∙ ap (λ v. known_at_first d.chip v codes) t.version
    ∙ ap (λ cs. known_at_first d.chip d.version cs) t.codes in
    let P : Known → Type 0 = λ x. IsSeen x d in
    let Q : Device → Type 0 = λ x. IsSeen k x in
    let seen : IsSeen k d = subst P (sym is-own) (first d t.model settled) in
    (begun.honest t.honest (subst Q (sym t.device) seen), begun.device ∙ t.device)
