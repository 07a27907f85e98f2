-- The laws of the line and of the journal that the steps of a command stand on.
use Rattle.std.specs.Prelude.{◌≡◌, ℕ, List}
use Rattle.stm_wire.specs.Awaited.{AwaitedIsLimited, MoreSuffice}
use Rattle.stm_wire.specs.Stopped.{AskingChangesNothing, SendingIsHarmless, MorePagesStayHarmless}
use Rattle.stm_wire.specs.Stopped.{LossStaysHarmless, SameOutsideNoneIsSame}
use Rattle.stm_journal.specs.States.{StateData, IsSound}
use Rattle.stm_journal.specs.Journals.{journal_of, good}
use Rattle.stm_journal.specs.Added.{EntriesLeaveEither, BeginningsLeaveEither}
use Rattle.stm_journal.specs.FlashLaws.{KeepingKeepsFlashes, ChangesKeepFlashes, HeldIsBefore}

pub record StepLaws : Type 0 where
  pub asking : AskingChangesNothing
  pub sending : SendingIsHarmless
  pub more_pages : MorePagesStayHarmless
  pub lost : LossStaysHarmless
  pub limited : AwaitedIsLimited
  pub more_suffice : MoreSuffice
  pub same_flash : SameOutsideNoneIsSame
  pub sound : (bytes : List ℕ) (s : StateData) → journal_of bytes ≡ good s → IsSound s
  pub entry : EntriesLeaveEither
  pub begins : BeginningsLeaveEither
  pub keeping : KeepingKeepsFlashes
  pub changing : ChangesKeepFlashes
  pub restored : HeldIsBefore
