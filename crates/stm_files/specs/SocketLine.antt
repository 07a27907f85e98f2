-- A line to a device behind a socket, as contracts see it, and what its calls do.
use Rattle.std.specs.Prelude.{◌≡◌, ◌⊎◌, ◌<◌, ℕ, Bool, List, [], ◌∷◌, ◌++◌, Option, Some, None}
use Rattle.std.specs.Prelude.{length}
use Rattle.std.specs.Io.KnownBytes.{Appends, Consumes, Keeps}
use Rattle.stm_files.specs.Outgoing.{SendsInTurn}
use Rattle.stm_files.specs.ReplyTime.{ReplyData}
use Rattle.stm_files.specs.ShortWaits.{WaitsData}
use Rattle.stm_files.specs.Silence.{SilenceData}

pub record LineState : Type 0 where
  -- the bytes that the socket was handed, where its runtime tells them; the system's tells nothing
  pub sent : Option (List ℕ)
  -- put and not sent yet
  pub waiting : List ℕ
  -- the bytes that reads will give from here on, where the runtime tells them;
  -- the system's tells nothing
  pub ahead : Option (List ℕ)
  -- read and not taken yet
  pub held : List ℕ
  -- how many milliseconds a read of the socket waits at the most, where that was set
  pub waits : Option ℕ
  -- by what a brief get waits, how long brief ones may go on, and by what a long one waits
  pub silence : SilenceData
  pub row : WaitsData
  pub reply : ReplyData
  -- the device was given up
  pub has_given_up : Bool

-- nothing was read
pub record ReadsNothing (old new : LineState) : Type 0 where
  pub ahead : new.ahead ≡ old.ahead
  pub held : new.held ≡ old.held

-- nothing was put or sent
pub record SendsNothing (old new : LineState) : Type 0 where
  pub sent : new.sent ≡ old.sent
  pub waiting : new.waiting ≡ old.waiting

-- The byte is the last of those that were put. Of these the first were sent and the others wait.
pub record PutsOnLine (byte : ℕ) (old new : LineState) : Type 0 where
  pub in_turn : SendsInTurn old.sent new.sent (old.waiting ++ byte ∷ []) new.waiting
  pub unread : ReadsNothing old new

-- All that was put was sent, in its order.
pub record SendsAll (old new : LineState) : Type 0 where
  pub sent : Appends old.sent new.sent old.waiting
  pub none_waits : new.waiting ≡ []

-- The byte is the next one: the first that was held, or, where none was, the first of what a read
-- gave. Those behind it are held.
abbrev pub IsNextByte : ℕ → LineState → LineState → Type 0
IsNextByte byte old new =
    ((old.held ≡ byte ∷ new.held) × (new.ahead ≡ old.ahead))
    ⊎ ((old.held ≡ []) × Consumes old.ahead new.ahead (byte ∷ new.held))

-- Nothing was held, and nothing was read.
pub record StaysQuiet (old new : LineState) : Type 0 where
  pub before : old.held ≡ []
  pub after : new.held ≡ []
  pub ahead : Keeps old.ahead new.ahead

-- the byte that a get answers is the next one, and it answers none only where none came
abbrev pub Comes : Option ℕ → LineState → LineState → Type 0
Comes (Some byte) old new = IsNextByte byte old new
Comes None old new = StaysQuiet old new

-- Bytes wait to be sent, or none is held.
abbrev pub HasToWait : LineState → Type 0
HasToWait line = (0 < length line.waiting) ⊎ (line.held ≡ [])

-- What was put is sent first.
pub record TakesFromLine (answer : Option ℕ) (old new : LineState) : Type 0 where
  pub sent : SendsAll old new
  pub comes : Comes answer old new
