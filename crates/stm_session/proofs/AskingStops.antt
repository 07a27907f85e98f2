-- A device is asked for its commands and its id: what that puts, and where no answer comes to one of
-- them.
use Rattle.std.proofs.Common.{◌≡◌, ℕ, ◌+◌, ◌<◌, Bool, true, false, List, [], ◌∷◌}
use Rattle.std.proofs.Common.{◌++◌, length, None, Result, Ok, Err, IsErrAnd, refl, arith}
use Rattle.std.specs.Prelude.{IfOk}
use Rattle.stm_wire.proofs.Names.{get_id_turns, get_turns, GoesOn, IsPart, RigState}
use Rattle.stm_wire.specs.lemmas.DialogueLaws.{get_id_sends, get_sends, length-get_turns}
use Rattle.stm_wire.specs.SentList.{get as get_sent, get_id as id_sent}
use Rattle.stm_session.proofs.Names.{asking_steps, AsksInOrder, Begin, Cause, cause_of, Fault, FaultEnds, id_turns, is_whole, is_whole_at, IsAsking, IsGet, IsGetId, IsInOrder, Sends, Step, StopsBy}
use Rattle.stm_session.proofs.CutShort.{begin_after, begin_on, by_fault, order_stops, part_stops}
use Rattle.stm_session.proofs.SentSteps.{PutFew, done_puts, put_as, put_front, put_then, stopped_puts}

-- Get begins it
pub get_begins : (xs : List Step) → IsGet xs → (more : List Step) × IsAsking (xs ++ more)
get_begins xs get =
    let more : List Step = Sends (id_turns 0) ∷ [] in
    let later : IsGetId more = record { high = _; low = _; is = refl } in
    (more, record { first = xs; is_get = get; second = more; is_get_id = later; is = refl })

-- Get is cut short
pub get_stops : {U : Type 0} (torn : Bool) (a b : RigState) (e : Fault) (result : Result U Fault)
    → IsErrAnd result (λ x. x ≡ e) → StopsBy (Begin IsGet) (cause_of e) torn a b
    → FaultEnds (Begin IsAsking) torn a b result
get_stops torn a b e result is stops =
    part_stops (Begin IsGet) (Begin IsAsking) torn a b e result is
    (begin_on IsGet IsAsking get_begins) stops

-- and Get ID is, after Get
pub get_id_stops : {U : Type 0} (torn : Bool) (version : ℕ) (codes : List ℕ) (a b c : RigState)
    (e : Fault) (result : Result U Fault) → length codes < 256 → IsErrAnd result (λ x. x ≡ e)
    → GoesOn (IsInOrder torn (Sends (get_turns version codes) ∷ [])) a.calls b.calls
    → StopsBy (Begin IsGetId) (cause_of e) torn b c → FaultEnds (Begin IsAsking) torn a c result
get_id_stops torn version codes a b c e result few is got stops =
    let before : List Step = Sends (get_turns version codes) ∷ [] in
    let get : IsGet before = record { version = version; codes = codes; few = few; is = refl } in
    by_fault (λ (k : Cause). StopsBy (Begin IsAsking) k torn a c) e result is
    (order_stops (Begin IsGetId) (Begin IsAsking) (cause_of e) torn before
    (begin_after IsGetId IsAsking before
    (λ ys id. record { first = before; is_get = get; second = ys; is_get_id = id; is = refl }))
    a b c got stops)

-- both are answered
pub asking_is : (version : ℕ) (codes : List ℕ) (id : ℕ) → length codes < 256
    → IsAsking (asking_steps version codes id)
asking_is version codes id few =
    record {
      first = Sends (get_turns version codes) ∷ [];
      is_get = record { version = version; codes = codes; few = few; is = refl };
      second = Sends (id_turns id) ∷ [];
      is_get_id = record { high = _; low = _; is = refl };
      is = refl;
    }

-- What they put:
put_asking : (steps : List Step) → IsAsking steps → PutFew None 268 steps
put_asking steps asking =
    let got = asking.is_get in
    let told = asking.is_get_id in
    let few : PutFew None 261 (Sends (get_turns got.version got.codes) ∷ []) =
    record {
      sent = (get_sent (get_sends got.version got.codes), tt);
      few = omega (arith, length-get_turns got.version got.codes, got.few);
    } in
    let id : PutFew None 7 (Sends (get_id_turns told.high told.low) ∷ []) =
    record { sent = (id_sent (get_id_sends told.high told.low), tt); few = omega arith } in
    put_as None (261 + 7) 268 (asking.first ++ asking.second) steps (omega arith) asking.is
    (put_then None 261 7 asking.first asking.second
    (put_as None 261 261 _ asking.first (omega arith) got.is few)
    (put_as None 7 7 _ asking.second (omega arith) told.is id))

-- both, or where one was cut short,
pub asked_puts : (id : ℕ) (a b : RigState) → AsksInOrder id false a b
    → GoesOn (IsPart None true 268) a.calls b.calls
asked_puts id a b (version, codes, asked, few) =
    let steps = asking_steps version codes id in
    done_puts None 268 steps false a b (put_asking steps (asking_is version codes id few)) asked

pub cut_puts : (e : Fault) (a b : RigState) → StopsBy (Begin IsAsking) (cause_of e) false a b
    → GoesOn (IsPart None (is_whole_at e) 268) a.calls b.calls
cut_puts e a b =
    stopped_puts None 268 (Begin IsAsking) e false a b
    (λ xs begun. put_front None 268 xs begun.0 (put_asking (xs ++ begun.0) begun.1))

-- by the answer
pub ask_puts : {T : Type 0} (result : Result T Fault) (id : T → ℕ) (a b : RigState)
    → IfOk result (λ x. AsksInOrder (id x) false a b)
    → FaultEnds (Begin IsAsking) false a b result
    → GoesOn (IsPart None (is_whole result) 268) a.calls b.calls
ask_puts (Ok x) id a b order stops = asked_puts (id x) a b order
ask_puts (Err e) id a b order stops = cut_puts e a b stops
