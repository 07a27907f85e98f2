-- How many settling bytes a device awaits under the journal's intent, and that so many are sent.
use Rattle.std.proofs.Common.{lit≤, lit<, ◌<◌, ⊎_elim, nat_lt, ◌≡◌, ◌≤◌, ◌*◌, ◌+◌, ℕ, Bool, true, false, cond, eqb, min, max, Option, Some, None, sym, subst, arith}
use Rattle.std.proofs.lemmas.Bool.{cases_lt}
use Rattle.std.proofs.lemmas.Bool.Decides.{nat_tests}
use Rattle.stm_wire.specs.declared.chip.EraseKind.{EraseKind}
use Rattle.stm_wire.specs.declared.chip.EraseKind.TheVariants.{Page, Extended}
use Rattle.stm_wire.specs.declared.intent.Intent.{Intent}
use Rattle.stm_wire.specs.declared.intent.Intent.TheVariants.{Erase, Program}
use Rattle.stm_wire.proofs.Names.{Awaits, AwaitsIn, AwaitsUnder, ChipData, Device, Fresh, IsDevice, LosesOwed, most_awaited, most_left, most_under, RigState, settling_byte}
use Rattle.stm_journal.proofs.Names.{intent_of, is_greeted}
use Rattle.stm_session.proofs.Names.{IsWithinLimit, settling_limit, state_at, StepLaws}

-- a settling byte is one
byte_small : (n : ℕ) → settling_byte (Some (Erase n)) < 256
byte_small n = ⊎_elim
    (λ (low : n < 256). let t : nat_lt n 256 ≡ true = grind (arith, nat_tests) in rw t low)
    (λ (high : 256 ≤ n). let t : nat_lt n 256 ≡ false = grind (arith, nat_tests) in rw t (lit< tt))
    (cases_lt n 256)

-- no intent's limit is below that of a question, behind a greeting neither
pub least_under : (kind : EraseKind) (i : Intent) → 267 ≤ most_under kind (Some i)
least_under kind (Program n) = lit≤ tt
least_under Page (Erase n) = lit≤ tt
least_under Extended (Erase n) = go (settling_byte (Some (Erase n))) (eqb (settling_byte (Some (Erase n))) 0x7F)
  where
    go : (byte : ℕ) (t : Bool) → 267 ≤ cond t 131047 (min 131047 (max 267 (514 * byte + 8)))
    go byte true = lit≤ tt
    go byte false = omega arith

least_left : (greeted : Bool) (kind : EraseKind) (i : Intent) → most_under kind (Some i) ≤ most_left greeted kind (Some i)
least_left false kind i = omega arith
least_left true Page (Program n) = lit≤ tt
least_left true Page (Erase n) = lit≤ tt
least_left true Extended (Program n) = lit≤ tt
least_left true Extended (Erase n) = omega arith

-- and no limit that is sent is below it
sent_most : (greeted : Bool) (kind : EraseKind) (i : Intent) → most_left greeted kind (Some i) ≤ settling_limit kind greeted (Some i)
sent_most false kind (Program n) = lit≤ tt
sent_most true Page (Program n) = lit≤ tt
sent_most true Extended (Program n) = lit≤ tt
sent_most false Page (Erase n) = lit≤ tt
sent_most true Page (Erase n) = lit≤ tt
sent_most false Extended (Erase n) = go (settling_byte (Some (Erase n))) (eqb (settling_byte (Some (Erase n))) 0x7F)
  where
    go : (byte : ℕ) (t : Bool) → cond t 131047 (min 131047 (max 267 (514 * byte + 8))) ≤ cond t 131072 (min (max (byte * 514 + 8) 512) 131072)
    go byte true = lit≤ tt
    go byte false = omega arith
sent_most true Extended (Erase n) = go (settling_byte (Some (Erase n))) (eqb (settling_byte (Some (Erase n))) 0x7F) (byte_small n)
  where
    go : (byte : ℕ) (t : Bool) → byte < 256 → max (cond t 131047 (min 131047 (max 267 (514 * byte + 8)))) (2 * byte + 65030) ≤ cond t 131072 (min (max (byte * 514 + 8) (byte * 2 + 65030)) 131072)
    go byte true small = omega arith
    go byte false small = omega arith

-- so for the journal's own
pub own_within : (laws : StepLaws) (chip : ChipData) (old : RigState) → IsDevice old.device → AwaitsUnder (is_greeted old.journal) (intent_of (state_at old.journal)) old.device → old.device.chip.kind ≡ chip.kind → IsWithinLimit chip old
own_within laws chip old is awaits same = own (is_greeted old.journal) (intent_of (state_at old.journal)) awaits
  where
    whole : (kind : EraseKind) → most_awaited kind ≤ 131072
    whole Page = lit≤ tt
    whole Extended = lit≤ tt

    own : (greeted : Bool) (o : Option Intent) → AwaitsUnder greeted o old.device → Awaits (settling_byte o) (settling_limit chip.kind greeted o) old.device
    own greeted None w = laws.more_suffice old.device 0x7F (most_awaited old.device.chip.kind) 131072 (whole old.device.chip.kind) (laws.limited old.device is 0x7F (lit< tt))
    own greeted (Some i) w =
        let byte = settling_byte (Some i) in
        let most = most_left greeted old.device.chip.kind (Some i) in
        subst (λ (kind : EraseKind). Awaits byte (settling_limit kind greeted (Some i)) old.device) same
        (laws.more_suffice old.device byte most (settling_limit old.device.chip.kind greeted (Some i)) (sent_most greeted old.device.chip.kind i) w)

-- behind a frame, and behind a question
pub sent_under : (laws : StepLaws) (greeted : Bool) (d : Device) (o : Option Intent) → Awaits (settling_byte o) (most_under d.chip.kind o) d → AwaitsUnder greeted o d
sent_under laws greeted d None w = tt
sent_under laws greeted d (Some i) w = laws.more_suffice d (settling_byte (Some i)) (most_under d.chip.kind (Some i)) (most_left greeted d.chip.kind (Some i)) (least_left greeted d.chip.kind i) w

pub asked_under : (laws : StepLaws) (greeted : Bool) (d : Device) (o : Option Intent) → Awaits (settling_byte o) 267 d → AwaitsUnder greeted o d
asked_under laws greeted d None w = tt
asked_under laws greeted d (Some i) w = sent_under laws greeted d (Some i) (laws.more_suffice d (settling_byte (Some i)) 267 (most_under d.chip.kind (Some i)) (least_under d.chip.kind i) w)

-- it stays so: while the device is settled, where owed bytes are lost, and fresh from reset
pub settling_under : (greeted : Bool) (old d : Device) (o : Option Intent) → d.chip ≡ old.chip → ((most : ℕ) → 3 ≤ most → Awaits (settling_byte o) most old → Awaits (settling_byte o) most d) → AwaitsUnder greeted o old
    → AwaitsUnder greeted o d
settling_under greeted old d None same no_more w = tt
settling_under greeted old d (Some i) same no_more w =
    let least = least_under old.chip.kind i in
    let more = least_left greeted old.chip.kind i in
    subst (λ (c : ChipData). Awaits (settling_byte (Some i)) (most_left greeted c.kind (Some i)) d) (sym same) (no_more (most_left greeted old.chip.kind (Some i)) (omega arith) w)

pub lost_under : (greeted : Bool) (d new : Device) (o : Option Intent) → LosesOwed d new → AwaitsUnder greeted o d → AwaitsUnder greeted o new
lost_under greeted d new None lost w = tt
lost_under greeted d new (Some i) (n, e) w = subst (λ (x : Device). AwaitsUnder greeted (Some i) x) (sym e) w

pub fresh_under : (greeted : Bool) (d : Device) (o : Option Intent) → d.phase ≡ Fresh → AwaitsUnder greeted o d
fresh_under greeted d None fresh = tt
fresh_under greeted d (Some i) fresh =
    let least = least_under d.chip.kind i in
    let more = least_left greeted d.chip.kind i in
    subst (AwaitsIn d.chip d.codes (settling_byte (Some i)) (most_left greeted d.chip.kind (Some i))) (sym fresh) (λ e. omega arith)

-- the journal says more: that 7F may have been sent
pub greeted_under : (laws : StepLaws) (greeted : Bool) (d : Device) (o : Option Intent) → AwaitsUnder false o d → AwaitsUnder greeted o d
greeted_under laws greeted d None w = tt
greeted_under laws greeted d (Some i) w = sent_under laws greeted d (Some i) w
