use Rattle.std.proofs.Common.{◌≡◌, ◌+◌, ◌++◌, take, drop, sym, ap, ap₂, ◌∙◌, append_assoc, rules, arith}
use Rattle.stm_image.specs.Pairs.{raw_pairs}
use Rattle.stm_image.specs.Pieces.{pairs_in}
use Rattle.stm_image.specs.Text.{address_at}
use Rattle.stm_image.proofs.Placing.{pairs_raw, pairs_split}
use Rattle.stm_image.proofs.data.add_data.Goals as goal

pub returns-then-bytes-room-clause-ok : goal.returns-then-bytes-room-clause-ok
returns-then-bytes-room-clause-ok c =
    let bytes = c.args.bytes.now in
    let goes = c.room_from-room.ensures.goes_on in
    let all = pairs_raw c.args.form c.args.offset bytes (λ k lt. goes k (omega (arith, lt, c.if-bytes-room.true))) in
    let at : c.from.result ≡ c.args.offset = first_of (omega (arith, c.from.ensures), search (rules, c.from.ensures)) in
    let start : c.address_in-start.result ≡ address_at c.args.form c.args.offset = c.address_in-start.ensures ∙ ap (address_at c.args.form) at in
    c.in_ok-add.ensures.ok.pairs ∙ ap (λ n. pairs_in c.args.pieces.now ++ raw_pairs n bytes) start ∙ ap (λ ps. pairs_in c.args.pieces.now ++ ps) (sym all)

pub returns-clause-ok : goal.returns-clause-ok
returns-clause-ok c =
    let form = c.args.form in
    let bytes = c.args.bytes.now in
    let offset = c.args.offset in
    let room = c.room_from-room.result in
    let told = c.room_from-room.ensures in
    let old = pairs_in c.args.pieces.now in
    let at : c.from.result ≡ offset = first_of (omega (arith, c.from.ensures), search (rules, c.from.ensures)) in
    let at_too : c.from-2.result ≡ offset = first_of (omega (arith, c.from-2.ensures), search (rules, c.from-2.ensures)) in
    let start : c.address_in-start.result ≡ address_at form offset = c.address_in-start.ensures ∙ ap (address_at form) at in
    let again : c.address_in-again.result ≡ address_at form (offset + room) = c.address_in-again.ensures ∙ ap (address_at form) (let e : c.from-2.result + room ≡ offset + room = omega (arith, at_too) in e) in
    let split = pairs_split form offset room bytes (omega (arith, c.if-bytes-room.false)) c.requires.short told.goes_on told.again in
    let one = c.in_ok-add-2.ensures.ok.pairs ∙ ap₂ (λ n b. old ++ raw_pairs n b) start c.split_at.ensures.front in
    c.in-Ok.ensures.ok.pairs ∙ ap₂ (λ n b. pairs_in c.add-2.new.self ++ raw_pairs n b) again c.split_at.ensures.back ∙ ap (λ ps. ps ++ raw_pairs (address_at form (offset + room)) (drop room bytes)) one
    ∙ append_assoc old (raw_pairs (address_at form offset) (take room bytes)) (raw_pairs (address_at form (offset + room)) (drop room bytes)) ∙ ap (λ ps. old ++ ps) (sym split)
