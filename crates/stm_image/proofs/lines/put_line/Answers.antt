use Rattle.std.proofs.Common.{◌≡◌, ◌+◌, ◌-◌, ◌/◌, ◌%◌, ◌++◌, ◌∷◌, [], List, ℕ, length, take, ap, sym, ◌∙◌, arith}
use Rattle.std.specs.Prelude.{sum}
use Rattle.std.proofs.lemmas.List.Sums.{sum_by-append}
use Rattle.hex.specs.Hex.{encode_upper}
use Rattle.stm_image.specs.Canon.{record_bytes}
use Rattle.stm_image.proofs.Printing.{line_is, check_of}
use Rattle.stm_image.proofs.lines.put_line.Goals as goal

pub returns : goal.returns
returns c =
    let bytes = c.args.bytes.now in
    let header : List ℕ = length bytes ∷ c.args.offset / 256 ∷ c.args.offset % 256 ∷ c.args.kind ∷ [] in
    let check = (0 + (256 - (c.sum_of.result + c.sum_of-2.result) % 256)) % 256 in
    let total : sum (length bytes ∷ c.args.offset / 256 ∷ c.args.offset % 256 ∷ c.args.kind ∷ bytes) ≡ sum header + sum bytes = sum_by-append (λ x. x) header bytes in
    let last = check_of (sum header) (sum bytes) (sum (length bytes ∷ c.args.offset / 256 ∷ c.args.offset % 256 ∷ c.args.kind ∷ bytes)) c.sum_of.result c.sum_of-2.result c.sum_of.ensures c.sum_of-2.ensures total in
    let row = c.copy_at-3.new.row in
    let count : length bytes + 5 ≡ 4 + length bytes + 1 = omega arith in
    let two : take (4 + length bytes) c.copy_at-2.new.row ≡ header ++ bytes = c.copy_at-2.ensures ∙ ap (λ xs. xs ++ bytes) c.copy_at.ensures in
    let three : take (4 + length bytes + 1) row ≡ (header ++ bytes) ++ check ∷ [] = c.copy_at-3.ensures ∙ ap (λ xs. xs ++ check ∷ []) two in
    let all : take (length bytes + 5) row ≡ record_bytes c.args.offset c.args.kind bytes =
    ap (λ k. take k row) count ∙ three ∙ sym (ap (λ k. (header ++ bytes) ++ k ∷ []) last) in
    let digits = encode_upper (take (length bytes + 5) row) in
    c.in_ok-put_bytes.ensures ∙ line_is c.args.text.now.items digits bytes c.args.offset c.args.kind (ap encode_upper all)
