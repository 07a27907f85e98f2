use Rattle.std.proofs.Common.{◌≡◌, ℕ, List, ◌++◌, Option, OnOk, codes, subst, sym}
use Rattle.stm_work.specs.DeviceJson.{size_members}
use Rattle.stm_work.specs.JsonLine.{number_member}
use Rattle.stm_work.proofs.device_json.add_size.Goals as goal

pub returns : goal.returns
returns c =
    let old : List ℕ = c.args.line.now.text.items in
    let new : List ℕ = c.number.new.self.text.items in
    subst (λ (size : Option ℕ). OnOk c.number.result (new ≡ old ++ size_members size))
    (sym c.in-Some.is)
    (subst
    (λ (kib : ℕ). OnOk c.number.result (new ≡ old ++ number_member (codes "flash_kib") kib))
    c.from.ensures c.number.ensures)
