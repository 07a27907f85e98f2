use Rattle.std.proofs.Common.{◌≡◌, ℕ, ◌+◌, ◌*◌, ap, ap₂, ◌∙◌, arith, rules, eqb, ◌&&◌, Some, length, get_or, length-take, length-drop}
use Rattle.stm_wire.proofs.Names.{done_if, fits_inside, number_of, pair_of}
use Rattle.stm_sim.proofs.Checks.{write_at_end, list_at_end, pairs_at_end}
use Rattle.stm_sim.proofs.simulator.rest.verdict_at_end.Goals as goal

pub returns-in-49 : goal.returns-in-49
returns-in-49 c =
    let bytes = c.args.bytes.now in
    let code : get_or bytes 0 0 ≡ 0x31 = search rules in
    let size : length bytes ≡ get_or bytes 7 0 + 10 = omega (arith, length-take {A = ℕ}, length-drop {A = ℕ}) in
    let address : c.from_be_bytes-address.result ≡ number_of (get_or bytes 2 0) (get_or bytes 3 0) (get_or bytes 4 0) (get_or bytes 5 0) = omega arith in
    let fits = c.fits_inside-fits.ensures ∙ ap₂ (λ a n. fits_inside c.args.chip.now a (n + 1)) address c.from-in-49.ensures in
    ap (λ v. Some v) c.whole_verdict.ensures
    ∙ ap (λ t. Some (done_if (eqb c.args.check 255 && t))) fits
    ∙ write_at_end c.args.chip.now c.args.codes.now bytes c.args.check c.requires.no_verdict c.requires.check code size

pub returns-in-67 : goal.returns-in-67
returns-in-67 c =
    let bytes = c.args.bytes.now in
    let code : get_or bytes 0 0 ≡ 0x43 = search rules in
    let size : length bytes ≡ get_or bytes 2 0 + 5 = omega (arith, length-take {A = ℕ}, length-drop {A = ℕ}) in
    ap (λ v. Some v) c.whole_verdict-in-67.ensures
    ∙ list_at_end c.args.chip.now c.args.codes.now bytes c.args.check c.args.pages_exist c.requires.no_verdict c.requires.check c.requires.pages_exist code c.if-n-lt255.true size

pub returns-in-Some : goal.returns-in-Some
returns-in-Some c =
    let bytes = c.args.bytes.now in
    let code : get_or bytes 0 0 ≡ 0x44 = search rules in
    let (few, is) = c.in-Some.ensures in
    let size : length bytes ≡ 2 * (pair_of (get_or bytes 2 0) (get_or bytes 3 0) + 1) + 5 = omega (arith, length-take {A = ℕ}, length-drop {A = ℕ}) in
    ap (λ v. Some v) c.whole_verdict-in-Some.ensures
    ∙ pairs_at_end c.args.chip.now c.args.codes.now bytes c.args.check c.args.pages_exist c.requires.no_verdict c.requires.check c.requires.pages_exist code few size
