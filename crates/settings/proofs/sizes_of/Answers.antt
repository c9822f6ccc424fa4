-- Two ports and the settings above, whose numbers are small.
use Rattle.std.proofs.Common.{◌≡◌, true, ◌*◌, sym, arith}
use borrow.Author.Tests.{ne_eqb}
use Rattle.settings.specs.Settings.{is_setting, across, mask_bytes}
use Rattle.settings.proofs.Known.{known, one_by_one}
use Rattle.settings.proofs.sizes_of.Goals as goal

pub returns-then-n1-eq1 : goal.returns-then-n1-eq1
unfolding mask_bytes
returns-then-n1-eq1 c =
    let set : is_setting c.args.n1 c.args.n2 ≡ true = sym c.if-not-is_setting.ensures in
    rw (set, c.if-n1-eq1.true, one_by_one _ _ set c.if-n1-eq1.true)

pub overflow_mul-across : goal.overflow_mul-across
overflow_mul-across c = omega (arith, (known _ _ (sym c.if-not-is_setting.ensures)).n1_few)

pub beams_down-down-requires : goal.beams_down-down-requires
beams_down-down-requires c = (known _ _ (sym c.if-not-is_setting.ensures)).n2_few

pub overflow_mul-result : goal.overflow_mul-result
overflow_mul-result c = omega (arith, (known _ _ (sym c.if-not-is_setting.ensures)).antennas)

pub overflow_mul-result-2 : goal.overflow_mul-result-2
overflow_mul-result-2 c = omega (arith, (known _ _ (sym c.if-not-is_setting.ensures)).antennas)

pub overflow_mul-result-3 : goal.overflow_mul-result-3
overflow_mul-result-3 c =
    let set : is_setting c.args.n1 c.args.n2 ≡ true = sym c.if-not-is_setting.ensures in
    let four : across c.args.n1 ≡ c.args.n1 * 4 = rw (ne_eqb _ 1 c.if-n1-eq1.false) in
    rw (c.beams_down-down.ensures, ← four) (omega (arith, (known _ _ set).bits))

pub returns : goal.returns
unfolding mask_bytes
returns c =
    let set : is_setting c.args.n1 c.args.n2 ≡ true = sym c.if-not-is_setting.ensures in
    rw (c.beams_down-down.ensures, set, ne_eqb _ 1 c.if-n1-eq1.false)
