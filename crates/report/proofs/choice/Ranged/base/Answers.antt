-- Its four ways out are those of the definition, and the numbers of a report in range are small.
use Rattle.std.proofs.Common.{sym, ◌/◌, ◌<◌, arith}
use Rattle.settings.proofs.Steps.{sized}
use Rattle.report.proofs.InRange.{i11_small, i12_small, q_small}
use Rattle.report.proofs.Base.{half_base, plain_base, wide_base, narrow_base}
use Rattle.report.proofs.choice.Ranged.base.Goals as goal

pub overflow_mul-l : goal.overflow_mul-l
overflow_mul-l c = omega (arith, i11_small _ c.args.self.now.in_range)

pub returns-then-is_half : goal.returns-then-is_half
returns-then-is_half c = half_base _ c.args.self.now.in_range (sym c.if-is_half.ensures)

pub returns-then-not-is_mode_two : goal.returns-then-not-is_mode_two
returns-then-not-is_mode_two c =
    plain_base _ c.args.self.now.in_range (sym c.if-is_half.ensures) (sym c.if-not-is_mode_two.ensures)

pub overflow_add-result : goal.overflow_add-result
overflow_add-result c = omega (arith, i11_small _ c.args.self.now.in_range)

pub overflow_mul-result : goal.overflow_mul-result
overflow_mul-result c = omega (arith, i12_small _ c.args.self.now.in_range)

pub overflow_add-result-then-r-gt1 : goal.overflow_add-result-then-r-gt1
overflow_add-result-then-r-gt1 c =
    let h = c.args.self.now.in_range in
    let q : c.args.self.now.report.i2 / c.g_of.result < 16 = rw c.g_of.ensures (q_small _ h) in
    omega (arith, i12_small _ h)

pub returns-then-r-gt1 : goal.returns-then-r-gt1
returns-then-r-gt1 c =
    rw c.g_of.ensures
    (wide_base _ c.args.self.now.in_range (sym c.if-is_half.ensures) (sym c.if-not-is_mode_two.ensures) c.if-r-gt1.true)

pub overflow_add-result-2 : goal.overflow_add-result-2
overflow_add-result-2 c =
    let h = c.args.self.now.in_range in
    let q : c.args.self.now.report.i2 / c.g_of.result < 16 = rw c.g_of.ensures (q_small _ h) in
    omega (arith, i11_small _ h)

pub returns : goal.returns
returns c =
    let w = c.args.self.now in
    rw (c.g_of.ensures, (sized _ _ w.sizes_are w.in_range.setting).across)
    (narrow_base _ w.in_range (sym c.if-is_half.ensures) (sym c.if-not-is_mode_two.ensures) c.if-r-gt1.false)
