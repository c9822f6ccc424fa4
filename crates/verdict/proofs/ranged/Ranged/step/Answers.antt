-- The numbers of a beam are small.
use Rattle.std.proofs.Common.{ℕ, ◌+◌, ◌*◌, ◌/◌, ◌<◌, Fits, arith}
use mir.Syntax.{w32}
use lib.ListN.{get_or}
use Rattle.turn.specs.Phase.{turn}
use Rattle.settings.specs.Ranges.{beam}
use Rattle.verdict.specs.declared.ranged.Ranged.{Ranged}
use Rattle.verdict.proofs.Given.{down_some, small, step_is}
use Rattle.verdict.proofs.ranged.Ranged.step.Goals as goal

-- so are the products, and their sum
fits : (self : Ranged) (i : ℕ) → i < 4 → let x = get_or self.b.beams i (beam 0 0) in
    let row = x.l * (turn / self.b.sizes.across) in
    let entry = x.m * (turn / self.b.sizes.down) in
    Fits w32 row × Fits w32 entry × Fits w32 (512 * entry) × Fits w32 (row + 512 * entry)
fits self i few =
    let (l, m) = small self.r self.in_range self.told i few in
    (omega (arith, l), omega (arith, m), omega (arith, m), omega (arith, l, m))

pub nonzero_div-down : goal.nonzero_div-down
nonzero_div-down c = let x = c.args.self in down_some x.r x.in_range x.told

pub overflow_mul-result : goal.overflow_mul-result
overflow_mul-result c = (fits c.args.self c.args.i c.requires).0

pub overflow_mul-result-2 : goal.overflow_mul-result-2
overflow_mul-result-2 c = (fits c.args.self c.args.i c.requires).1

pub overflow_mul-result-3 : goal.overflow_mul-result-3
overflow_mul-result-3 c = (fits c.args.self c.args.i c.requires).2

pub overflow_add-result : goal.overflow_add-result
overflow_add-result c = (fits c.args.self c.args.i c.requires).3

pub returns : goal.returns
returns c = let x = c.args.self in step_is x.r x.in_range x.told c.args.i c.requires
