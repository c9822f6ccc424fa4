-- The beam lies within the setting, so that its numbers are small.
use Rattle.std.proofs.Common.{arith}
use Rattle.verdict.proofs.Given.{beam_within, few_of_each}
use Rattle.verdict.proofs.Asked.{half_bits_asked}
use Rattle.verdict.proofs.half.beams_read.Goals as goal

pub row_before-before-requires : goal.row_before-before-requires
row_before-before-requires c = let x = c.args.x in omega (arith, beam_within x.r x.in_range x.told 0 (omega arith))

pub overflow_add-after : goal.overflow_add-after
overflow_add-after c = let x = c.args.x in omega (arith, few_of_each x.r x.in_range x.told 0 (omega arith))

pub returns : goal.returns
returns c = let x = c.args.x in half_bits_asked x.r x.in_range x.told c.requires c.row_before-before.ensures
