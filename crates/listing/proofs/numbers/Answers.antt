-- The next number has room in the array, and what stands there at the end is copied where it fits.
use Rattle.std.proofs.Common.{refl, arith}
use Rattle.listing.proofs.LineBegun.{line_none, line_more, line_some, line_put}
use Rattle.listing.proofs.numbers.Goals as goal

pub loop-i-init : goal.loop-i-init
loop-i-init c = line_none _ _ refl

pub returns-in_err-k : goal.returns-in_err-k
returns-in_err-k c =
    absurd (line_some c.loop-i.invariant (omega arith) (omega arith) (omega arith) (omega arith) c.in_err-k.ensures)

pub loop-i-preserved : goal.loop-i-preserved
loop-i-preserved c =
    line_more c.loop-i.invariant (omega arith) (omega arith) (omega arith) (omega arith) c.in_ok-k.ensures

pub returns : goal.returns
returns c = line_put c.loop-i.invariant (omega arith) c.put.ensures
