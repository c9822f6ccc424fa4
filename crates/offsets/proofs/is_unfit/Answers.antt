-- The largest of the offsets reaches a turn where one of them does.
use Rattle.std.proofs.Common.{◌≡◌, ◌∙◌, ap, arith, max, length}
use Rattle.std.specs.List.{fold}
use lib.Dec.{leb}
use lib.Seq.{take_all}
use borrow.Author.Tests.{eq-eqb, ne_eqb}
use Rattle.turn.specs.Phase.{turn}
use Rattle.offsets.specs.Offsets.{unfit}
use Rattle.offsets.proofs.Fit.{largest_high}
use Rattle.offsets.proofs.is_unfit.Goals as goal

-- they are not one for each port
pub returns-then-offsets-ports : goal.returns-then-offsets-ports
unfolding unfit
returns-then-offsets-ports c = rw (ne_eqb (length c.args.offsets.now) c.args.ports (λ e. omega arith))

pub returns : goal.returns
unfolding unfit
returns c =
    let os = c.args.offsets.now in
    let largest : c.loop-o.largest ≡ fold max 0 os = c.loop-o.invariant ∙ ap (fold max 0) (take_all c.loop-o.o-index os (omega arith)) in
    rw (eq-eqb (length os) c.args.ports (omega arith)) (ap (leb turn) largest ∙ largest_high 0 os)
