-- The text is that of what `phases` gives and leaves with all mask bits ones and all offsets 0.
use Rattle.std.proofs.Common.{arith, length-take}
use Rattle.printer.proofs.Texts.{bytes_few, ports_within, called_plainly, outcome_read}
use Rattle.printer.proofs.answer_to.Goals as goal

pub slice_bounds-ones-end : goal.slice_bounds-ones-end
slice_bounds-ones-end c = bytes_few c.args.r.n1 c.args.r.n2 c.sizes_of-sizes.ensures

pub slice_bounds-site-end : goal.slice_bounds-site-end
slice_bounds-site-end c =
    rw length-take (omega (arith, bytes_few c.args.r.n1 c.args.r.n2 c.sizes_of-sizes.ensures))

pub slice_bounds-zeros-end : goal.slice_bounds-zeros-end
slice_bounds-zeros-end c = ports_within c.args.r.n1 c.args.r.n2 c.sizes_of-sizes.ensures

pub slice_bounds-site-end-2 : goal.slice_bounds-site-end-2
slice_bounds-site-end-2 c =
    rw length-take (omega (arith, ports_within c.args.r.n1 c.args.r.n2 c.sizes_of-sizes.ensures))

pub returns : goal.returns
returns c =
    let r = c.args.r in
    let call = called_plainly r c.sizes_of-sizes.ensures c.entries-a.ensures in
    outcome_read r call (omega arith) c.answer.ensures c.answer_by.ensures c.given.ensures
