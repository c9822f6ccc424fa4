-- Each turn writes the line of one layer more.
use Rattle.std.proofs.Common.{sym, ◌+◌, ◌-◌, ◌*◌, ap, length, drop, arith, append-nil, append_assoc, length-append, length-drop}
use lib.Seq.{take_all}
use Rattle.text.specs.Text.{lines_of}
use Rattle.text.proofs.Lines.{lines_next, lines_within}
use Rattle.text.proofs.write.Text.lines.Goals as goal

pub loop-layer-init : goal.loop-layer-init
unfolding lines_of
loop-layer-init c = sym (append-nil c.args.self.now)

pub line-requires : goal.line-requires
line-requires c =
    let xs = c.args.phases.now in
    let at = c.loop-layer.layer * c.args.p in
    let more = ap length (lines_next c.args.p xs c.loop-layer.layer) in
    rw (take_all (length xs - at) (drop at xs) (rw length-drop (omega arith)), c.loop-layer.invariant, length-append)
    (omega (arith, simp length-append at more, lines_within c.args.p xs (c.loop-layer.layer + 1) c.args.v (omega arith), c.requires.room))

pub loop-layer-preserved : goal.loop-layer-preserved
loop-layer-preserved c =
    let xs = c.args.phases.now in
    let at = c.loop-layer.layer * c.args.p in
    rw (c.line.ensures, take_all (length xs - at) (drop at xs) (rw length-drop (omega arith)), c.loop-layer.invariant, lines_next)
    (simp append_assoc)
