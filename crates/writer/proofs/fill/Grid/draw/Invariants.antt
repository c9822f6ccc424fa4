-- The first places of a block stand.
use Rattle.std.proofs.Common.{◌≡◌, ◌++◌, take, drop}
use Rattle.offsets.specs.Offsets.{fed}
use Rattle.writer.specs.Blocks.{placed}
use Rattle.writer.proofs.fill.Grid.draw.Given as goal

abbrev pub invariant-loop-i : goal.invariant-loop-i
invariant-loop-i l =
    l.places
    ≡ take l.i (fed (drop l.p l.ports.offsets.now) (placed l.self.width l.self.x l.self.y l.c))
    ++ drop l.i l.initial.places
