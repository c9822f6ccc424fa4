-- A small buffer has room for all that fits.
use Rattle.std.proofs.Common.{◌≤◌, length, ap, ◌∙◌, arith}
use Rattle.ground.specs.Lists.{over}
use Rattle.render.specs.Rendered.{fitting}
use Rattle.render.proofs.Written.{fitting_same}
use Rattle.render.proofs.entries.Goals as goal

pub returns-then-room-le-FEW : goal.returns-then-room-le-FEW
unfolding fitting
returns-then-room-le-FEW g c =
    let a = c.args in
    let room = g.E.Entry.room_in (length a.out.now) in
    let few : room ≤ 32 = rw c.room.ensures at c.if-room-le-FEW.true in
    c.within.ensures
    ∙ ap (λ xs. over (g.E.Entry.numbers_of xs) a.out.now)
    (fitting_same a.offsets.now a.s 48 272 room (omega arith) (omega (arith, few)))

pub returns-else-room-le-FEW : goal.returns-else-room-le-FEW
unfolding fitting
returns-else-room-le-FEW g c = c.within-else-room-le-FEW.ensures
