-- The code tests what the definition does.
use Rattle.std.proofs.Common.{◌≡◌, true, false}
use borrow.Author.Tests.{le-leb, lt-leb}
use Rattle.plan.specs.Drawing.{drawable}
use Rattle.writer.proofs.Drawn.{five}
use Rattle.writer.proofs.entries.Goals as goal

pub returns-then-not-s-block : goal.returns-then-not-s-block
unfolding drawable
returns-then-not-s-block c =
    let s = c.args.s.now in
    let large : five s.v s.pairs s.rows s.columns ≡ false = c.if-not-s-block.true in
    rw large

pub returns-then-height-gt32 : goal.returns-then-height-gt32
unfolding drawable
returns-then-height-gt32 c =
    let s = c.args.s.now in
    let small : five s.v s.pairs s.rows s.columns ≡ true = c.if-not-s-block.false in
    rw (small, lt-leb _ _ c.if-height-gt32.true)

pub returns-then-room-n : goal.returns-then-room-n
unfolding drawable
returns-then-room-n c =
    let s = c.args.s.now in
    let small : five s.v s.pairs s.rows s.columns ≡ true = c.if-not-s-block.false in
    rw (small, le-leb _ _ c.if-height-gt32.false, lt-leb _ _ c.if-room-n.true)

pub returns : goal.returns
unfolding drawable
returns c =
    let s = c.args.s.now in
    let small : five s.v s.pairs s.rows s.columns ≡ true = c.if-not-s-block.false in
    rw (small, le-leb _ _ c.if-height-gt32.false, le-leb _ _ c.if-room-n.false)
