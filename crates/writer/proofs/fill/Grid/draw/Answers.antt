-- Each turn stores one place more.
use Rattle.std.proofs.Common.{◌≡◌, List, ℕ, ◌+◌, ◌≤◌, ◌++◌, ◌∙◌, drop, append-nil, ap, arith}
use native.Mathlib.Nat.{le_antisymm}
use lib.ListN.{drop_of_length-le}
use Rattle.ground.proofs.Written.{stored, stored_all}
use Rattle.offsets.specs.Offsets.{fed}
use Rattle.writer.specs.Blocks.{placed}
use Rattle.writer.proofs.Columns.{length_fed_placed}
use Rattle.writer.proofs.Rows.{within, entry_fed}
use Rattle.writer.proofs.fill.Grid.draw.Goals as goal

pub overflow_sub-b : goal.overflow_sub-b
overflow_sub-b c =
    let g = c.args.self in
    let h = rw c.requires.2 at c.loop-i-test.true in
    rw g.inverts (within _ _ g.narrow.0 g.narrow.1 h)

enough : (p long : ℕ) → p + 16 ≤ 48 → long ≡ 48 → p + 16 ≤ long
enough p long h e = omega arith

pub loop-i-preserved : goal.loop-i-preserved
loop-i-preserved c =
    let g = c.args.self in
    let h = rw c.requires.2 at c.loop-i-test.true in
    stored c.args.places.now _ 16 c.loop-i.i 0 c.loop-i.invariant
    (rw g.inverts (entry_fed _ _ g.narrow.0 g.narrow.1 h g.x g.y c.args.c c.args.p _ (enough _ _ c.requires.1 c.args.ports.low.0)))
    (length_fed_placed _ _ _ _ g.narrow.0 _) h (omega (arith, c.requires.2))

pub returns : goal.returns
returns c =
    let a = c.args in
    let block = fed (drop a.p a.ports.offsets.now) (placed a.self.width a.self.x a.self.y a.c) in
    let all : c.loop-i.i ≡ 16 = le_antisymm c.loop-i.auto.i-end c.loop-i-test.false ∙ c.requires.2 in
    stored_all a.places.now block 16 c.loop-i.i c.loop-i.invariant (length_fed_placed _ _ _ _ a.self.narrow.0 _) all
    ∙ ap (λ (rest : List ℕ). block ++ rest) (drop_of_length-le a.places.now {i = 16} (omega (arith, c.requires.2)))
    ∙ append-nil block
