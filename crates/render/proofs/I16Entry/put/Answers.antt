-- Each turn stores the two numbers of one weight.
use Rattle.std.proofs.Common.{◌≡◌, ℕ, ◌*◌, ◌%◌, ◌++◌, length, drop, get_or, sym, ap, ◌∙◌, arith}
use mir.Syntax.{w16}
use mir.Val.{to_z, of_z}
use mir.Facts.{to_z-of_z}
use borrow.Author.Tests.{le-leb}
use native.Mathlib.Nat.{le_antisymm}
use Rattle.ground.proofs.Written.{stored_all}
use Rattle.weight.specs.declared.Weight.{Weight}
use Rattle.weight.specs.Table.{entry}
use Rattle.lookup.proofs.Halves.{entry_fits}
use Rattle.render.specs.Rendered.{looked_up}
use Rattle.render.proofs.Weighed.{length_looked_up, weight_stored}
use Rattle.render.proofs.I16Entry.put.Goals as goal

-- what the code holds in a local is the number itself
local_x : (e : ℕ) {w : Weight} → w ≡ entry e → to_z w16 (of_z w16 w.x) ≡ (entry e).x
local_x e q = ap (λ (w : Weight). to_z w16 (of_z w16 w.x)) q ∙ to_z-of_z (entry_fits e).0

local_y : (e : ℕ) {w : Weight} → w ≡ entry e → to_z w16 (of_z w16 w.y) ≡ (entry e).y
local_y e q = ap (λ (w : Weight). to_z w16 (of_z w16 w.y)) q ∙ to_z-of_z (entry_fits e).1

pub loop-i-preserved : goal.loop-i-preserved
loop-i-preserved c =
    let xs = c.args.phases.now in
    let i = c.loop-i.i in
    let e = get_or xs i 0 % 512 in
    let w = c.weight_at-w.ensures in
    weight_stored xs c.args.out.now i c.loop-i-test.true (omega (arith, c.if-phases-out.true)) c.loop-i.invariant (local_x e w) (local_y e w)

pub returns-after-loop-i : goal.returns-after-loop-i
returns-after-loop-i c =
    let xs = c.args.phases.now in
    let long = length_looked_up xs in
    let all : c.loop-i.i ≡ length xs = le_antisymm c.loop-i.auto.i-end c.loop-i-test.false in
    rw (le-leb _ _ c.if-phases-out.true)
    (stored_all c.args.out.now (looked_up xs) (2 * length xs) (2 * c.loop-i.i) c.loop-i.invariant long (ap (λ (k : ℕ). 2 * k) all)
    ∙ ap (λ (k : ℕ). looked_up xs ++ drop k c.args.out.now) (sym long))
