-- The layers are written into a buffer of its own, and put from there.
use Rattle.std.proofs.Common.{◌≡◌, cond, leb, [], ◌≤◌, ◌<◌, List, ℕ, false, Some, length, take, refl, sym, ap, subst, ◌∙◌, arith}
use lib.ListN.{replicate, length-replicate}
use Rattle.ground.specs.Lists.{over, All}
use Rattle.turn.specs.Phase.{turn}
use Rattle.plan.specs.declared.Drawing.{Drawing}
use Rattle.plan.specs.Drawing.{drawable, layers_in, Written}
use Rattle.writer.proofs.Drawn.{no_number}
use Rattle.render.proofs.Written.{layers_below, front, none_fits, written_fitting}
use Rattle.render.proofs.within.Goals as goal

pub whole_as_slice-matrix : goal.whole_as_slice-matrix
whole_as_slice-matrix g c = omega (arith, c.requires)

-- so many entries stand in front, and they are the layers
stand : (os : List ℕ) (s : Drawing) (own : ℕ) {n : ℕ} {left : List ℕ} → Written os s (replicate own 0) (Some n) left
    → (n ≤ length left) × (take n left ≡ layers_in os s own)
stand os s own w =
    let f = front os s w in
    (f.0, f.1 ∙ ap (layers_in os s) (length-replicate own 0))

pub shared_whole_as_front-put : goal.shared_whole_as_front-put
shared_whole_as_front-put g c =
    let few = (stand c.args.offsets.now c.args.s g.row.OWN c.in-Some.ensures).0 in
    (omega (arith, few, c.matrix.auto.out, length-replicate {A = ℕ} g.row.OWN 0), omega (arith, c.requires))

pub returns-in-Some : goal.returns-in-Some
returns-in-Some g c =
    let a = c.args in
    let s = a.s in
    let os = a.offsets.now in
    let stands = (stand os s g.row.OWN c.in-Some.ensures).1 in
    let room = g.E.Entry.room_in (length a.out.now) in
    let front = take c.in-Some.n c.matrix.new.out in
    let below = subst (All (λ e. e < turn)) (sym stands) (layers_below os s g.row.OWN) in
    c.put.ensures
    ∙ ap (λ xs. over (cond (leb (length front) room) xs []) a.out.now) (g.met.E.Entry.phases_put front below)
    ∙ ap (λ xs. over xs a.out.now) (written_fitting g.E.Entry.numbers_of os s g.row.OWN room g.met.E.Entry.nothing stands)

pub returns-in_default : goal.returns-in_default
returns-in_default g c =
    let a = c.args in
    let long = length-replicate {A = ℕ} g.row.OWN 0 in
    let none = subst (λ (k : ℕ). drawable a.s k ≡ false) long (no_number _ _ c.in_default.ensures.many) in
    let room = g.E.Entry.room_in (length a.out.now) in
    rw (none_fits a.offsets.now a.s g.row.OWN room none, g.met.E.Entry.nothing) refl
