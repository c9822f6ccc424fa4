-- One layer asks for the bit of B alone.
use mathlib.Core.Path.{refl, ◌∙◌}
use borrow.Author.Tests.{eq-eqb, ne_eqb}
use Rattle.panels.proofs.Asked.{asks}
use Rattle.panels.proofs.ranged.Ranged.needs.Goals as goal
use Rattle.panels.proofs.ranged.Ranged.needs.Goals.{then-self-eq1, else-self-eq1}

pub returns : goal.returns
returns c =
    let x = c.args.self in
    let both = c.requires ∙ x.beams in
    asks x.r x.sizes x.in_range _ refl refl refl refl
    (elim c.if-self-eq1.branch [
      | then-self-eq1 w ↦ rw (w.result-is, both, eq-eqb x.r.v 1 w.if-self-eq1.true)
      | else-self-eq1 w ↦ rw (w.result-is, both, ne_eqb x.r.v 1 w.if-self-eq1.false)
    ])
    c.ports.ensures c.entries.ensures
