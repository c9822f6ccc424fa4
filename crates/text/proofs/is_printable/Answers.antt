-- The tests are those of the definition, in their order.
use Rattle.std.proofs.Common.{◌≡◌, ◌<◌, ℕ, List, false, arith}
use borrow.Author.Tests.{le-leb, lt-leb}
use Rattle.ground.proofs.Booleans.{and_nothing}
use Rattle.plan.specs.declared.Record.{Record}
use Rattle.text.specs.Text.{printable}
use Rattle.text.proofs.Digits.{short_tested}
use Rattle.text.proofs.is_printable.Goals as goal
use Rattle.text.proofs.is_printable.Goals.{then-a-gt999-via-then-a-gt999, then-a-gt999-via-else-a-gt999+then-a-gt-MOST_PORTS, then-a-gt999-via-else-a-gt999+else-a-gt-MOST_PORTS+then-a-gt-MOST_LAYERS, then-a-gt999-via-else-a-gt999+else-a-gt-MOST_PORTS+else-a-gt-MOST_LAYERS+then-a-gt999-2}

module _ (a : Record) (phases : List ℕ) where
  refusal : 999 < a.refusal → false ≡ printable a phases
  unfolding printable
  refusal h = rw (lt-leb a.refusal 999 h)

  ports : 32 < a.ports → false ≡ printable a phases
  unfolding printable
  ports h = rw (lt-leb a.ports 32 h, and_nothing _)

  layers : 8 < a.layers → false ≡ printable a phases
  unfolding printable
  layers h = rw (lt-leb a.layers 8 h, and_nothing _)

  scale : 999 < a.scale → false ≡ printable a phases
  unfolding printable
  scale h = rw (lt-leb a.scale 999 h, and_nothing _)

pub returns-then-n-phases : goal.returns-then-n-phases
unfolding printable
returns-then-n-phases c =
    rw (
      ← short_tested,
      le-leb _ 999 c.if-a-gt999.false,
      le-leb _ 32 c.if-a-gt-MOST_PORTS.false,
      le-leb _ 8 c.if-a-gt-MOST_LAYERS.false,
      le-leb _ 999 c.if-a-gt999-2.false,
      le-leb _ _ c.if-n-phases.true,
    )
    c.are_short.ensures

pub returns-else-n-phases : goal.returns-else-n-phases
unfolding printable
returns-else-n-phases c =
    rw (lt-leb _ _ c.if-n-phases.false, and_nothing _)

pub returns-then-a-gt999 : goal.returns-then-a-gt999
returns-then-a-gt999 c =
    elim c.then-a-gt999.branch [
      | then-a-gt999-via-then-a-gt999 w ↦ refusal _ _ w.if-a-gt999.true
      | then-a-gt999-via-else-a-gt999+then-a-gt-MOST_PORTS w ↦ ports _ _ (omega (arith, w.if-a-gt-MOST_PORTS.true))
      | then-a-gt999-via-else-a-gt999+else-a-gt-MOST_PORTS+then-a-gt-MOST_LAYERS w ↦ layers _ _ w.if-a-gt-MOST_LAYERS.true
      | then-a-gt999-via-else-a-gt999+else-a-gt-MOST_PORTS+else-a-gt-MOST_LAYERS+then-a-gt999-2 w ↦ scale _ _ w.if-a-gt999-2.true
    ]
