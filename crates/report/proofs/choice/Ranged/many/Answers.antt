-- Its beams are those of the moves, whose steps N2 decides.
use Rattle.std.proofs.Common.{◌≡◌, refl, cond, arith}
use lib.Dec.{ltb}
use borrow.Author.Tests.{lt-ltb, le-ltb}
use Rattle.settings.specs.Ranges.{beam}
use Rattle.report.proofs.Steps.{is_small_lem, moved_small, moved_from_base}
use Rattle.report.proofs.Moves.{said_three, said_four}
use Rattle.report.proofs.choice.Ranged.many.Goals as goal
use Rattle.report.proofs.choice.Ranged.many.Goals.{then-wide, else-wide, then-wide-2, else-wide-2, then-wide-3, else-wide-3}

pub moved-b-requires : goal.moved-b-requires
moved-b-requires c = (moved_small _ c.args.self.now.in_range c.requires.0, is_small_lem (beam 1 0) tt)

pub moved-requires : goal.moved-requires
moved-requires c =
    let small = moved_small _ c.args.self.now.in_range c.requires.0 in
    elim c.if-wide.branch [
      | then-wide w ↦ (small, rw w.third-is (is_small_lem (beam 1 1) tt))
      | else-wide w ↦ (small, rw w.third-is (is_small_lem (beam 2 0) tt))
    ]

pub returns-then-self-le6 : goal.returns-then-self-le6
returns-then-self-le6 c =
    let n2 = c.args.self.now.report.n2 in
    let third : c.if-wide.third ≡ cond (ltb 1 n2) (beam 1 1) (beam 2 0) = elim c.if-wide.branch [
      | then-wide w ↦ rw (lt-ltb 1 n2 (omega arith)) w.third-is
      | else-wide w ↦ rw (le-ltb 1 n2 (omega arith)) w.third-is
    ] in
    said_three _ _ c.requires.0 (moved_from_base _ c.moved-b.ensures c.requires.0 refl) c.requires.1 c.said.ensures
    c.if-self-le6.true (moved_from_base _ c.moved.ensures c.requires.0 third)

pub moved-requires-2 : goal.moved-requires-2
moved-requires-2 c =
    let small = moved_small _ c.args.self.now.in_range c.requires.0 in
    elim c.if-wide-2.branch [
      | then-wide-2 w ↦ (small, rw w.third-is (is_small_lem (beam 0 1) tt))
      | else-wide-2 w ↦ (small, rw w.third-is (is_small_lem (beam 2 0) tt))
    ]

pub moved-requires-3 : goal.moved-requires-3
moved-requires-3 c =
    let small = moved_small _ c.args.self.now.in_range c.requires.0 in
    elim c.if-wide-3.branch [
      | then-wide-3 w ↦ (small, rw w.fourth-is (is_small_lem (beam 1 1) tt))
      | else-wide-3 w ↦ (small, rw w.fourth-is (is_small_lem (beam 3 0) tt))
    ]

pub returns : goal.returns
returns c =
    let n2 = c.args.self.now.report.n2 in
    let third : c.if-wide-2.third ≡ cond (ltb 1 n2) (beam 0 1) (beam 2 0) = elim c.if-wide-2.branch [
      | then-wide-2 w ↦ rw (lt-ltb 1 n2 (omega arith)) w.third-is
      | else-wide-2 w ↦ rw (le-ltb 1 n2 (omega arith)) w.third-is
    ] in
    let fourth : c.if-wide-3.fourth ≡ cond (ltb 1 n2) (beam 1 1) (beam 3 0) = elim c.if-wide-3.branch [
      | then-wide-3 w ↦ rw (lt-ltb 1 n2 (omega arith)) w.fourth-is
      | else-wide-3 w ↦ rw (le-ltb 1 n2 (omega arith)) w.fourth-is
    ] in
    said_four _ _ c.requires.0 (moved_from_base _ c.moved-b.ensures c.requires.0 refl) c.requires.1 c.said-2.ensures
    c.if-self-le6.false (moved_from_base _ c.moved-2.ensures c.requires.0 third)
    (moved_from_base _ c.moved-3.ensures c.requires.0 fourth)
