-- The beams are those of the moves, and two ports have none but (0,0).
use Rattle.std.proofs.Common.{◌≡◌, sym, true, false, ◌||◌, eqb, get_or, arith}
use borrow.Author.Tests.{eq-eqb, ne_eqb}
use Rattle.settings.specs.Ranges.{beam, k_rows}
use Rattle.report.specs.Beams.{is_half}
use Rattle.report.proofs.InRange.{i11_small, i12_small}
use Rattle.report.proofs.Steps.{k_small, row_cases, moved_small, moved_from_base}
use Rattle.report.proofs.Moves.{said_single, said_two}
use Rattle.report.proofs.Reached.{two_ports_said}
use Rattle.report.proofs.choice.Ranged.beams.Goals as goal
use Rattle.report.proofs.choice.Ranged.beams.Goals.{then-r-eq1-2-via-then-r-eq1-2, then-r-eq1-2-via-else-r-eq1-2+then-is_half}

pub returns-then-r-eq1 : goal.returns-then-r-eq1
returns-then-r-eq1 c = two_ports_said _ c.args.self.now.in_range c.if-r-eq1.true _ c.said.ensures

pub returns-then-r-eq1-2 : goal.returns-then-r-eq1-2
returns-then-r-eq1-2 c =
    let r = c.args.self.now.report in
    let alone : (eqb r.v 1 || is_half r) ≡ true = elim c.then-r-eq1-2.branch [
      | then-r-eq1-2-via-then-r-eq1-2 w ↦ rw (eq-eqb r.v 1 w.if-r-eq1-2.true)
      | then-r-eq1-2-via-else-r-eq1-2+then-is_half w ↦ rw (ne_eqb r.v 1 w.if-r-eq1-2.false) (sym w.if-is_half.ensures)
    ] in
    said_single _ _ c.base-a.ensures c.said-then-r-eq1-2.ensures alone (omega arith)

-- whichever of the report's numbers it is given, they are small
pub moved-b-requires : goal.moved-b-requires
moved-b-requires c =
    let w = c.args.self.now in
    let small = moved_small w.report w.in_range c.base-a.ensures in (
      record {
        l = omega (arith, small.l, i11_small w.report w.in_range);
        m = omega (arith, small.m, i12_small w.report w.in_range);
      },
      rw c.k_of.ensures (k_small _ _ _ _),
    )

pub returns : goal.returns
returns c =
    let r = c.args.self.now.report in
    let whole : is_half r ≡ false = sym c.if-is_half.ensures in
    let row : c.k_of.result ≡ get_or (k_rows r.n1 r.n2 r.v) r.i13 (beam 0 0) =
    rw (row_cases r c.if-r-eq1.false c.if-r-eq1-2.false whole (omega arith)) c.k_of.ensures in
    said_two _ _ c.base-a.ensures c.said-2.ensures c.if-r-eq1-2.false whole (omega arith)
    (moved_from_base _ c.moved-b.ensures c.base-a.ensures row)
