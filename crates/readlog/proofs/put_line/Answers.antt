-- A report ends within the part, behind its place, and its line within the buffer.
use Rattle.std.proofs.Common.{arith}
use Rattle.logs.proofs.Counted.{taken_report}
use Rattle.ground.proofs.Writes.{written_within}
use Rattle.readlog.proofs.put_line.Goals as goal

pub returns : goal.returns
returns c =
    let ends = taken_report _ _ c.taken_at-t.result c.taken_at-t.ensures _ c.in-Read.is in
    (omega (arith, c.unwrap_or.ensures, written_within _ c.numbers.ensures, c.numbers.auto.out), omega (arith, ends.0), ends.1)
