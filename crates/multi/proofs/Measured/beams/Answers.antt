-- B is in range, and so it is reduced.
use Rattle.multi.proofs.Columns.{base_is}
use Rattle.multi.proofs.Measured.beams.Goals as goal

pub returns : goal.returns
returns c = rw (base_is c.args.self.report c.requires, c.second_beam.ensures)
