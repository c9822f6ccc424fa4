-- What is copied is what is given.
use Rattle.ground.proofs.Writes.{writes_copy}
use Rattle.text.proofs.put.Goals as goal

pub returns-then-copy : goal.returns-then-copy
returns-then-copy c = rw c.if-copy.true at (writes_copy _ _ c.copy.ensures)

pub returns-else-copy : goal.returns-else-copy
returns-else-copy c = rw c.if-copy.false at (writes_copy _ _ c.copy.ensures)
