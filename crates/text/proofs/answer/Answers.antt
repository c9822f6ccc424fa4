-- What is printable has room.
use Rattle.std.proofs.Common.{sym}
use Rattle.ground.proofs.Writes.{writes_nothing}
use Rattle.text.proofs.Records.{phases_many, printable_few}
use Rattle.text.proofs.answer.Goals as goal

pub returns-then-not-is_printable : goal.returns-then-not-is_printable
returns-then-not-is_printable c = rw (← c.if-not-is_printable.ensures) (writes_nothing _ _)

pub compose-requires-clause-many : goal.compose-requires-clause-many
compose-requires-clause-many c = phases_many _ _ (sym c.if-not-is_printable.ensures)

pub compose-requires-clause-room : goal.compose-requires-clause-room
compose-requires-clause-room c = printable_few _ _ (sym c.if-not-is_printable.ensures)
