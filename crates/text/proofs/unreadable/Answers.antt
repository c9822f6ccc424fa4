-- The bytes that are copied are the word and a newline.
use Rattle.text.proofs.Lines.{unreadable_bytes}
use Rattle.text.proofs.unreadable.Goals as goal

pub returns : goal.returns
returns c = rw unreadable_bytes c.put.ensures
