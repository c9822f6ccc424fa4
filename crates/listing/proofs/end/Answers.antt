-- The bytes that are copied are the word and a newline.
use Rattle.listing.proofs.Listed.{end_bytes}
use Rattle.listing.proofs.end.Goals as goal

pub returns : goal.returns
returns c = rw end_bytes c.put.ensures
