-- The public function has one outcome on every input.
use Rattle.ground.specs.Unique.{Unique}
use Rattle.line.proofs.Forms.{reads_one}
use Rattle.line.proofs.read.Reads as read

pub read_unique : Unique read.Learnt
read_unique k a r r' e e' = reads_one _ r r'
