-- The public function has one outcome on every input: any two that its contract admits are equal, what is given and every byte
-- of the buffer.
use Rattle.ground.specs.Unique.{UniqueLeft}
use Rattle.coding.proofs.Placed.{one_placing}
use Rattle.coding.proofs.write.Reads as write

pub write_unique : UniqueLeft write.Learnt (λ k e. e.1.0.now)
write_unique k a r r' e e' = one_placing
