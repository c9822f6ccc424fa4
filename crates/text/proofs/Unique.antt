-- Each public function of the crate has one outcome on every input: any two that its contract admits are equal, the number
-- of bytes and every byte of the buffer.
use mathlib.Core.Path.{sym, ◌∙◌}
use Rattle.ground.specs.Unique.{Unique, UniqueLeft}
use Rattle.ground.proofs.Writes.{one_writing}
use Rattle.text.proofs.ending.Reads as ending
use Rattle.text.proofs.put.Reads as put
use Rattle.text.proofs.number.Reads as number
use Rattle.text.proofs.answer.Reads as answer
use Rattle.text.proofs.unreadable.Reads as unreadable

pub ending_unique : Unique ending.Learnt
ending_unique k a r r' e e' p q = p ∙ sym q

pub put_unique : UniqueLeft put.Learnt (λ k e. e.1.0.now)
put_unique k a r r' e e' = one_writing

pub number_unique : UniqueLeft number.Learnt (λ k e. e.1.1.0.now)
number_unique k a r r' e e' = one_writing

pub answer_unique : UniqueLeft answer.Learnt (λ k e. e.1.1.0.now)
answer_unique k a r r' e e' = one_writing

pub unreadable_unique : UniqueLeft unreadable.Learnt (λ k e. e.0.now)
unreadable_unique k a r r' e e' = one_writing
