-- The public function has one outcome on every input: any two that its contract admits are equal, the answer, the length
-- and every byte of the buffer.
use mathlib.Core.Path.{◌≡◌, sym, ◌∙◌}
use mathlib.Core.List.{List}
use Prim.Native.Nat.{ℕ}
use Rattle.std.specs.Prelude.{Option}
use Rattle.ground.specs.Unique.{UniqueLeft}
use Rattle.line.proofs.Forms.{reads_one}
use Rattle.printer.specs.declared.Printed.{Printed}
use Rattle.printer.specs.Prints.{Prints}
use Rattle.printer.proofs.print.Reads as print

one_print : {line lent left left' : List ℕ} {given given' : Option Printed} → Prints line lent given left
    → Prints line lent given' left' → (given ≡ given') × (left ≡ left')
one_print p q =
    let o = p.outcome in
    let o' = rw (reads_one _ q.reading p.reading q.reads p.reads) at q.outcome in
    (o.gives ∙ sym o'.gives, o.leaves ∙ sym o'.leaves)

pub print_unique : UniqueLeft print.Learnt (λ k e. e.1.0.now)
print_unique k a r r' e e' = one_print
