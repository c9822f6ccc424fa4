-- The word stands, and each number is written after what stands.
use Rattle.std.proofs.Common.{◌≡◌, ◌+◌, length, arith, append_assoc, length-append}
use Rattle.plan.specs.declared.Record.{Record}
use Rattle.text.specs.Words.{decimal}
use Rattle.text.specs.Text.{ok_text}
use Rattle.text.proofs.Lines.{ok_words, ok_long}
use Rattle.text.proofs.Words.{ended_long}
use Rattle.text.proofs.write.Text.accepted.Goals as goal

-- the word, and each number with the byte after it
ok_digits : (a : Record) → length (ok_text a) ≡ 6 + length (decimal a.ports) + length (decimal a.layers) + length (decimal a.scale)
ok_digits a = omega (arith, ok_long a, ended_long a.ports 2, ended_long a.layers 1, ended_long a.scale 0)

pub word-requires : goal.word-requires
word-requires c = omega (arith, ok_digits c.args.a)

pub number-requires : goal.number-requires
number-requires c = rw c.word.ensures (simp length-append (omega (arith, ok_digits c.args.a)))

pub number-requires-2 : goal.number-requires-2
number-requires-2 c =
    rw (c.number.ensures, c.word.ensures) (simp length-append (omega (arith, ok_digits c.args.a)))

pub number-requires-3 : goal.number-requires-3
number-requires-3 c =
    rw (c.number-2.ensures, c.number.ensures, c.word.ensures) (simp length-append (omega (arith, ok_digits c.args.a)))

pub returns : goal.returns
returns c =
    rw (ok_words, c.number-3.ensures, c.number-2.ensures, c.number.ensures, c.word.ensures) (simp append_assoc)
