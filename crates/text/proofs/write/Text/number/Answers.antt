-- The digits are those of the number, and the byte follows them.
use Rattle.std.proofs.Common.{◌∙◌, length, ap, arith, append_assoc, length-append}
use Rattle.text.proofs.Words.{formatted, ended_long}
use Rattle.text.proofs.write.Text.number.Goals as goal

pub word-requires : goal.word-requires
word-requires c =
    let digits = formatted c.args.n (omega arith) c.as_bytes.ensures.value c.format.ensures.text in
    omega (arith, ap length digits, ended_long c.args.n c.args.left)

pub word-requires-2 : goal.word-requires-2
word-requires-2 c =
    let digits = formatted c.args.n (omega arith) c.as_bytes.ensures.value c.format.ensures.text in
    rw c.word.ensures (simp length-append (omega (arith, ap length digits, ended_long c.args.n c.args.left)))

pub returns : goal.returns
returns c =
    let digits = formatted c.args.n (omega arith) c.as_bytes.ensures.value c.format.ensures.text in
    c.word-2.ensures ∙ rw (c.word.ensures, digits, c.ending.ensures) (simp append_assoc)
