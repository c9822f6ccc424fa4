-- A refused record has the line of its number, and of any other the first line stands and then a line for each layer.
use Rattle.std.proofs.Common.{◌∙◌, ap, length, arith, length-append}
use Rattle.text.proofs.Words.{ended_long}
use Rattle.text.proofs.Lines.{refused_words}
use Rattle.text.proofs.Records.{text_accepted, text_refused}
use Rattle.text.proofs.compose.Goals as goal

pub number-requires : goal.number-requires
number-requires c =
    let a = c.args.a in
    let all = ap length (text_refused a c.args.phases.now c.if-a-ne0.true ∙ refused_words a.refusal) in
    rw (c.word.ensures, c.requires.fresh) (omega (arith, simp length-append at all, c.requires.room, ended_long a.refusal 0))

pub accepted-requires : goal.accepted-requires
accepted-requires c =
    let all = ap length (text_accepted c.args.a c.args.phases.now c.if-a-ne0.false) in
    rw c.requires.fresh (omega (arith, simp length-append at all, c.requires.room))

pub lines-requires-clause-room : goal.lines-requires-clause-room
lines-requires-clause-room c =
    let all = ap length (text_accepted c.args.a c.args.phases.now c.if-a-ne0.false) in
    rw (c.accepted.ensures, c.requires.fresh) (omega (arith, simp length-append at all, c.requires.room))

pub returns-then-a-ne0 : goal.returns-then-a-ne0
returns-then-a-ne0 c =
    rw (text_refused c.args.a c.args.phases.now c.if-a-ne0.true, refused_words, c.number.ensures, c.word.ensures, c.requires.fresh)

pub returns-else-a-ne0 : goal.returns-else-a-ne0
returns-else-a-ne0 c =
    rw (text_accepted c.args.a c.args.phases.now c.if-a-ne0.false, c.lines.ensures, c.accepted.ensures, c.requires.fresh)
