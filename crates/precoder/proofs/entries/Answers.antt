-- What is written of a judged report is its answer.
use mathlib.Core.Path.{sym, ◌∙◌}
use Rattle.render.proofs.Judged as judged
use Rattle.precoder.proofs.entries.Goals as goal

pub returns-in-Ok : goal.returns-in-Ok
returns-in-Ok g c =
    let b = g.R.Judge in
    judged.entries_answer b.codebook b.lawful b.drawing_of b.draws _ _ _ _ _
    (rw c.room.ensures at (sym c.judge.ensures ∙ c.in-Ok.is)) g.E.Entry.numbers_of c.entries.ensures
