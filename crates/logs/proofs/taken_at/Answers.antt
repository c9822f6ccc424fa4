-- Past the log's length stands the end, and before it what is read there.
use Rattle.std.proofs.Common.{sym, ◌∙◌}
use Rattle.logs.proofs.Taking.{step_end, step_begins}
use Rattle.logs.proofs.taken_at.Goals as goal

pub returns-then-log-from : goal.returns-then-log-from
returns-then-log-from c = sym (step_end _ _ c.if-log-from.true)

pub returns-in-Ok : goal.returns-in-Ok
returns-in-Ok c = sym (step_begins _ _ c.if-log-from.false ∙ c.in-Ok.ensures c.args.from)

pub returns-in-Err : goal.returns-in-Err
returns-in-Err c = sym (step_begins _ _ c.if-log-from.false ∙ c.in-Err.ensures c.args.from)
