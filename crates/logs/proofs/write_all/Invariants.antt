-- Each turn has one report more standing.
use Rattle.logs.proofs.Several.{Standing}
use Rattle.logs.proofs.write_all.Given as goal

abbrev pub invariant-loop-reports : goal.invariant-loop-reports
invariant-loop-reports l = Standing l.numbers l.from l.fn.out l.reports l.next l.out
