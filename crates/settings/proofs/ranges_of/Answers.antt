-- Where no test turned the mode or the rank away, the values are those of the rank.
use Rattle.std.proofs.Common.{arith}
use Rattle.std.proofs.lemmas.Bool.Decides.{nat_tests}
use borrow.Author.Tests.{le-leb, lt-leb}
use Rattle.settings.proofs.ByRank.{by_rank, ranked_told}
use Rattle.settings.proofs.ranges_of.Goals as goal

pub returns-in-0-to-2 : goal.returns-in-0-to-2
unfolding by_rank
returns-in-0-to-2 c =
    ranked_told c.args.n1 c.args.n2 c.args.mode c.args.v c.in-Some.ensures (grind (arith, nat_tests)) (grind (arith, nat_tests)) (rw (c.one_or_two.ensures, le-leb c.args.v 2 (omega arith)))

pub returns-in-0-to-4 : goal.returns-in-0-to-4
unfolding by_rank
returns-in-0-to-4 c =
    ranked_told c.args.n1 c.args.n2 c.args.mode c.args.v c.in-Some.ensures (grind (arith, nat_tests)) (grind (arith, nat_tests)) (rw (c.three_or_four.ensures, lt-leb c.args.v 2 (omega arith), le-leb c.args.v 4 (omega arith)))

pub returns-in-0-to-6 : goal.returns-in-0-to-6
unfolding by_rank
returns-in-0-to-6 c =
    ranked_told c.args.n1 c.args.n2 c.args.mode c.args.v c.in-Some.ensures (grind (arith, nat_tests)) (grind (arith, nat_tests)) (rw (c.plain.ensures, lt-leb c.args.v 2 (omega arith), lt-leb c.args.v 4 (omega arith), le-leb c.args.v 6 (omega arith)))

pub returns-in_default-v : goal.returns-in_default-v
unfolding by_rank
returns-in_default-v c =
    ranked_told c.args.n1 c.args.n2 c.args.mode c.args.v c.in-Some.ensures (grind (arith, nat_tests)) (grind (arith, nat_tests)) (rw (c.seven_or_eight.ensures, lt-leb c.args.v 2 (omega arith), lt-leb c.args.v 4 (omega arith), lt-leb c.args.v 6 (omega arith)))
