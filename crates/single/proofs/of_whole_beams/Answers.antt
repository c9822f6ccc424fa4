-- A rank above seven has the columns of eight.
use Rattle.std.proofs.Common.{◌≡◌, ℕ, ◌-◌, ◌≤◌, List, ap, arith, ltb}
use lib.ListN.{get_or-eq_default}
use borrow.Author.Tests.{ltb-true, ltb-false}
use Rattle.ground.specs.Lists.{places}
use Rattle.ground.proofs.Booleans.{either}
use Rattle.turn.specs.declared.Beam.{Beam}
use Rattle.single.specs.Columns.{by_rank}
use Rattle.single.specs.Drawing.{ranked, codes_of, whole_lineup}
use Rattle.single.proofs.of_whole_beams.Goals as goal

eight_or_more : (v : ℕ) → 8 ≤ v → ranked v ≡ ranked 8
unfolding ranked by_rank
eight_or_more v h =
    either (ltb 8 v) (λ t. let more = ltb-true 8 v t in get_or-eq_default by_rank _ {n = v - 1} (omega arith))
    (λ f. let e : v ≡ 8 = (let few = ltb-false 8 v f in omega arith) in ap ranked e)

by_columns : (v n : ℕ) (xs : List Beam) → ranked v ≡ ranked n → whole_lineup n xs ≡ whole_lineup v xs
unfolding codes_of
by_columns v n xs e = rw e

pub returns-in_default : goal.returns-in_default
unfolding codes_of ranked places by_rank
returns-in_default c = by_columns c.args.v 8 c.args.beams (eight_or_more c.args.v (omega arith))
