-- Eight numbers have five bytes each at most.
use Rattle.std.proofs.Common.{rules, arith, ◌^◌}
use Rattle.std.proofs.lemmas.Iterator.{YieldsList-from_slice}
use Rattle.std.proofs.lemmas.Iterator.Adapters.{fits_from_length, at_most_from_yields_List}
use Rattle.coding.proofs.bytes_of.Goals as goal

pub sum-requires-clause-fits : goal.sum-requires-clause-fits
sum-requires-clause-fits c =
    fits_from_length _ _ 8 (2 ^ 64) (at_most_from_yields_List (YieldsList-from_slice c.args.values cc) (omega arith))
    c.map.ensures.closure (omega arith) (λ x r q k. search rules)
