-- What a call gives: the number and the place of each case of a fault, and what is found in each case of what is read.
use Rattle.std.specs.Prelude.{ℕ, Result, Ok, Err}
use Rattle.groups.specs.declared.Fault.{Fault}
use Rattle.groups.specs.declared.Fault.TheVariants.{Ends, Padded, Large}
use Rattle.groups.specs.declared.Numeral.{Numeral}
use Rattle.groups.specs.Number.{Found, value, fault}

abbrev pub number_of : Fault → ℕ
number_of (Ends p) = 1
number_of (Padded p) = 2
number_of (Large p) = 3

abbrev pub place_of : Fault → ℕ
place_of (Ends p) = p
place_of (Padded p) = p
place_of (Large p) = p

abbrev pub found_of : Result Numeral Fault → Found
found_of (Ok n) = value n.value n.next
found_of (Err f) = fault (number_of f) (place_of f)
