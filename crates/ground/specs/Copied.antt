-- What a lent buffer holds after a copy.
use Rattle.std.specs.Prelude.{◌≡◌, Bool, ◌&&◌, List, ◌++◌, ℕ, leb, length, take, drop}
use Rattle.ground.specs.Cases.{◌⇒◌∣◌}

-- The first n of a list stand at the front of what was lent, where both have so many; otherwise all is as lent.
pub record Copied {A : Type 0} (from : List A) (n : ℕ) (lent : List A) (done : Bool) (left : List A) : Type 0 where
  pub fits : done ≡ (leb n (length from) && leb n (length lent))
  pub stands : left ≡ (done ⇒ take n from ++ drop n lent ∣ lent)
