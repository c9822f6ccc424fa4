-- Layer j of a list that has p entries to a layer, with more after the list.
use mathlib.Core.Path.{◌≡◌, ap, ◌∙◌}
use mathlib.Core.List.{List, ◌++◌}
use Prim.Native.Nat.{ℕ, ◌*◌, ◌<◌}
use native.Mathlib.Nat.{mul-le-mul_right}
use native.Mathlib.Omega.{arith}
use lib.ListN.{length, take, drop, length-drop}
use lib.Seq.{drop-append-le, take-append-le}
use Rattle.plan.specs.Plan.{layer_in}

-- one of the v layers of xs
pub layer_before : {A : Type 0} (p v j : ℕ) (xs ys : List A) → j < v → length xs ≡ v * p
    → layer_in p j (xs ++ ys) ≡ layer_in p j xs
layer_before p v j xs ys h e =
    ap (take p) (drop-append-le (j * p) xs ys (omega (arith, mul-le-mul_right p h)))
    ∙ take-append-le p (drop (j * p) xs) ys (rw length-drop (omega (arith, mul-le-mul_right p h)))
