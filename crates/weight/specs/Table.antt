-- The table of weights: a pair of whole numbers for each phase, from the cosines of its first quarter.
use mathlib.Core.List.{List, [], ◌∷◌, ◌++◌, map, reverse, zip_with}
use Rattle.std.specs.Prelude.{ℕ, ◌-◌, ℤ, pos, neg_ℤ, get_or, take, drop}
use Rattle.turn.specs.Phase.{turn, quarter, phase}
use Rattle.weight.specs.declared.Weight.{Weight}

-- the weight of phase 0, and the length that every weight is near
abbrev pub radius : ℕ
radius = 16384

-- the whole numbers nearest to radius·cos of e/turn, for e from 0 to a quarter of a turn
unfoldable pub first_quarter : List ℕ
first_quarter =
    16384 ∷ 16382 ∷ 16375 ∷ 16364 ∷ 16349 ∷ 16329 ∷ 16305 ∷ 16277 ∷ 16244 ∷ 16207 ∷ 16165 ∷ 16119
    ∷ 16069 ∷ 16015 ∷ 15956 ∷ 15893 ∷ 15826 ∷ 15754 ∷ 15679 ∷ 15599 ∷ 15515 ∷ 15426 ∷ 15334 ∷ 15237
    ∷ 15137 ∷ 15032 ∷ 14924 ∷ 14811 ∷ 14694 ∷ 14574 ∷ 14449 ∷ 14321 ∷ 14189 ∷ 14053 ∷ 13913 ∷ 13770
    ∷ 13623 ∷ 13472 ∷ 13318 ∷ 13160 ∷ 12998 ∷ 12833 ∷ 12665 ∷ 12493 ∷ 12318 ∷ 12140 ∷ 11958 ∷ 11773
    ∷ 11585 ∷ 11394 ∷ 11200 ∷ 11003 ∷ 10803 ∷ 10600 ∷ 10394 ∷ 10185 ∷ 9974 ∷ 9760 ∷ 9543 ∷ 9324
    ∷ 9102 ∷ 8878 ∷ 8652 ∷ 8423 ∷ 8192 ∷ 7959 ∷ 7723 ∷ 7486 ∷ 7246 ∷ 7005 ∷ 6762 ∷ 6517
    ∷ 6270 ∷ 6021 ∷ 5771 ∷ 5520 ∷ 5266 ∷ 5012 ∷ 4756 ∷ 4499 ∷ 4240 ∷ 3981 ∷ 3720 ∷ 3459
    ∷ 3196 ∷ 2933 ∷ 2669 ∷ 2404 ∷ 2139 ∷ 1872 ∷ 1606 ∷ 1339 ∷ 1072 ∷ 804 ∷ 536 ∷ 268
    ∷ 0 ∷ []

-- x over half a turn: past the quarter the same values come back, below zero
unfoldable pub first_half : List ℤ
first_half = map pos (take quarter first_quarter) ++ map (λ (n : ℕ). neg_ℤ (pos n)) (reverse (drop 1 first_quarter))

-- x: half a turn on, each value is the opposite
unfoldable pub xs : List ℤ
xs = first_half ++ map neg_ℤ first_half

-- y at e is x at e less a quarter
unfoldable pub ys : List ℤ
ys = drop (turn - quarter) xs ++ take (turn - quarter) xs

-- the pairs, a weight for each phase from 0 on
unfoldable pub table : List Weight
table = zip_with (λ (x y : ℤ). record { x = x; y = y }) xs ys

-- past the end of a list
abbrev pub no_weight : Weight
no_weight = record { x = pos 0; y = pos 0 }

-- the pair at a place of the table; past its end there is none
abbrev pub entry : ℕ → Weight
entry e = get_or table e no_weight

-- the weight of a phase
unfoldable pub weight : ℕ → Weight
weight e = entry (phase e)

-- weights as they are stored: x, then y, of each
unfoldable pub numbers : List Weight → List ℤ
numbers [] = []
numbers (w ∷ ws) = w.x ∷ w.y ∷ numbers ws

-- such numbers, read as weights
unfoldable pub pairs : List ℤ → List Weight
pairs [] = []
pairs (x ∷ []) = []
pairs (x ∷ y ∷ ns) = record { x = x; y = y } ∷ pairs ns
