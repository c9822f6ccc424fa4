-- The text of an answer, and which records have one.
use Rattle.std.specs.Prelude.{Bool, ◌&&◌, List, [], ◌∷◌, ◌++◌, ℕ, zero, suc, ◌+◌, ◌*◌, eqb, leb, length, take}
use Rattle.ground.specs.Cases.{◌⇒◌∣◌}
use Rattle.ground.specs.Lists.{each}
use Rattle.plan.specs.declared.Record.{Record}
use Rattle.plan.specs.Plan.{layer_in}
use Rattle.text.specs.Words.{line_of, headed}

-- `ok`, P, v and the scale
unfoldable pub ok_text : Record → List ℕ
ok_text a = headed (111 ∷ 107 ∷ []) (a.ports ∷ a.layers ∷ a.scale ∷ [])

-- `refused` and the number
unfoldable pub refused_text : ℕ → List ℕ
refused_text k = headed (114 ∷ 101 ∷ 102 ∷ 117 ∷ 115 ∷ 101 ∷ 100 ∷ []) (k ∷ [])

-- `unreadable`
unfoldable pub unreadable_text : List ℕ
unreadable_text = headed (117 ∷ 110 ∷ 114 ∷ 101 ∷ 97 ∷ 100 ∷ 97 ∷ 98 ∷ 108 ∷ 101 ∷ []) []

-- a line for each of the first n layers of a list that has p entries to a layer
unfoldable pub lines_of : ℕ → ℕ → List ℕ → List ℕ
lines_of zero p xs = []
lines_of (suc n) p xs = lines_of n p xs ++ line_of (layer_in p n xs)

-- the text of a record and its phases
unfoldable pub record_text : Record → List ℕ → List ℕ
record_text a phases =
    eqb a.refusal 0 ⇒ ok_text a ++ lines_of a.layers a.ports phases
    ∣ refused_text a.refusal

-- no number has more than three digits
unfoldable pub three_digits : List ℕ → Bool
three_digits xs = each (λ x. leb x 999) xs

-- a record with the numbers of an answer: three digits, 8 layers of 32 ports at most, and phases of three digits for them
unfoldable pub printable : Record → List ℕ → Bool
printable a phases =
    leb a.refusal 999 && leb a.ports 32 && leb a.layers 8 && leb a.scale 999
    && leb (a.layers * a.ports) (length phases)
    && three_digits (take (a.layers * a.ports) phases)

-- no text is longer: `ok 32 8 256`, and 8 lines of 32 phases of three digits
abbrev pub longest : ℕ
longest = 12 + 8 * (32 * 4)
