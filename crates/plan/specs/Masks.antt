-- Masks: a bit of one, whether some bit of a list is zero, and the three bits of a half-length beam.
use Rattle.std.specs.Prelude.{Bool, List, [], ◌∷◌, ℕ, ◌+◌, ◌-◌, ◌*◌, ◌/◌, ◌%◌, ◌^◌, eqb, get_or}
use Rattle.ground.specs.Lists.{some}

-- bit k of a byte: the bit of value 2 to the power k
abbrev pub bit_of : ℕ → ℕ → ℕ
bit_of byte k = byte / 2 ^ k % 2

-- bit k of a mask is bit k mod 8 of byte k / 8
unfoldable pub bit : List ℕ → ℕ → ℕ
bit mask k = bit_of (get_or mask (k / 8) 0) (k % 8)

unfoldable pub is_zero : List ℕ → ℕ → Bool
is_zero mask k = eqb (bit mask k) 0

-- one zero bit among those that are read bars
unfoldable pub barred : List ℕ → List ℕ → Bool
barred mask bits = some (is_zero mask) bits

-- bit v - 1 of the rank mask is zero
unfoldable pub rank_barred : ℕ → ℕ → Bool
rank_barred ranks v = eqb (bit_of ranks (v - 1)) 0

-- the three bits of a half-length beam that stands in a plan as (l,m), in a mask of so many l and so many bits for each:
-- those of (l - 1, m), (l, m) and (l + 1, m), l modulo the number of all l
unfoldable pub three_bits : ℕ → ℕ → ℕ → ℕ → List ℕ
three_bits across width l m =
    let at : ℕ → ℕ = λ k. width * (k % across) + m in
    at (l + across - 1) ∷ at l ∷ at (l + 1) ∷ []
