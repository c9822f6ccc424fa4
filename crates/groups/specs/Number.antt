-- A number: groups of seven bits, lowest group first, the top bit of a byte set when another follows; shortest form only,
-- at most 32 bits.
use Rattle.std.specs.Prelude.{Bool, ◌&&◌, List, [], ◌∷◌, ℕ, zero, suc, ◌+◌, ◌*◌, ◌/◌, ◌%◌, ◌^◌, eqb, ltb, drop}
use Rattle.ground.specs.Cases.{◌⇒◌∣◌}

-- ---- as it is written

-- a number in at most k bytes
unfoldable pub code_in : ℕ → ℕ → List ℕ
code_in zero n = []
code_in (suc k) n = ltb n 128 ⇒ n ∷ [] ∣ (128 + n % 128) ∷ code_in k (n / 128)

-- 32 bits are five groups
abbrev pub code : ℕ → List ℕ
code n = code_in 5 n

-- ---- as it is read

-- what is found: a number and the place after it, or a fault by its number and its place
pub data Found : Type 0 where
  value : ℕ → ℕ → Found
  fault : ℕ → ℕ → Found

-- a byte after i others of its number: the last of several, and zero
unfoldable pub is_padded : ℕ → ℕ → Bool
is_padded i b = ltb 0 i && eqb b 0

-- the fifth, and above 15
unfoldable pub is_large : ℕ → ℕ → Bool
is_large i b = eqb i 4 && ltb 15 b

-- where `bs` stands at the place `at`, after i bytes of the number, which stand for n
unfoldable pub scan : ℕ → ℕ → ℕ → List ℕ → Found
scan i n at [] = fault 1 at
scan i n at (b ∷ bs) =
    is_padded i b ⇒ fault 2 at
    ∣ is_large i b ⇒ fault 3 at
    ∣ ltb b 128 ⇒ value (n + b % 128 * 128 ^ i) (at + 1)
    ∣ scan (i + 1) (n + b % 128 * 128 ^ i) (at + 1) bs

-- the number at a place of a list of bytes
abbrev pub number_at : List ℕ → ℕ → Found
number_at bytes at = scan 0 0 at (drop at bytes)
