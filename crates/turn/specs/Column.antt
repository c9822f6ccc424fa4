-- Beams and columns, as lists of phases. Every layer of a precoder is a column: co-phases times a beam.
use Rattle.std.specs.Prelude.{◌≡◌, List, [], ◌∷◌, ◌++◌, map, ℕ, zero, suc, ◌+◌, ◌*◌, ◌/◌, ◌%◌}
use Rattle.turn.specs.Phase.{turn, phase}

-- 0, s, 2·s, .., (n - 1)·s
unfoldable pub steps : ℕ → ℕ → List ℕ
steps zero s = []
steps (suc n) s = steps n s ++ (n * s ∷ [])

-- each of xs plus each of ys, ys fastest: the phases of a Kronecker product
unfoldable pub product : List ℕ → List ℕ → List ℕ
product [] ys = []
product (x ∷ xs) ys = map (λ y. x + y) ys ++ product xs ys

-- n1 by n2 antennas, a·s + b·u at (a,b), b fastest
unfoldable pub grid : ℕ → ℕ → ℕ → ℕ → List ℕ
grid n1 s n2 u = product (steps n1 s) (steps n2 u)

-- a setting: N1 by N2 antennas of each polarisation, and N1·O1 by N2·O2 beams
pub record Setting : Type 0 where
  pub n1 : ℕ
  pub n2 : ℕ
  pub o1 : ℕ
  pub o2 : ℕ

-- the phase from one antenna to the next in a direction of n antennas and n·o beams, for beam l reduced
unfoldable pub step : ℕ → ℕ → ℕ → ℕ
step n o l = l % (n * o) * (turn / (n * o))

-- the beam (l,m): at (a,b) it has phase a·l·turn/(N1·O1) + b·m·turn/(N2·O2), with l and m reduced
unfoldable pub beam : Setting → ℕ → ℕ → List ℕ
beam c l m = grid c.n1 (step c.n1 c.o1 l) c.n2 (step c.n2 c.o2 m)

-- a column: to each block of ports its co-phase is added
unfoldable pub column : List ℕ → List ℕ → List ℕ
column co b = map phase (product co b)

-- a turn has a whole number of parts for each beam
pub record Divides (c : Setting) : Type 0 where
  pub rows : c.n1 * c.o1 * (turn / (c.n1 * c.o1)) ≡ turn
  pub columns : c.n2 * c.o2 * (turn / (c.n2 * c.o2)) ≡ turn
