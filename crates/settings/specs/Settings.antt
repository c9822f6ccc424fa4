-- The settings (N1,N2), and what follows from one: ports, oversampling, beams in each direction, bytes of the beam mask.
use Rattle.std.specs.Prelude.{Bool, ◌&&◌, List, [], ◌∷◌, ℕ, ◌*◌, ◌/◌, eqb, ltb}
use Rattle.ground.specs.Cases.{◌⇒◌∣◌}
use Rattle.ground.specs.Lists.{some}
use Rattle.settings.specs.declared.Sizes.{Sizes}

-- in order of their ports: 2, 4, 8, 12, 16, 24, 32
unfoldable pub settings : List (ℕ × ℕ)
settings =
    (1, 1) ∷ (2, 1)
    ∷ (2, 2) ∷ (4, 1)
    ∷ (3, 2) ∷ (6, 1)
    ∷ (4, 2) ∷ (8, 1)
    ∷ (4, 3) ∷ (6, 2) ∷ (12, 1)
    ∷ (4, 4) ∷ (8, 2) ∷ (16, 1) ∷ []

unfoldable pub is_setting : ℕ → ℕ → Bool
is_setting n1 n2 = some (λ s. eqb n1 s.0 && eqb n2 s.1) settings

-- P
abbrev pub ports : ℕ → ℕ → ℕ
ports n1 n2 = 2 * (n1 * n2)

-- (1,1), the two-port codebook, is the one setting with N1 = 1
abbrev pub two_ports : ℕ → Bool
two_ports n1 = eqb n1 1

-- O1 is 4 above two ports, which have one beam
abbrev pub o1 : ℕ → ℕ
o1 n1 = two_ports n1 ⇒ 1 ∣ 4

-- O2 is 4 if N2 > 1, else 1
abbrev pub o2 : ℕ → ℕ
o2 n2 = ltb 1 n2 ⇒ 4 ∣ 1

-- N1·O1 and N2·O2: the beams in each direction
abbrev pub across : ℕ → ℕ
across n1 = n1 * o1 n1

abbrev pub down : ℕ → ℕ
down n2 = n2 * o2 n2

-- a bit for each beam, and one byte for two ports
unfoldable pub mask_bytes : ℕ → ℕ → ℕ
mask_bytes n1 n2 = two_ports n1 ⇒ 1 ∣ across n1 * down n2 / 8

-- all of these, and zeros for a pair that is no setting
abbrev pub sizes_of : ℕ → ℕ → Sizes
sizes_of n1 n2 =
    is_setting n1 n2
    ⇒ record { ports = ports n1 n2; across = across n1; down = down n2; bytes = mask_bytes n1 n2 }
    ∣ record { ports = 0; across = 0; down = 0; bytes = 0 }
