-- Phases: whole numbers of parts of a turn. Another resolution is another `turn`, and nothing else here.
use Rattle.std.specs.Prelude.{ℕ, ◌+◌, ◌-◌, ◌/◌, ◌%◌}

-- the parts of a full turn: three times a power of two
abbrev pub turn : ℕ
turn = 384

abbrev pub half : ℕ
half = turn / 2

abbrev pub third : ℕ
third = turn / 3

abbrev pub quarter : ℕ
quarter = turn / 4

abbrev pub sixth : ℕ
sixth = turn / 6

abbrev pub eighth : ℕ
eighth = turn / 8

abbrev pub twelfth : ℕ
twelfth = turn / 12

-- a whole number of parts as a phase: reduced modulo a turn
abbrev pub phase : ℕ → ℕ
phase x = x % turn

-- the difference of two phases, second minus first
unfoldable pub difference : ℕ → ℕ → ℕ
difference x y = phase (y + (turn - phase x))
