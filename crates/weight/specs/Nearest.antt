-- That x is the whole number nearest to radius·cos t, said without a cosine. cos (3·2^k·t) is a polynomial in cos t, so
-- its sign where cos t is a fraction is exact. Where the sign changes between (x - 1/2)/radius and (x + 1/2)/radius, x is
-- nearest to radius·cos t for a zero t between them. The angle of an entry that is no whole sixth of a turn is a zero, for
-- the k that `doublings` gives. A quarter of a turn has as many zeros as entries of that k, and x falls strictly over it,
-- so each entry is nearest at its own angle; the other quarters repeat the first.
use Rattle.std.specs.Prelude.{cond, ℕ, zero, suc, ◌*◌, ◌%◌, eqb, ℤ, pos, ◌+ℤ◌, ◌-ℤ◌, ◌*ℤ◌, ◌<ℤ◌}
use Rattle.turn.specs.Phase.{quarter}
use Rattle.weight.specs.Table.{radius}

-- the numerator over d³ of cos 3t = 4·cos³ t - 3·cos t, where cos t is n / d
abbrev pub trebled : ℤ → ℤ → ℤ
trebled n d = pos 4 *ℤ (n *ℤ n *ℤ n) -ℤ pos 3 *ℤ (n *ℤ (d *ℤ d))

-- the numerator of cos (2^k·t), by cos 2t = 2·cos² t - 1, where cos t is n / d
abbrev pub doubled : ℕ → ℤ → ℤ → ℤ
doubled zero n d = n
doubled (suc k) n d = doubled k (pos 2 *ℤ (n *ℤ n) -ℤ d *ℤ d) (d *ℤ d)

-- the numerator of cos (3·2^k·t), where cos t is n / (2·radius)
abbrev pub wave : ℕ → ℤ → ℤ
wave k n = let d = pos (2 * radius) in doubled k (trebled n d) (d *ℤ d *ℤ d)

-- cos (3·2^k·t) has opposite signs half a step to either side of x
pub record Nearest (k : ℕ) (x : ℤ) : Type 0 where
  pub crosses : (wave k (pos 2 *ℤ x -ℤ pos 1) *ℤ wave k (pos 2 *ℤ x +ℤ pos 1)) <ℤ pos 0

-- how often the angle e is doubled, n times at most, until three times it is a whole number of quarters of a turn
abbrev pub doublings : ℕ → ℕ → ℕ
doublings zero e = zero
doublings (suc n) e = cond (eqb (3 * e % quarter) 0) zero (suc (doublings n (2 * e)))
