-- A beam of a drawing is that of a setting, where its step holds the setting's two in one number; and nine bits hold what
-- is read of a drawing.
use mathlib.Core.Path.{◌≡◌}
use Prim.Native.Nat.{ℕ, ◌+◌, ◌*◌, ◌/◌, ◌%◌, ◌<◌}
use native.Mathlib.Nat.{mod-eq_of_lt, mul-le-mul_right}
use native.Mathlib.Omega.{arith}
use lib.ListN.{get_or}
use Rattle.turn.specs.Phase.{turn, phase}
use Rattle.turn.specs.Column.{Setting, Divides, step, beam}
use Rattle.turn.proofs.Steps.{right_pos}
use Rattle.plan.specs.declared.Drawing.{Drawing}
use Rattle.plan.specs.Drawing.{step_x, step_y, beam_at}

-- a step of one of n beams is below a turn
below : (a n : ℕ) → n * (turn / n) ≡ turn → a < n → a * (turn / n) < turn
below a n e h = omega (arith, mul-le-mul_right (turn / n) h, right_pos n (turn / n) e)

-- nine bits hold a phase
pub nine_bits : (x : ℕ) → phase x % 512 ≡ phase x
nine_bits x = omega arith

step_x_lem : (x y : ℕ) → x < turn → step_x (x + 512 * y) ≡ x
step_x_lem x y h = omega arith

step_y_lem : (x y : ℕ) → x < turn → y < turn → step_y (x + 512 * y) ≡ y
step_y_lem x y h k = omega arith

pub beam_drawn : (s : Drawing) (c : Setting) → Divides c → (i l m : ℕ) → l < c.n1 * c.o1 → m < c.n2 * c.o2
    → s.rows ≡ c.n1 → s.columns ≡ c.n2
    → get_or s.steps i 0 ≡ l * (turn / (c.n1 * c.o1)) + 512 * (m * (turn / (c.n2 * c.o2)))
    → beam_at s i ≡ beam c l m
unfolding beam_at beam step
beam_drawn s c whole i l m hl hm rows columns e =
    let x = below l (c.n1 * c.o1) whole.rows hl in
    let y = below m (c.n2 * c.o2) whole.columns hm in
    rw (rows, columns, e, step_x_lem _ _ x, step_y_lem _ _ x y, mod-eq_of_lt hl, mod-eq_of_lt hm)
