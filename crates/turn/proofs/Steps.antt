-- In one direction of n antennas and n·o beams: the steps of two beams that lie whole multiples of the oversampling o
-- apart.
use mathlib.Core.Path.{◌≡◌, sym, ap, ◌∙◌, subst}
use mathlib.Core.Logic.{◌≢◌}
use Prim.Native.Nat.{ℕ, zero, suc, ◌+◌, ◌-◌, ◌*◌, ◌/◌, ◌%◌, ◌<◌}
use native.Mathlib.Nat.{zero-add, mod-mod, mod-lt, div-add-mod, mod-add-mod, add-mod_right, mul-lt-mul_of_pos_right}
use native.Mathlib.Nat.{div-eq_of_eq-mul_right, dvd_of_mod-eq-zero, dvd-mul_left_of_dvd, mod-eq-zero_of_dvd}
use native.Mathlib.Nat.{dvd_of_mul-dvd-mul_right}
use native.Mathlib.Omega.{arith}
use lib.Arith.{digits_mod}
use Rattle.turn.specs.Phase.{turn, phase}
use Rattle.turn.specs.Column.{step}

-- a multiple of a multiple
pub mul_multiple : (a w m : ℕ) → w % m ≡ 0 → a * w % m ≡ 0
mul_multiple a w m h = mod-eq-zero_of_dvd m (dvd-mul_left_of_dvd m (dvd_of_mod-eq-zero m h) a)

-- the factors of a turn are not 0
pub left_pos : (a b : ℕ) → a * b ≡ turn → 0 < a
left_pos zero b e = absurd (omega arith)
left_pos (suc a) b e = omega arith

pub right_pos : (a b : ℕ) → a * b ≡ turn → 0 < b
right_pos a b e = left_pos b a (omega arith)

module _ (n o : ℕ) (whole : n * o * (turn / (n * o)) ≡ turn) where
  -- the step of beam 1
  abbrev unit : ℕ
  unit = turn / (n * o)

  n_pos : 0 < n
  n_pos = left_pos n (o * unit) (omega arith)

  -- reducing l changes no phase
  pub step_reduced : (l : ℕ) → step n o l ≡ phase (l * unit)
  unfolding step
  step_reduced l =
      let w = n * o in
      let less = mul-lt-mul_of_pos_right (mod-lt l (left_pos w unit whole)) (right_pos w unit whole) in
      sym (digits_mod (l / w) {m = turn} (omega (arith, less)))
      ∙ ap phase (omega (arith, ap (λ (x : ℕ). x * unit) (div-add-mod l w), ap (λ (x : ℕ). l / w * x) whole))

  -- how much longer the step of the beam k·o on is than that of the beam j·o on
  pub gap : ℕ → ℕ → ℕ
  gap j k = (k + (n - j % n)) * (o * unit)

  rest : (j : ℕ) → n - j % n + j % n ≡ n
  rest j = omega (arith, mod-lt j n_pos)

  pub step_gap : (l j k : ℕ) → phase (step n o (l + k * o)) ≡ phase (step n o (l + j * o) + gap j k)
  unfolding gap
  step_gap l j k =
      rw (step_reduced (l + k * o), step_reduced (l + j * o))
      (turns_apart _ _ _ (j / n + 1) (go unit (j / n) (j % n) (n - j % n) whole (div-add-mod j n) (rest j)))
    where
      turns_apart : (x y z q : ℕ) → y + z ≡ x + turn * q → phase (phase x) ≡ phase (phase y + z)
      turns_apart x y z q e = omega arith

      go : (u q r t : ℕ) → n * o * u ≡ turn → n * q + r ≡ j → t + r ≡ n
          → (l + j * o) * u + (k + t) * (o * u) ≡ (l + k * o) * u + turn * (q + 1)
      go u q r t w e e' =
          omega (arith, ap (λ (x : ℕ). x * (o * u)) e, ap (λ (x : ℕ). x * (o * u)) e', ap (λ (x : ℕ). q * x) w)

  -- n gaps come round
  pub gap_round : (j k : ℕ) → phase (n * gap j k) ≡ 0
  unfolding gap
  gap_round j k = go unit (k + (n - j % n)) whole
    where
      go : (u t : ℕ) → n * o * u ≡ turn → phase (n * (t * (o * u))) ≡ 0
      go u t w = omega (arith, ap (λ (x : ℕ). t * x) w)

  -- a gap is no whole turn unless j and k lead to one beam
  pub gap_some : (j k : ℕ) → j % n ≢ k % n → phase (gap j k) ≢ 0
  unfolding gap
  gap_some j k ne e =
      ne
      (sym (mod-mod j n)
      ∙ ap (λ (x : ℕ). x % n) (sym (zero-add (j % n)) ∙ ap (λ (x : ℕ). x + j % n) (sym none))
      ∙ mod-add-mod (k + (n - j % n)) n (j % n)
      ∙ ap (λ (x : ℕ). x % n) (omega (arith, rest j))
      ∙ add-mod_right k n)
    where
      none : (k + (n - j % n)) % n ≡ 0
      none =
          mod-eq-zero_of_dvd n
          (dvd_of_mul-dvd-mul_right n (right_pos n (o * unit) (omega arith))
          (dvd_of_mod-eq-zero (n * (o * unit))
          (subst (λ (x : ℕ). (k + (n - j % n)) * (o * unit) % x ≡ 0) {x = turn} (omega arith) e)))

  -- what divides the nth part of a turn divides a gap
  pub gap_multiple : (m j k : ℕ) → turn / n % m ≡ 0 → gap j k % m ≡ 0
  unfolding gap
  gap_multiple m j k h =
      mul_multiple (k + (n - j % n)) (o * unit) m
      (subst (λ (x : ℕ). x % m ≡ 0) (div-eq_of_eq-mul_right n_pos (omega arith)) h)
