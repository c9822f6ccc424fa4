-- The three bits of a half-length beam: which they are, that they are those that the standard prints, and that they differ.
use mathlib.Core.Path.{◌≡◌, refl, sym, ap, ap₂, ◌∙◌}
use mathlib.Core.Logic.{◌≢◌}
use mathlib.Core.Bool.{true, false, or-true}
use mathlib.Core.List.{List, [], ◌∷◌, map}
use Prim.Native.Nat.{ℕ, zero, suc, ◌+◌, ◌-◌, ◌*◌, ◌/◌, ◌%◌, ◌<◌, ◌≤◌}
use native.Mathlib.Nat.{mod-lt, mod-eq_of_lt, add-mod_right, mul_comm}
use native.Mathlib.Omega.{arith}
use lib.Arith.{digits_div, digits_mod, mod-mul}
use lib.ListN.{get_or}
use borrow.Author.Tests.{ne_eqb}
use Rattle.ground.specs.Lists.{NoRepeats}
use Rattle.ground.proofs.Booleans.{either}
use Rattle.ground.proofs.Members.{three_once}
use Rattle.turn.specs.declared.Beam.{Beam}
use Rattle.settings.specs.Settings.{ports, two_ports, o1, o2, across, down}
use Rattle.settings.specs.Ranges.{beam, mode_two, halves_i11, i11_values}
use Rattle.settings.proofs.Known.{one_by_one}
use Rattle.settings.proofs.Ranked.{i12_few}
use Rattle.report.specs.declared.Report.{Report}
use Rattle.report.specs.Rules.{InRange}
use Rattle.report.specs.Beams.{is_half, base, moved, beams}
use Rattle.report.proofs.Moves.{moves_few_layers}
use Rattle.report.proofs.Reached.{Reached, beams_within}
use Rattle.plan.specs.Masks.{three_bits}
use Rattle.single.specs.Masks.{beam_bit, neighbours, beams_read, bits_read}
use Rattle.single.proofs.Layers.{halved}

-- ---- the row before row l, of w rows

-- before the first stands the last
pub before_first : (w l : ℕ) → l ≡ 0 → 1 ≤ w → (l + w - 1) % w ≡ w - 1
before_first w l none some =
    let e : l + w - 1 ≡ w - 1 = omega arith in
    ap (λ (n : ℕ). n % w) e ∙ mod-eq_of_lt (omega arith)

pub before_others : (w l : ℕ) → 1 ≤ l → l < w → (l + w - 1) % w ≡ l - 1
before_others w l some h =
    let e : l + w - 1 ≡ (l - 1) + w = omega arith in
    ap (λ (n : ℕ). n % w) e ∙ add-mod_right (l - 1) w ∙ mod-eq_of_lt (omega arith)

-- it is neither row l nor the row after it, where there are three or more
before_apart : (w l : ℕ) → 3 ≤ w → l < w → ((l + w - 1) % w ≢ l) × ((l + w - 1) % w ≢ l + 1)
before_apart w zero three h = let e = before_first w 0 refl (omega arith) in (λ q. omega arith, λ q. omega arith)
before_apart w (suc l) three h = let e = before_others w (suc l) (omega arith) h in (λ q. omega arith, λ q. omega arith)

-- ---- bits of beams in one column of the mask

-- d bits to a row: those of different rows differ
rows_differ : (d m x y : ℕ) → m < d → x ≢ y → d * x + m ≢ d * y + m
rows_differ d m x y h ne e =
    let row : (z : ℕ) → (d * z + m) / d ≡ z =
    λ z. ap (λ (n : ℕ). (n + m) / d) (mul_comm d z) ∙ digits_div z h in
    ne (sym (row x) ∙ ap (λ (n : ℕ). n / d) e ∙ row y)

-- a bit modulo all bits is that of its row modulo all rows
bit_reduced : (w d x m : ℕ) → 0 < w → m < d → (d * x + m) % (w * d) ≡ d * (x % w) + m
bit_reduced w d x m some h =
    ap (λ (n : ℕ). (n + m) % (w * d)) (mul_comm d x)
    ∙ mod-mul (x * d + m) some (omega arith)
    ∙ ap₂ (λ (q n : ℕ). q % w * d + n) (digits_div x h) (digits_mod x h)
    ∙ ap (λ (n : ℕ). n + m) (mul_comm (x % w) d)

-- no steps lead from a reduced number to another
stays : (x o w : ℕ) → x < w → (x + o * 0) % w ≡ x
stays x o w h = ap (λ (n : ℕ). n % w) (omega arith) ∙ mod-eq_of_lt h

-- ---- a report with whole beams

pub whole_bits : (r : Report) → two_ports r.n1 ≡ false → is_half r ≡ false → bits_read r ≡ map (beam_bit r.n2) (beams r)
unfolding bits_read
whole_bits r above e = rw (above, e)

-- ---- a report with half-length beams

module _ (r : Report) (h : InRange r) (half : is_half r ≡ true) where
  abbrev w : ℕ
  w = across r.n1

  abbrev d : ℕ
  d = down r.n2

  -- i11 is below half of the rows, and i12 among the columns
  above_within : 2 * r.i11 + 1 < w
  unfolding i11_values halves_i11
  above_within =
      let few : r.i11 < w / 2 =
      either (mode_two r.n1 r.mode r.v) (λ e. rw e at h.i11) (λ e. rw (e, half) at h.i11) in
      omega arith

  column_within : r.i12 < d
  column_within = omega (arith, h.i12, i12_few r.n1 r.n2 r.mode r.v)

  rows_some : 0 < w
  rows_some = omega (arith, above_within)

  -- it has 16 ports or more
  pub more_ports : r.n1 ≢ 1
  more_ports one =
      let two : ports r.n1 r.n2 ≡ 2 = rw (one, one_by_one _ _ h.setting one) in
      omega (arith, (halved r half).1)

  three_rows : 3 ≤ w
  three_rows =
      let few : 2 * r.i11 + 1 < r.n1 * 4 = rw (ne_eqb r.n1 1 more_ports) at above_within in
      rw (ne_eqb r.n1 1 more_ports) (omega arith)

  -- the one beam of the report
  pub half_beam : beams r ≡ beam (2 * r.i11) r.i12 ∷ []
  unfolding beams moved base
  half_beam =
      rw (moves_few_layers r (halved r half).0, half, or-true)
      (ap₂ {C = List Beam} (λ (l m : ℕ). beam l m ∷ [])
      (stays (2 * r.i11) (o1 r.n1) w (omega (arith, above_within))) (stays r.i12 (o2 r.n2) d column_within))

  pub half_bits : bits_read r ≡ map (beam_bit r.n2) (neighbours r.n1 r.i11 r.i12)
  unfolding bits_read
  half_bits = rw (ne_eqb r.n1 1 more_ports, half)

  -- they are the three bits of its beam, as it stands in the plan
  pub half_three : three_bits w d (2 * r.i11) r.i12 ≡ bits_read r
  unfolding three_bits neighbours
  half_three =
      rw (half_bits, mod-eq_of_lt {n = 2 * r.i11} {m = w} (omega (arith, above_within)), mod-eq_of_lt above_within)

  -- all three lie within the setting, and so does what stands where there is none
  neighbours_within : (i : ℕ) → Reached r.n1 r.n2 (get_or (neighbours r.n1 r.i11 r.i12) i (beam 0 0))
  unfolding neighbours
  neighbours_within zero = record { l = mod-lt _ rows_some; m = column_within }
  neighbours_within (suc zero) = record { l = omega (arith, above_within); m = column_within }
  neighbours_within (suc (suc zero)) = record { l = above_within; m = column_within }
  neighbours_within (suc (suc (suc i))) = record { l = rows_some; m = omega (arith, column_within) }

  -- the bits as the standard prints them, the first modulo N1·O1·N2·O2; to its 2·l - 1, which may be below 0, N1·O1 is added
  pub as_printed : bits_read r
      ≡ ((d * (2 * r.i11 + w - 1) + r.i12) % (w * d)) ∷ (d * (2 * r.i11) + r.i12) ∷ (d * (2 * r.i11 + 1) + r.i12) ∷ []
  unfolding neighbours
  as_printed = rw (half_bits, bit_reduced w d (2 * r.i11 + w - 1) r.i12 rows_some column_within)

  -- at i11 = 0 the first is a bit of the last row
  pub first_of_last_row : r.i11 ≡ 0 → get_or (bits_read r) 0 0 ≡ d * (w - 1) + r.i12
  unfolding neighbours
  first_of_last_row none =
      rw half_bits
      (ap (λ (n : ℕ). d * n + r.i12) (before_first w (2 * r.i11) (omega arith) rows_some))

  -- no two are the same
  pub three_distinct : NoRepeats (bits_read r)
  unfolding neighbours
  three_distinct =
      let l = 2 * r.i11 in
      let apart = before_apart w l three_rows (omega (arith, above_within)) in
      let differ : (x y : ℕ) → x ≢ y → d * x + r.i12 ≢ d * y + r.i12 =
      λ x y. rows_differ d r.i12 x y column_within in
      rw half_bits
      (three_once (differ _ l apart.0) (differ _ (l + 1) apart.1) (differ l (l + 1) (λ e. omega arith)))

-- the beams whose bits a report reads lie within its setting
pub read_within : (r : Report) → InRange r → (i : ℕ) → Reached r.n1 r.n2 (get_or (beams_read r) i (beam 0 0))
read_within r h i =
    either (is_half r) (λ e. rw e (neighbours_within r h e i)) (λ e. rw e (beams_within r h.setting i))
