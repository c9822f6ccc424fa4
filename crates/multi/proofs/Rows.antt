-- The row of k for i13, at every setting, rank and place: no step is far, and at three and four layers it is that which one
-- panel has for as many rows and columns of antennas.
use mathlib.Core.Path.{◌≡◌, refl, ap₂}
use mathlib.Core.Bool.{Bool, cond, ◌&&◌, ◌||◌}
use mathlib.Core.List.{[], ◌∷◌}
use Prim.Native.Nat.{ℕ, zero, suc, ◌≤◌}
use native.Mathlib.Omega.{arith}
use lib.Dec.{eqb, leb, ltb}
use lib.ListN.{length, get_or}
use borrow.Author.Tests.{eq-eqb, le-ltb, eqb-true, eqb-false}
use Rattle.ground.specs.Lists.{each, every}
use Rattle.ground.proofs.Booleans.{either}
use Rattle.ground.proofs.Tests.{and_left, and_right, or_else, two_le, two_eq, every_at}
use Rattle.turn.specs.declared.Beam.{Beam}
use Rattle.settings.specs.Ranges.{beam, k_two, k_three}
use Rattle.multi.specs.declared.PanelReport.{PanelReport}
use Rattle.multi.specs.Panels.{panel_settings, k_three_four, panel_rows, k_of, InRange}
use Rattle.multi.proofs.Known.{at_panels}
use Rattle.multi.proofs.InRange.{v_some, v_few}

row : ℕ → ℕ → ℕ → ℕ → Beam
row n1 n2 v i = get_or (panel_rows n1 n2 v) i (beam 0 0)

of_one : ℕ → ℕ → ℕ → Beam
of_one n1 n2 i = get_or (k_three n1 n2) i (beam 0 0)

-- whether its numbers are small, and whether it is that of one panel
small : ℕ → ℕ → ℕ → ℕ → Bool
small n1 n2 v i = leb (row n1 n2 v i).l 4 && leb (row n1 n2 v i).m 4

same : ℕ → ℕ → ℕ → ℕ → Bool
same n1 n2 v i = eqb (of_one n1 n2 i).l (row n1 n2 v i).l && eqb (of_one n1 n2 i).m (row n1 n2 v i).m

right : ℕ → ℕ → ℕ → ℕ → Bool
right n1 n2 v i = small n1 n2 v i && (ltb v 3 || same n1 n2 v i)

tried : ℕ → ℕ → ℕ → Bool
tried n1 n2 v = every (length (panel_rows n1 n2 v)) (right n1 n2 v)

pub record Row (r : PanelReport) : Type 0 where
  pub l_small : (k_of r).l ≤ 4
  pub m_small : (k_of r).m ≤ 4
  pub of_more : 3 ≤ r.v → get_or (k_three r.n1 r.n2) r.i13 (beam 0 0) ≡ k_of r

pub row_right : (r : PanelReport) → InRange r → Row r
unfolding row of_one small same right tried panel_settings each every k_two k_three k_three_four panel_rows
row_right r h =
    let n1 = r.n1 in
    let n2 = r.n2 in
    let v = r.v in
    let i = r.i13 in
    let ranks = at_panels r.ng n1 n2 (λ g a b. every 5 (tried a b)) tt h.setting in
    let places = every_at 5 (tried n1 n2) ranks v (omega (arith, v_few r h)) in
    let t = every_at (length (panel_rows n1 n2 v)) (right n1 n2 v) places i h.i13 in
    let few = two_le _ 4 _ 4 (and_left (small n1 n2 v i) (ltb v 3 || same n1 n2 v i) t) in
    record {
      l_small = few.0;
      m_small = few.1;
      of_more =
          λ more.
          let numbers =
          two_eq _ _ _ _
          (or_else (ltb v 3) (same n1 n2 v i) (λ z. rw (le-ltb v 3 more) at z)
          (and_right (small n1 n2 v i) (ltb v 3 || same n1 n2 v i) t)) in
          ap₂ {C = Beam} beam numbers.0 numbers.1;
    }

-- two layers have the table of one panel
of_two : (r : PanelReport) → r.v ≡ 2 → get_or (k_two r.n1 r.n2) r.i13 (beam 0 0) ≡ k_of r
unfolding panel_rows
of_two r two = rw two

-- from two layers on the row is that of one panel
pub row_of_more : (r : PanelReport) → InRange r → (r.v ≡ 1 → ⊥)
    → get_or (cond (eqb r.v 2) (k_two r.n1 r.n2) (k_three r.n1 r.n2)) r.i13 (beam 0 0) ≡ k_of r
row_of_more r h more =
    either (eqb r.v 2) (λ e. rw e (of_two r (eqb-true r.v 2 e)))
    (λ e. rw e ((row_right r h).of_more (omega (arith, v_some r h, more, eqb-false r.v 2 e))))

-- and one layer has no row
none : (i : ℕ) → get_or (beam 0 0 ∷ []) i (beam 0 0) ≡ beam 0 0
none zero = refl
none (suc i) = refl

pub row_of_one : (r : PanelReport) → r.v ≡ 1 → k_of r ≡ beam 0 0
unfolding panel_rows
row_of_one r one = rw (eq-eqb r.v 1 one) (none r.i13)
