-- The row of k for i13; and no step and no beam is far: the code's arithmetic holds them.
use mathlib.Core.List.{List, [], ◌∷◌}
use mathlib.Core.Path.{◌≡◌, ap₂, ◌∙◌}
use mathlib.Core.Bool.{Bool, false, cond, ◌&&◌}
use Prim.Native.Nat.{ℕ, zero, suc, ◌+◌, ◌*◌, ◌≤◌}
use native.Mathlib.Nat.{add-zero, mul-zero, mod-lt, mod-add-mod}
use native.Mathlib.Omega.{arith}
use lib.Dec.{T, eqb, leb, ltb}
use lib.ListN.{get_or}
use borrow.Author.Tests.{ne_eqb, lt-leb}
use Rattle.ground.specs.Lists.{each}
use Rattle.ground.proofs.Booleans.{cond_both}
use Rattle.ground.proofs.Tests.{and_left, and_right, two_le}
use Rattle.turn.specs.declared.Beam.{Beam}
use Rattle.settings.specs.Settings.{o1, o2, across, down}
use Rattle.settings.specs.Ranges.{beam, k_two, k_three, k_rows}
use Rattle.settings.proofs.Known.{Known, known}
use Rattle.report.specs.declared.Report.{Report}
use Rattle.report.specs.Rules.{InRange}
use Rattle.report.specs.Beams.{is_half, base, moved, Small}

-- a beam of known numbers is small by its test
abbrev is_small : Beam → Bool
is_small x = leb x.l 255 && leb x.m 255

pub is_small_lem : (x : Beam) → T (is_small x) → Small x
is_small_lem x t = let e = two_le x.l 255 x.m 255 t in record { l = e.0; m = e.1 }

-- ---- the row of k for i13

-- no row of a table is far, nor is what stands where there is none
rows_small : (ks : List Beam) → T (each is_small ks) → (i : ℕ) → Small (get_or ks i (beam 0 0))
unfolding each
rows_small [] t i = is_small_lem (beam 0 0) tt
rows_small (k ∷ ks) t zero = is_small_lem k (and_left (is_small k) (each is_small ks) t)
rows_small (k ∷ ks) t (suc i) = rows_small ks (and_right (is_small k) (each is_small ks) t) i

pub k_small : (n1 n2 v i : ℕ) → Small (get_or (cond (eqb v 2) (k_two n1 n2) (k_three n1 n2)) i (beam 0 0))
unfolding k_two k_three each
k_small n1 n2 v i =
    let small : List Beam → Type 0 = λ ks. T (each is_small ks) in
    rows_small _
    (cond_both small (eqb v 2)
    (cond_both small (ltb 1 n2 && ltb n2 n1) tt
    (cond_both small (ltb 1 n2 && eqb n1 n2) tt
    (cond_both small (eqb n1 2) tt tt)))
    (cond_both small (eqb n2 1 && eqb n1 2) tt
    (cond_both small (eqb n2 1 && eqb n1 4) tt
    (cond_both small (eqb n2 1) tt
    (cond_both small (eqb n1 2) tt tt)))))
    i

-- it is one of the table for two layers, or of that for three and four
pub row_cases : (r : Report) → (r.n1 ≡ 1 → ⊥) → (r.v ≡ 1 → ⊥) → is_half r ≡ false → r.v ≤ 4
    → k_rows r.n1 r.n2 r.v ≡ cond (eqb r.v 2) (k_two r.n1 r.n2) (k_three r.n1 r.n2)
unfolding k_rows
row_cases r more several whole few = rw (whole, ne_eqb r.n1 1 more, ne_eqb r.v 1 several, lt-leb 5 r.v (omega arith))

-- ---- beams that are reduced

pub moved_small : (r : Report) {x : Beam} → InRange r → x ≡ moved r (base r) (beam 0 0) → Small x
unfolding moved
moved_small r h e =
    let setting : Known r.n1 r.n2 = known _ _ h.setting in
    rw e
    (record {
      l = omega (arith, mod-lt ((base r).l + o1 r.n1 * 0) setting.across_some, setting.across_few);
      m = omega (arith, mod-lt ((base r).m + o2 r.n2 * 0) setting.down_some, setting.down_few);
    })

-- and B stands where it would if it had not been reduced before
moved_on : (r : Report) (x k : Beam) → moved r (moved r x (beam 0 0)) k ≡ moved r x k
unfolding moved
moved_on r x k =
    rw (mul-zero, add-zero, mul-zero, add-zero)
    (ap₂ {C = Beam} beam
    (mod-add-mod x.l (across r.n1) (o1 r.n1 * k.l))
    (mod-add-mod x.m (down r.n2) (o2 r.n2 * k.m)))

pub moved_from_base : (r : Report) {x y k j : Beam} → y ≡ moved r x k → x ≡ moved r (base r) (beam 0 0) → k ≡ j
    → y ≡ moved r (base r) j
moved_from_base r {j = j} e b f = e ∙ ap₂ (moved r) b f ∙ moved_on r (base r) j
