-- Every number of the table passes the test of `Nearest`, or stands at a whole sixth of a turn, where it is exact. That
-- this makes it the nearest is argued in specs/Nearest.antt.
use mathlib.Core.Path.{◌≡◌, refl, ap, ◌∙◌, subst}
use mathlib.Core.Logic.{◌≢◌}
use mathlib.Core.Bool.{Bool, ◌||◌}
use mathlib.Core.List.{zip_with}
use Prim.Native.Nat.{ℕ, ◌+◌, ◌*◌, ◌%◌, ◌<◌}
use native.Mathlib.Omega.{arith}
use lib.Dec.{T, eqb, eqb→eq}
use lib.IntN.{ℤ, pos, neg_ℤ, ◌+ℤ◌, ◌-ℤ◌, ◌*ℤ◌}
use lib.Signed.{lt_z, ◌<ℤ◌, lt_z_yes}
use Rattle.ground.specs.Lists.{every}
use Rattle.ground.proofs.Tests.{or_else, every_at}
use Rattle.turn.specs.Phase.{turn, third, quarter, sixth, phase}
use Rattle.weight.specs.declared.Weight.{Weight}
use Rattle.weight.specs.Table.{radius, first_quarter, first_half, xs, ys, table, weight}
use Rattle.weight.specs.Nearest.{wave, Nearest, doublings}
use Rattle.weight.proofs.Rules.{x, y, weight_phase, weight_same, quarter_more}

-- the sine is the cosine three quarters on
pub sine : (e : ℕ) → y e ≡ x (e + 3 * quarter)
sine e =
    ap (λ (w : Weight). w.y)
    (weight_same e (e + 3 * quarter + quarter) (omega arith) ∙ quarter_more (e + 3 * quarter))

crosses : ℕ → ℤ
crosses e = wave (doublings quarter e) (pos 2 *ℤ x e -ℤ pos 1) *ℤ wave (doublings quarter e) (pos 2 *ℤ x e +ℤ pos 1)

nearest? : ℕ → Bool
nearest? e = eqb (e % sixth) 0 || lt_z (crosses e) (pos 0)

all_nearest : T (every turn nearest?)
unfolding every nearest? crosses weight table zip_with xs ys first_half first_quarter
all_nearest = tt

pub nearest : (e : ℕ) → e % sixth ≢ 0 → Nearest (doublings quarter (phase e)) (x e)
unfolding nearest? crosses
nearest e n =
    subst (λ (w : Weight). Nearest (doublings quarter (phase e)) w.x) (weight_phase e) (record {
      crosses =
          lt_z_yes
          (or_else (eqb (phase e % sixth) 0) _ (λ t. n (omega (arith, eqb→eq (phase e % sixth) 0 t)))
          (every_at turn nearest? all_nearest (phase e) (omega arith)));
    })

-- ---- x falls strictly over the first quarter

falls? : ℕ → Bool
falls? e = lt_z (x (e + 1)) (x e)

all_fall : T (every quarter falls?)
unfolding every falls? weight table zip_with xs ys first_half first_quarter
all_fall = tt

pub falls : (e : ℕ) → e < quarter → x (e + 1) <ℤ x e
unfolding falls?
falls e h = lt_z_yes (every_at quarter falls? all_fall e h)

-- ---- at a sixth of a turn the cosine is a half, at a third minus a half; `half_more` gives the other three sixths

pub exact_whole : x 0 ≡ pos radius
unfolding weight table zip_with xs ys first_half first_quarter
exact_whole = refl

pub exact_sixth : pos 2 *ℤ x sixth ≡ pos radius
unfolding weight table zip_with xs ys first_half first_quarter
exact_sixth = refl

pub exact_third : pos 2 *ℤ x third ≡ neg_ℤ (pos radius)
unfolding weight table zip_with xs ys first_half first_quarter
exact_third = refl
