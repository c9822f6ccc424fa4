-- The precoder of a sound plan with offsets: its entries, its length, its layers, and what any two of them sum to.
use mathlib.Core.Path.{◌≡◌, refl, sym, ap, ◌∙◌, subst, subst₂}
use mathlib.Core.Logic.{◌≢◌}
use mathlib.Core.List.{List, [], ◌∷◌, map}
use Prim.Native.Nat.{ℕ, ◌+◌, ◌*◌, ◌<◌, ◌≤◌}
use native.Mathlib.Omega.{arith}
use lib.IntN.{nat_abs}
use lib.ListN.{length, get_or, replicate}
use Rattle.ground.specs.Lists.{join, All, all_nil}
use Rattle.ground.proofs.All.{all_append}
use Rattle.ground.proofs.Lists.{length_join, join_part, join_entry}
use Rattle.turn.specs.Phase.{turn, phase}
use Rattle.turn.specs.Exact.{differences, Orthogonal}
use Rattle.turn.specs.Cancel.{Cancels}
use Rattle.turn.proofs.Cancel.{cancels_orthogonal}
use Rattle.weight.specs.Products.{re, im, limit}
use Rattle.weight.proofs.CrossSum.{between, cross_bound}
use Rattle.offsets.proofs.Fed.{length_fed, fed_at, fed_below, fed_zeros, differences_fed}
use Rattle.plan.specs.Plan.{Layer, Plan, past, layer_at, column_of, matrix, layer_in}
use Rattle.plan.specs.Offsets.{fed_column, fed_matrix}
use Rattle.plan.specs.Sound.{Sound}
use Rattle.plan.proofs.Matrix.{column_below, layer_long, layers_cancel}

-- ---- any plan: every entry is a phase, and offsets of 0 leave the matrix as it is

columns_below : (os : List ℕ) (p : Plan) (xs : List Layer) → All (λ e. e < turn) (join (map (fed_column os p) xs))
unfolding join fed_column
columns_below os p [] = all_nil
columns_below os p (x ∷ xs) = all_append (fed_below os (column_below p x)) (columns_below os p xs)

pub fed_matrix_below : (os : List ℕ) (p : Plan) → All (λ e. e < turn) (fed_matrix os p)
unfolding fed_matrix
fed_matrix_below os p = columns_below os p p.layers

columns_zeros : (n : ℕ) (p : Plan) (xs : List Layer) → join (map (fed_column (replicate n 0) p) xs) ≡ join (map (column_of p) xs)
unfolding join fed_column
columns_zeros n p [] = refl
columns_zeros n p (x ∷ xs) = rw (fed_zeros n (column_below p x), columns_zeros n p xs)

pub fed_matrix_zeros : (n : ℕ) (p : Plan) → fed_matrix (replicate n 0) p ≡ matrix p
unfolding fed_matrix matrix
fed_matrix_zeros n p = columns_zeros n p p.layers

-- ---- a sound plan

module _ (os : List ℕ) (p : Plan) (s : Sound p) where
  pub fed_long : (j : ℕ) → j < p.v → length (fed_column os p (layer_at p j)) ≡ p.ports
  unfolding fed_column
  fed_long j h = length_fed os _ ∙ layer_long p s j h

  each_long : (j : ℕ) → j < length p.layers → length (fed_column os p (layer_at p j)) ≡ p.ports
  each_long j h = fed_long j (omega (arith, s.many))

  pub length_fed_matrix : length (fed_matrix os p) ≡ p.v * p.ports
  unfolding fed_matrix
  length_fed_matrix =
      length_join (fed_column os p) p.layers past p.ports each_long ∙ ap (λ (n : ℕ). n * p.ports) s.many

  -- layer j of the precoder is its column with offsets
  pub fed_layer : (j : ℕ) → j < p.v → layer_in p.ports j (fed_matrix os p) ≡ fed_column os p (layer_at p j)
  unfolding fed_matrix
  fed_layer j h = join_part (fed_column os p) p.layers past p.ports each_long j (omega (arith, s.many))

  -- the entry of port q in layer j is that of the matrix plus the offset of port q
  pub fed_entry : length os ≡ p.ports → (j q : ℕ) → j < p.v → q < p.ports
      → get_or (fed_matrix os p) (j * p.ports + q) 0 ≡ phase (get_or (matrix p) (j * p.ports + q) 0 + get_or os q 0)
  unfolding fed_matrix fed_column matrix
  fed_entry many j q hj hq =
      join_entry (fed_column os p) p.layers past 0 p.ports each_long j q (omega (arith, s.many)) hq
      ∙ fed_at os (column_of p (layer_at p j)) q (omega (arith, many)) (omega (arith, layer_long p s j hj))
      ∙ ap (λ (e : ℕ). phase (e + get_or os q 0))
      (sym (join_entry (column_of p) p.layers past 0 p.ports
      (λ i h. layer_long p s i (omega (arith, s.many))) j q (omega (arith, s.many)) hq))

  module _ (j k : ℕ) (hj : j < p.v) (hk : k < p.v) (ne : j ≢ k) where
    abbrev one : List ℕ
    one = fed_column os p (layer_at p j)

    abbrev other : List ℕ
    other = fed_column os p (layer_at p k)

    -- the differences of two layers are those without offsets
    pub fed_cancels : Cancels (differences one other)
    unfolding fed_column
    fed_cancels = rw differences_fed (layers_cancel p s j k hj hk ne)

    -- any two are exactly orthogonal
    pub layers_orthogonal : Orthogonal (layer_in p.ports j (fed_matrix os p)) (layer_in p.ports k (fed_matrix os p))
    layers_orthogonal =
        subst₂ Orthogonal (sym (fed_layer j hj)) (sym (fed_layer k hk)) (cancels_orthogonal _ _ fed_cancels)

    -- and their weights have a small cross-sum
    pub cross_small : (nat_abs (between re one other) ≤ limit * p.ports) × (nat_abs (between im one other) ≤ limit * p.ports)
    cross_small =
        subst (λ (n : ℕ). (nat_abs (between re one other) ≤ limit * n) × (nat_abs (between im one other) ≤ limit * n))
        (fed_long j hj) (cross_bound one other fed_cancels)
