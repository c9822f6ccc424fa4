-- The matrix of a plan: its entries are phases; and of a sound one its length, its layers, and that any two of them cancel.
use mathlib.Core.Path.{◌≡◌, sym, ap, ap₂, ◌∙◌, subst}
use mathlib.Core.Logic.{◌≢◌}
use mathlib.Core.List.{List, [], ◌∷◌, map}
use Prim.Native.Nat.{ℕ, ◌+◌, ◌*◌, ◌/◌, ◌<◌}
use native.Mathlib.Nat.{mod-lt, mod-eq_of_lt}
use native.Mathlib.Omega.{arith}
use lib.Dec.{lit<}
use lib.Arith.{digits_lt}
use lib.ListN.{length, get_or}
use Rattle.ground.specs.Lists.{All, all_nil, all_cons}
use Rattle.ground.proofs.Lists.{length_join, join_part, join_entry}
use Rattle.turn.specs.Phase.{turn, phase}
use Rattle.turn.specs.Column.{Setting, Divides, product, beam, column}
use Rattle.turn.specs.Exact.{differences}
use Rattle.turn.specs.Cancel.{Cancels}
use Rattle.turn.proofs.Lists.{length_beam}
use Rattle.turn.proofs.Columns.{length_column}
use Rattle.turn.proofs.Entries.{beam_reduced, entry}
use Rattle.turn.proofs.Cancel.{opposites_cancel, beams_cancel}
use Rattle.plan.specs.Plan.{Layer, Plan, past, layer_at, column_of, matrix, layer_in}
use Rattle.plan.specs.Sound.{StepsFrom, Told, by_co_phases, by_beams, Sound}

-- ---- two layers that are told apart

abbrev block_of : Setting → Layer → List ℕ
block_of c x = beam c x.l x.m

-- the beam of a layer, from the one that it is steps away from
beam_moved : (c : Setting) (l m k1 k2 : ℕ) (x : Layer) → StepsFrom c l m k1 k2 x
    → block_of c x ≡ beam c (l + k1 * c.o1) (m + k2 * c.o2)
beam_moved c l m k1 k2 x h = rw (h.across, h.down) (beam_reduced c _ _)

pub told_cancels : (c : Setting) → Divides c → (x y : Layer) → Told c x y
    → Cancels (differences (column x.co (block_of c x)) (column y.co (block_of c y)))
told_cancels c whole x y (by_co_phases co ms ns e e' even) =
    rw (e, e')
    (opposites_cancel co ms ns even (block_of c x) (block_of c y) (length_beam c _ _ ∙ sym (length_beam c _ _)))
told_cancels c whole x y (by_beams l m j1 j2 k1 k2 h h' apart coarse) =
    rw (beam_moved c l m j1 j2 x h, beam_moved c l m k1 k2 y h')
    (beams_cancel c whole l m j1 j2 k1 k2 apart x.co y.co coarse)

-- ---- any plan: every entry is a phase

pub phases_below : (xs : List ℕ) → All (λ x. x < turn) (map phase xs)
phases_below [] = all_nil
phases_below (x ∷ xs) = all_cons (mod-lt x (lit< tt)) (phases_below xs)

pub column_below : (p : Plan) (x : Layer) → All (λ e. e < turn) (column_of p x)
unfolding column_of column
column_below p x = phases_below (product x.co (beam p.block x.l x.m))

-- ---- a sound plan

module _ (p : Plan) (s : Sound p) where
  -- an entry for each port
  pub layer_long : (j : ℕ) → j < p.v → length (column_of p (layer_at p j)) ≡ p.ports
  unfolding column_of
  layer_long j h = length_column _ _ ∙ ap₂ ◌*◌ (s.long j h) (length_beam p.block _ _) ∙ s.all

  each_long : (j : ℕ) → j < length p.layers → length (column_of p (layer_at p j)) ≡ p.ports
  each_long j h = layer_long j (omega (arith, s.many))

  -- in each layer
  pub length_matrix : length (matrix p) ≡ p.v * p.ports
  unfolding matrix
  length_matrix =
      length_join (column_of p) p.layers past p.ports each_long ∙ ap (λ (n : ℕ). n * p.ports) s.many

  -- layer j of the matrix is its column
  pub matrix_layer : (j : ℕ) → j < p.v → layer_in p.ports j (matrix p) ≡ column_of p (layer_at p j)
  unfolding matrix
  matrix_layer j h = join_part (column_of p) p.layers past p.ports each_long j (omega (arith, s.many))

  module _ (j k : ℕ) (hj : j < p.v) (hk : k < p.v) (ne : j ≢ k) where
    pub layers_cancel : Cancels (differences (column_of p (layer_at p j)) (column_of p (layer_at p k)))
    unfolding column_of
    layers_cancel = told_cancels p.block s.whole (layer_at p j) (layer_at p k) (s.told j k hj hk ne)

  -- The entry of layer j at (a,b) of block q: the block's co-phase, a·l·turn/(N1·O1) and b·m·turn/(N2·O2), with the layer's
  -- beam (l,m) reduced. b runs fastest, then a, then the blocks, then the layers.
  pub matrix_entry : (j q a b : ℕ) → j < p.v → q < p.blocks → a < p.block.n1 → b < p.block.n2
      → let x = layer_at p j in let c = p.block in
      get_or (matrix p) (j * p.ports + (q * (c.n1 * c.n2) + (a * c.n2 + b))) 0
      ≡ phase (get_or x.co q 0 + (a * x.l * turn / (c.n1 * c.o1) + b * x.m * turn / (c.n2 * c.o2)))
  unfolding matrix column_of
  matrix_entry j q a b hj hq ha hb =
      let x = layer_at p j in
      let c = p.block in
      join_entry (column_of p) p.layers past 0 p.ports each_long j (q * (c.n1 * c.n2) + (a * c.n2 + b))
      (omega (arith, s.many))
      (subst (λ (n : ℕ). q * (c.n1 * c.n2) + (a * c.n2 + b) < n) s.all (digits_lt hq (digits_lt ha hb)))
      ∙ entry c s.whole x.l x.m a b ha hb x.co q (subst (λ (n : ℕ). q < n) (sym (s.long j hj)) hq)
      ∙ ap₂ (λ (l m : ℕ). phase (get_or x.co q 0 + (a * l * turn / (c.n1 * c.o1) + b * m * turn / (c.n2 * c.o2))))
      (mod-eq_of_lt (s.reduced_l j hj)) (mod-eq_of_lt (s.reduced_m j hj))
