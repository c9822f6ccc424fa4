-- What is drawn, layer by layer; sizes that can be drawn; and that it is a plan's precoder where each column is a layer's.
use mathlib.Core.Path.{◌≡◌, refl, sym, ap, ap₂, ◌∙◌}
use mathlib.Core.Bool.{Bool, true, false, ◌&&◌}
use mathlib.Core.List.{List, ◌++◌, map}
use Prim.Native.Nat.{ℕ, zero, suc, ◌+◌, ◌*◌, ◌<◌, ◌≤◌}
use native.Mathlib.Nat.{zero-mul}
use native.Mathlib.Numerals.{add-one}
use native.Mathlib.Omega.{arith}
use lib.Dec.{leb}
use lib.ListN.{length, take, get_or, length-append}
use lib.Seq.{take_all}
use borrow.Author.Tests.{leb-true, le-leb}
use Rattle.std.proofs.Common.{Some, None}
use Rattle.turn.proofs.Lists.{length_grid}
use Rattle.ground.specs.Cases.{◌⇒◌∣◌}
use Rattle.ground.specs.Lists.{join}
use Rattle.ground.proofs.Booleans.{and_true_left, and_true_right}
use Rattle.ground.proofs.Lists.{join_next}
use Rattle.offsets.specs.Offsets.{fed}
use Rattle.offsets.proofs.Fed.{length_fed}
use Rattle.plan.specs.Plan.{Layer, Plan, past, layer_at, column_of}
use Rattle.plan.specs.Offsets.{fed_column, fed_matrix}
use Rattle.plan.specs.declared.Drawing.{Drawing}
use Rattle.plan.specs.Drawing.{height, co_row, beam_at, column_at, drawn, drawable}
use Rattle.turn.proofs.Columns.{length_column}
use Rattle.writer.specs.Blocks.{DrawnIn}
use Rattle.writer.proofs.Columns.{length_row}

-- ---- layers

-- one layer more
pub drawn_next : (os : List ℕ) (s : Drawing) (n : ℕ)
    → drawn os s (n + 1) ≡ drawn os s n ++ fed os (column_at s (get_or s.codes n 0))
unfolding drawn
drawn_next os s n = rw add-one

pub length_column_at : (s : Drawing) (code : ℕ) → length (column_at s code) ≡ height s
unfolding column_at beam_at
length_column_at s code =
    length_column (co_row s.co code (2 * s.pairs)) _
    ∙ ap₂ ◌*◌ (length_row s.co code (2 * s.pairs)) (length_grid s.rows _ s.columns _)
    ∙ omega arith

pub length_drawn : (os : List ℕ) (s : Drawing) (n : ℕ) → length (drawn os s n) ≡ n * height s
unfolding drawn
length_drawn os s zero = sym (zero-mul (height s))
length_drawn os s (suc n) =
    let x = column_at s (get_or s.codes n 0) in
    length-append (drawn os s n) (fed os x)
    ∙ omega (arith, length_drawn os s n, length_fed os x, length_column_at s (get_or s.codes n 0))

-- ---- a plan's precoder

module _ (os : List ℕ) (p : Plan) (s : Drawing) (many : length p.layers ≡ p.v)
    (same : (j : ℕ) → j < p.v → column_at s (get_or s.codes j 0) ≡ column_of p (layer_at p j)) where
  drawn_layers : (n : ℕ) → n ≤ p.v → drawn os s n ≡ join (map (fed_column os p) (take n p.layers))
  unfolding drawn join fed_column
  drawn_layers zero h = refl
  drawn_layers (suc n) h =
      ap₂ {C = List ℕ} ◌++◌ (drawn_layers n (omega arith)) (ap (fed os) (same n h))
      ∙ sym (join_next (fed_column os p) p.layers n past (omega (arith, many)))

  -- where each column is a layer's, what is drawn is the precoder
  pub drawn_matrix : s.v ≡ p.v → drawn os s s.v ≡ fed_matrix os p
  unfolding fed_matrix
  drawn_matrix v =
      ap (drawn os s) v
      ∙ drawn_layers p.v (omega arith)
      ∙ ap (λ (xs : List Layer). join (map (fed_column os p) xs)) (take_all p.v p.layers (omega (arith, many)))

-- ---- sizes that can be drawn

-- all but the number of ports
abbrev pub five : ℕ → ℕ → ℕ → ℕ → Bool
five v pairs rows columns = leb v 8 && leb pairs 4 && leb 1 columns && leb columns 4 && leb (rows * columns) 16

pub five_sizes : (v pairs rows columns : ℕ) → five v pairs rows columns ≡ true
    → (v ≤ 8) × (pairs ≤ 4) × (1 ≤ columns) × (columns ≤ 4) × (rows * columns ≤ 16)
five_sizes v pairs rows columns e =
    let two : Bool = leb v 8 && leb pairs 4 in
    let three : Bool = two && leb 1 columns in
    let four : Bool = three && leb columns 4 in
    let e4 = and_true_left four (leb (rows * columns) 16) e in
    let e3 = and_true_left three (leb columns 4) e4 in
    let e2 = and_true_left two (leb 1 columns) e3 in (
      leb-true _ _ (and_true_left (leb v 8) (leb pairs 4) e2),
      leb-true _ _ (and_true_right (leb v 8) (leb pairs 4) e2),
      leb-true _ _ (and_true_right two (leb 1 columns) e3),
      leb-true _ _ (and_true_right three (leb columns 4) e4),
      leb-true _ _ (and_true_right four (leb (rows * columns) 16) e),
    )

pub drawable_sizes : (s : Drawing) (room : ℕ) → drawable s room ≡ true → DrawnIn s room
unfolding drawable
drawable_sizes s room e =
    let first : Bool = five s.v s.pairs s.rows s.columns in
    let tested : Bool = first && leb (height s) 32 in
    let all = and_true_left tested (leb (s.v * height s + 16) room) e in
    let z = five_sizes _ _ _ _ (and_true_left first (leb (height s) 32) all) in
    record {
      few = z.0;
      pairs = z.1;
      some = z.2;
      narrow = z.3;
      block = z.4;
      ports = leb-true _ _ (and_true_right first (leb (height s) 32) all);
      fits = leb-true _ _ (and_true_right tested (leb (s.v * height s + 16) room) e);
    }

-- whether there is a number of entries says whether a test holds
pub no_number : (t : Bool) (m : ℕ) → None ≡ (t ⇒ Some m ∣ None) → t ≡ false
no_number true m e = absurd cc
no_number false m e = refl

pub is_number : (t : Bool) (m n : ℕ) → Some n ≡ (t ⇒ Some m ∣ None) → (t ≡ true) × (n ≡ m)
is_number true m n e = (refl, cc)
is_number false m n e = absurd cc

pub sizes_drawable : (s : Drawing) (room : ℕ) → DrawnIn s room → drawable s room ≡ true
unfolding drawable
sizes_drawable s room z =
    rw (
      le-leb _ _ z.few,
      le-leb _ _ z.pairs,
      le-leb _ _ z.some,
      le-leb _ _ z.narrow,
      le-leb _ _ z.block,
      le-leb _ _ z.ports,
      le-leb _ _ z.fits,
    )
