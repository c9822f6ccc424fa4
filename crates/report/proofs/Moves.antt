-- How far the beams stand from B, by rank: the moves, how many there are, and what is said with beams that stand so.
use mathlib.Core.Path.{◌≡◌, refl, sym, ◌∙◌}
use mathlib.Core.Bool.{Bool, true, false, cond, ◌||◌}
use mathlib.Core.List.{List, [], ◌∷◌}
use Prim.Native.Nat.{ℕ, ◌<◌, ◌≤◌}
use native.Mathlib.Omega.{arith}
use lib.Dec.{eqb, leb, ltb, lit≤}
use lib.ListN.{length, get_or, length-map}
use borrow.Author.Tests.{ne_eqb, le-leb, lt-leb}
use Rattle.ground.proofs.Booleans.{cond_both, cond_each}
use Rattle.turn.specs.declared.Beam.{Beam}
use Rattle.settings.specs.declared.Sizes.{Sizes}
use Rattle.settings.specs.Ranges.{beam, half_length, k_rows}
use Rattle.report.specs.declared.Report.{Report}
use Rattle.report.specs.declared.Beams.{Beams}
use Rattle.report.specs.Beams.{is_half, base, moves, moved, beams, said_of, said_all}

-- ---- which ranks have half-length beams

pub whole_few : (r : Report) → r.v < 3 → is_half r ≡ false
unfolding half_length
whole_few r h = rw (lt-leb 3 r.v h)

-- ---- the moves

module _ (r : Report) where
  -- to four layers there is no B′, or it stands a row of k from B
  pub moves_few_layers : r.v ≤ 4
      → moves r
      ≡ cond (eqb r.v 1 || is_half r) (beam 0 0 ∷ [])
      (beam 0 0 ∷ get_or (k_rows r.n1 r.n2 r.v) r.i13 (beam 0 0) ∷ [])
  unfolding moves
  moves_few_layers h = rw (lt-leb 7 r.v (omega arith), lt-leb 5 r.v (omega arith))

  -- the step of a place is decided by N2
  pub moves_three : 5 ≤ r.v → r.v ≤ 6
      → moves r ≡ beam 0 0 ∷ beam 1 0 ∷ cond (ltb 1 r.n2) (beam 1 1) (beam 2 0) ∷ []
  unfolding moves
  moves_three h k =
      rw (lt-leb 7 r.v (omega arith), le-leb 5 r.v h)
      (sym (cond_each {B = List Beam} (λ x. beam 0 0 ∷ beam 1 0 ∷ x ∷ []) (ltb 1 r.n2) refl refl))

  pub moves_four : 7 ≤ r.v
      → moves r
      ≡ beam 0 0 ∷ beam 1 0 ∷ cond (ltb 1 r.n2) (beam 0 1) (beam 2 0) ∷ cond (ltb 1 r.n2) (beam 1 1) (beam 3 0) ∷ []
  unfolding moves
  moves_four h = rw (le-leb 7 r.v h) (by_place (ltb 1 r.n2))
    where
      by_place : (b : Bool)
          → cond b (beam 0 0 ∷ beam 1 0 ∷ beam 0 1 ∷ beam 1 1 ∷ []) (beam 0 0 ∷ beam 1 0 ∷ beam 2 0 ∷ beam 3 0 ∷ [])
          ≡ beam 0 0 ∷ beam 1 0 ∷ cond b (beam 0 1) (beam 2 0) ∷ cond b (beam 1 1) (beam 3 0) ∷ []
      by_place true = refl
      by_place false = refl

-- ---- how many there are

-- by rank; `single` where there is no B′
abbrev pub counted : ℕ → Bool → ℕ
counted v single = cond (leb 7 v) 4 (cond (leb 5 v) 3 (cond single 1 2))

pub counted_some : (v : ℕ) (single : Bool) → 1 ≤ counted v single
counted_some v single =
    cond_both (λ n. 1 ≤ n) (leb 7 v) (lit≤ tt)
    (cond_both (λ n. 1 ≤ n) (leb 5 v) (lit≤ tt) (cond_both (λ n. 1 ≤ n) single (lit≤ tt) (lit≤ tt)))

module _ (r : Report) where
  pub length_moves : length (moves r) ≡ counted r.v (eqb r.v 1 || is_half r)
  unfolding moves
  length_moves =
      cond_each length (leb 7 r.v)
      (cond_both (λ (ks : List Beam). length ks ≡ 4) (ltb 1 r.n2) refl refl)
      (cond_each length (leb 5 r.v)
      (cond_both (λ (ks : List Beam). length ks ≡ 3) (ltb 1 r.n2) refl refl)
      (cond_each length (eqb r.v 1 || is_half r) refl refl))

  pub moves_some : 1 ≤ length (moves r)
  moves_some = rw length_moves (counted_some r.v (eqb r.v 1 || is_half r))

  pub moves_few : length (moves r) ≤ 4
  moves_few =
      let few : ℕ → Type 0 = λ n. n ≤ 4 in
      rw length_moves
      (cond_both few (leb 7 r.v) (lit≤ tt)
      (cond_both few (leb 5 r.v) (lit≤ tt) (cond_both few (eqb r.v 1 || is_half r) (lit≤ tt) (lit≤ tt))))

  pub length_beams : length (beams r) ≡ length (moves r)
  unfolding beams
  length_beams = length-map (moves r) (moved r (base r))

-- ---- what is said with beams that stand so, by rank

module _ (r : Report) (s : Sizes) {y : Beams} {a : Beam} (first : a ≡ moved r (base r) (beam 0 0)) where
  pub said_single : y ≡ said_of r s (is_half r) 1 (a ∷ beam 0 0 ∷ beam 0 0 ∷ beam 0 0 ∷ [])
      → (eqb r.v 1 || is_half r) ≡ true → r.v ≤ 4 → y ≡ said_all r s
  unfolding beams
  said_single p alone few = p ∙ rw (moves_few_layers r few, alone, first)

  pub said_two : {b : Beam} → y ≡ said_of r s (is_half r) 2 (a ∷ b ∷ beam 0 0 ∷ beam 0 0 ∷ [])
      → (r.v ≡ 1 → ⊥) → is_half r ≡ false → r.v ≤ 4
      → b ≡ moved r (base r) (get_or (k_rows r.n1 r.n2 r.v) r.i13 (beam 0 0)) → y ≡ said_all r s
  unfolding beams
  said_two p more whole few second = p ∙ rw (moves_few_layers r few, ne_eqb r.v 1 more, whole, first, second)

  module _ {b : Beam} (second : b ≡ moved r (base r) (beam 1 0)) (many : 5 ≤ r.v) where
    pub said_three : {c : Beam} → y ≡ said_of r s (is_half r) 3 (a ∷ b ∷ c ∷ beam 0 0 ∷ []) → r.v ≤ 6
        → c ≡ moved r (base r) (cond (ltb 1 r.n2) (beam 1 1) (beam 2 0)) → y ≡ said_all r s
    unfolding beams
    said_three p few third = p ∙ rw (moves_three r many few, first, second, third)

    pub said_four : {c d : Beam} → y ≡ said_of r s (is_half r) 4 (a ∷ b ∷ c ∷ d ∷ []) → 7 ≤ r.v
        → c ≡ moved r (base r) (cond (ltb 1 r.n2) (beam 0 1) (beam 2 0))
        → d ≡ moved r (base r) (cond (ltb 1 r.n2) (beam 1 1) (beam 3 0)) → y ≡ said_all r s
    unfolding beams
    said_four p more third fourth = p ∙ rw (moves_four r more, first, second, third, fourth)
