-- Two beams of one setting that lie whole multiples of the oversampling apart, over N1 and N2.
use mathlib.Core.Path.{◌≡◌, sym, ◌∙◌}
use mathlib.Core.Logic.{◌≢◌, inl, inr}
use mathlib.Core.List.{List, map}
use Prim.Native.Nat.{ℕ, ◌+◌, ◌*◌, ◌/◌, ◌%◌}
use lib.ListN.{length}
use Rattle.turn.specs.Apart.{Apart, Common}
use Rattle.turn.specs.Phase.{turn, phase}
use Rattle.turn.specs.Column.{Setting, Divides, steps, product, beam}
use Rattle.turn.specs.Exact.{differences}
use Rattle.turn.specs.Cancel.{Invariant}
use Rattle.turn.proofs.Lists.{length_beam}
use Rattle.turn.proofs.Invariant.{invariant-left, invariant-right, invariant-phases, invariant-steps}
use Rattle.turn.proofs.Differences.{differences_grid}
use Rattle.turn.proofs.Steps.{gap, step_gap, gap_round, gap_some, gap_multiple}

-- some turn only permutes xs: no whole one, and a multiple of whatever divides both the N1th and the N2th part of a
-- turn
pub record TurnedBy (c : Setting) (xs : List ℕ) : Type 0 where
  pub by : ℕ
  pub some : phase by ≢ 0
  pub multiple : {m : ℕ} → Common c m → by % m ≡ 0
  pub invariant : Invariant by xs

-- the phases of n gaps come round
round : (n o : ℕ) (whole : n * o * (turn / (n * o)) ≡ turn) (j k : ℕ)
    → Invariant (gap n o whole j k) (map phase (steps n (gap n o whole j k)))
round n o whole j k = invariant-phases (invariant-steps n _ (gap_round n o whole j k))

module _ (c : Setting) (whole : Divides c) (l m j1 j2 k1 k2 : ℕ) where
  abbrev pub first : List ℕ
  first = beam c (l + j1 * c.o1) (m + j2 * c.o2)

  abbrev pub second : List ℕ
  second = beam c (l + k1 * c.o1) (m + k2 * c.o2)

  abbrev pub gap1 : ℕ
  gap1 = gap c.n1 c.o1 whole.rows j1 k1

  abbrev pub gap2 : ℕ
  gap2 = gap c.n2 c.o2 whole.columns j2 k2

  pub same_length : length first ≡ length second
  same_length = length_beam c _ _ ∙ sym (length_beam c _ _)

  pub differences_beams : differences first second
      ≡ map phase (product (map phase (steps c.n1 gap1)) (map phase (steps c.n2 gap2)))
  unfolding beam
  differences_beams =
      differences_grid _ _ _ gap1 _ _ _ gap2
      (step_gap c.n1 c.o1 whole.rows l j1 k1) (step_gap c.n2 c.o2 whole.columns m j2 k2)

  pub beams_turned : Apart c j1 j2 k1 k2 → TurnedBy c (differences first second)
  beams_turned a = elim a [
    | inl ne ↦ record {
      by = gap1;
      some = gap_some c.n1 c.o1 whole.rows j1 k1 ne;
      multiple = λ h. gap_multiple c.n1 c.o1 whole.rows _ j1 k1 h.rows;
      invariant = rw differences_beams (invariant-phases (invariant-left _ (round c.n1 c.o1 whole.rows j1 k1)));
    }
    | inr ne ↦ record {
      by = gap2;
      some = gap_some c.n2 c.o2 whole.columns j2 k2 ne;
      multiple = λ h. gap_multiple c.n2 c.o2 whole.columns _ j2 k2 h.columns;
      invariant = rw differences_beams (invariant-phases (invariant-right _ (round c.n2 c.o2 whole.columns j2 k2)));
    }
  ]
