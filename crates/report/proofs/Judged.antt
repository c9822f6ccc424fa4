-- A report judged by its ranges: it has none where the setting, the mode or the rank is none, and then each index has its
-- range.
use mathlib.Core.Path.{◌≡◌, refl, sym, ap, ◌∙◌}
use mathlib.Core.Bool.{Bool, true, false, cond, not, ◌&&◌}
use Prim.Native.Nat.{ℕ, zero, suc}
use lib.Dec.{leb}
use Rattle.std.specs.Prelude.{Result, Ok, Err}
use Rattle.ground.specs.First.{first}
use Rattle.refusal.specs.declared.Refusal.{Refusal}
use Rattle.refusal.specs.Outcome.{outcome}
use Rattle.settings.specs.declared.Ranges.{Ranges}
use Rattle.settings.specs.declared.Refused.{Refused}
use Rattle.settings.specs.declared.Sizes.{Sizes}
use Rattle.settings.specs.Settings.{is_setting, ports, sizes_of}
use Rattle.settings.specs.Ranges.{is_mode, is_rank, ranges_of}
use Rattle.settings.specs.Outcome.{told, unranked}
use Rattle.report.specs.declared.Report.{Report}
use Rattle.report.specs.Rules.{rule, own_order}
use Rattle.report.specs.Beams.{said}

-- what was given is the answer, and no refusal applies
told_ok : {A : Type 0} {x y : A} (s : Sizes) (k : ℕ) → Ok y ≡ told x s k → (k ≡ 0) × (y ≡ x)
told_ok s zero e = (refl, cc)
told_ok s (suc k) e = absurd (cc)

told_refused : {A : Type 0} (x : A) (s : Sizes) {e : Refusal} (k : ℕ) → Err e ≡ outcome k
    → Err record { refusal = e; sizes = s } ≡ told x s k
told_refused x s zero p = absurd (cc)
told_refused x s (suc k) p = cc

-- the first of three refusals and of those after them
abbrev ordered : Bool → Bool → Bool → ℕ → ℕ
ordered a b c k = cond (not a) 1 (cond (not b) 2 (cond (not c) 4 k))

module _ (r : Report) where
  abbrev pub by_indices : ℕ → ℕ → ℕ → ℕ → ℕ
  by_indices i11 i12 i13 i2 =
      cond (leb i11 r.i11) 6 (cond (leb i12 r.i12) 7 (cond (leb i13 r.i13) 8 (cond (leb i2 r.i2) 9 0)))

  -- what is said of the ranges, and the first refusal
  abbrev ranges : Result Ranges Refused
  ranges = told (ranges_of r.n1 r.n2 r.mode r.v) (sizes_of r.n1 r.n2) (unranked r.n1 r.n2 r.mode r.v)

  abbrev pub number : ℕ
  number = first (rule r) own_order

  -- where the setting, the mode or the rank is none, that is the first refusal
  pub unranked_said : {e : Refused} → Err e ≡ ranges → Err e ≡ said r number
  unfolding first rule
  unranked_said {e} = go (is_setting r.n1 r.n2) (is_mode r.mode) (is_rank (ports r.n1 r.n2) r.v) _
    where
      go : (a b c : Bool) (k : ℕ)
          → Err e ≡ told (ranges_of r.n1 r.n2 r.mode r.v) (sizes_of r.n1 r.n2) (ordered a b c 0)
          → Err e ≡ said r (ordered a b c k)
      go false b c k p = cc
      go true false c k p = cc
      go true true false k p = cc
      go true true true k p = absurd (cc)

  -- and where none is, it is that of the indices
  ranked_first : unranked r.n1 r.n2 r.mode r.v ≡ 0
      → let w = ranges_of r.n1 r.n2 r.mode r.v in
      number ≡ by_indices w.i11 w.i12 w.i13 w.i2
  unfolding first rule
  ranked_first = go (is_setting r.n1 r.n2) (is_mode r.mode) (is_rank (ports r.n1 r.n2) r.v) _ _ _ _
    where
      go : (a b c : Bool) (i11 i12 i13 i2 : ℕ) → ordered a b c 0 ≡ 0
          → let few = a && b && c in
          ordered a b c (by_indices i11 i12 i13 i2)
          ≡ by_indices (cond few i11 0) (cond few i12 0) (cond few i13 0) (cond few i2 0)
      go false b c i11 i12 i13 i2 p = absurd (cc)
      go true false c i11 i12 i13 i2 p = absurd (cc)
      go true true false i11 i12 i13 i2 p = absurd (cc)
      go true true true i11 i12 i13 i2 p = refl

  -- ranges that were given tell the first refusal, and what the setting has
  module _ {w : Ranges} (e : Ok w ≡ ranges) where
    given : (unranked r.n1 r.n2 r.mode r.v ≡ 0) × (w ≡ ranges_of r.n1 r.n2 r.mode r.v)
    given = told_ok _ (unranked r.n1 r.n2 r.mode r.v) e

    pub given_first : number ≡ by_indices w.i11 w.i12 w.i13 w.i2
    given_first = ranked_first given.0 ∙ ap (λ (w : Ranges). by_indices w.i11 w.i12 w.i13 w.i2) (sym given.1)

    pub given_sizes : w.sizes ≡ sizes_of r.n1 r.n2
    given_sizes = ap (λ (w : Ranges). w.sizes) given.1

    -- an index is refused
    pub index_said : {k : Refusal} → Err k ≡ outcome (by_indices w.i11 w.i12 w.i13 w.i2)
        → Err record { refusal = k; sizes = w.sizes } ≡ said r number
    index_said p = rw (given_first, ← given_sizes) (told_refused _ w.sizes (by_indices w.i11 w.i12 w.i13 w.i2) p)
