-- The layers of a report: their beams, and their co-phases panel by panel.
use mathlib.Core.Path.{◌≡◌, refl, sym, ap, ap₂, ◌∙◌}
use mathlib.Core.Bool.{Bool, true, false, not, cond}
use mathlib.Core.List.{List, [], ◌∷◌}
use Prim.Native.Nat.{ℕ, suc, ◌+◌, ◌-◌, ◌*◌, ◌%◌, ◌<◌}
use native.Mathlib.Nat.{mod-lt, mod-eq_of_lt, mul-zero, add-zero}
use native.Mathlib.Omega.{arith}
use lib.Dec.{T, eqb, eqb→eq}
use lib.ListN.{length, get_or, length-map}
use borrow.Author.Tests.{eqb-true, eqb-false}
use Rattle.std.proofs.lemmas.List.{get_or-map}
use Rattle.ground.specs.Lists.{every, all_nil, all_cons}
use Rattle.ground.proofs.Booleans.{either, cond_both}
use Rattle.ground.proofs.Tests.{every_at}
use Rattle.turn.specs.declared.Beam.{Beam}
use Rattle.turn.specs.Phase.{half, eighth, phase}
use Rattle.turn.specs.Cancel.{Multiples}
use Rattle.turn.specs.Apart.{flipped, agreeing, differing, Even}
use Rattle.settings.specs.Settings.{across, down}
use Rattle.settings.specs.Ranges.{beam}
use Rattle.settings.proofs.Known as one
use Rattle.plan.specs.Plan.{layer_at}
use Rattle.multi.specs.declared.PanelReport.{PanelReport}
use Rattle.multi.specs.Panels.{φ, a, b, coefficients, co_phases, Name, B, Column, W¹, by_rank, reached, layer_of, plan}
use Rattle.multi.specs.Panels.{InRange}
use Rattle.multi.proofs.InRange.{set, v_some, v_few, mode_two_lem, four_panels}

-- ---- co-phases

-- a(p)·b(n) is p + n quarters of a turn
pub ab_quarters : (p n : ℕ) → phase (a p + b n) ≡ phase (φ (p + n))
ab_quarters p n = omega arith

-- those of W¹, and which of them have half a turn added: every second one
pub plain : List (ℕ × ℕ) → List ℕ
plain [] = []
plain (c ∷ cs) = c.0 ∷ c.1 ∷ plain cs

pub marks : List (ℕ × ℕ) → Bool → List Bool
marks [] minus = []
marks (c ∷ cs) minus = false ∷ minus ∷ marks cs minus

pub co_flipped : (cs : List (ℕ × ℕ)) (minus : Bool) → co_phases cs minus ≡ flipped (plain cs) (marks cs minus)
unfolding co_phases plain marks flipped
co_flipped [] minus = refl
co_flipped (c ∷ cs) minus =
    ap₂ {C = List ℕ} (λ x xs. x ∷ (c.1 + cond minus half 0) ∷ xs) (omega arith) (co_flipped cs minus)

length_marks : (cs : List (ℕ × ℕ)) (minus : Bool) → length (marks cs minus) ≡ length (plain cs)
unfolding plain marks
length_marks [] minus = refl
length_marks (c ∷ cs) minus = ap (λ (n : ℕ). suc (suc n)) (length_marks cs minus)

-- W¹ and W² agree in one polarisation and differ in the other
half_agree_lem : (cs : List (ℕ × ℕ)) (m n : Bool) → T (cond m (not n) n)
    → agreeing (marks cs m) (marks cs n) ≡ differing (marks cs m) (marks cs n)
unfolding marks agreeing differing
half_agree_lem [] m n t = refl
half_agree_lem (c ∷ cs) true false t = omega (arith, half_agree_lem cs true false t)
half_agree_lem (c ∷ cs) false true t = omega (arith, half_agree_lem cs false true t)
half_agree_lem (c ∷ cs) true true t = absurd t
half_agree_lem (c ∷ cs) false false t = absurd t

pub marks_even : (cs : List (ℕ × ℕ)) (m n : Bool) → T (cond m (not n) n)
    → Even (length (plain cs)) (marks cs m) (marks cs n)
marks_even cs m n t =
    record { first = length_marks cs m; second = length_marks cs n; even = half_agree_lem cs m n t }

pub length_co : (cs : List (ℕ × ℕ)) (minus : Bool) → length (co_phases cs minus) ≡ 2 * length cs
unfolding co_phases
length_co [] minus = refl
length_co (c ∷ cs) minus = omega (arith, length_co cs minus)

-- where those of W¹ are whole eighths of a turn, so are those of W²
half_added : (x : ℕ) (minus : Bool) → x % eighth ≡ 0 → (x + cond minus half 0) % eighth ≡ 0
half_added x true h = omega arith
half_added x false h = omega arith

multiples_co : (cs : List (ℕ × ℕ)) (minus : Bool) → Multiples eighth (plain cs) → Multiples eighth (co_phases cs minus)
unfolding plain co_phases
multiples_co [] minus h = all_nil
multiples_co (c ∷ cs) minus (all_cons p (all_cons q h)) =
    all_cons p (all_cons (half_added c.1 minus q) (multiples_co cs minus h))

-- ---- those of a report

pub co_eighths : (r : PanelReport) (minus : Bool) → Multiples eighth (co_phases (coefficients r) minus)
unfolding coefficients plain
co_eighths r minus =
    let whole : List (ℕ × ℕ) → Type 0 = λ cs. Multiples eighth (plain cs) in
    multiples_co (coefficients r) minus
    (cond_both whole (eqb r.mode 2)
    (all_cons refl (all_cons (omega arith) (all_cons (omega arith) (all_cons (omega arith) all_nil))))
    (cond_both whole (eqb r.ng 2)
    (all_cons refl (all_cons (omega arith) (all_cons (omega arith) (all_cons (omega arith) all_nil))))
    (all_cons refl (all_cons (omega arith) (all_cons (omega arith) (all_cons (omega arith)
    (all_cons (omega arith) (all_cons (omega arith) (all_cons (omega arith) (all_cons (omega arith) all_nil))))))))))

-- the columns of a rank, and that of layer j
abbrev pub columns : ℕ → List Column
columns v = get_or by_rank (v - 1) []

abbrev pub column : ℕ → ℕ → Column
column v j = get_or (columns v) j (W¹ B)

module _ (r : PanelReport) (h : InRange r) where
  -- a pair of co-phases for each panel
  pub panel_each : length (coefficients r) ≡ r.ng
  unfolding coefficients
  panel_each =
      either (eqb r.mode 2) (λ e. rw e (sym (mode_two_lem r h (eqb-true _ 2 e))))
      (λ e.
      rw e
      (either (eqb r.ng 2) (λ f. rw f (sym (eqb-true _ 2 f))) (λ f. rw f (sym (four_panels r h (eqb-false _ 2 f))))))

  -- v layers at rank v
  length_rank : length (columns r.v) ≡ r.v
  unfolding by_rank every
  length_rank =
      let ranks = every_at 4 (λ k. eqb (length (get_or by_rank k [])) (k + 1)) tt in
      eqb→eq _ (r.v - 1 + 1) (ranks (r.v - 1) (omega (arith, v_some r h, v_few r h))) ∙ omega (arith, v_some r h)

  pub length_layers : length (plan r).layers ≡ r.v
  length_layers = length-map (columns r.v) (layer_of r) ∙ length_rank

  pub layer_is : (j : ℕ) → j < r.v → layer_at (plan r) j ≡ layer_of r (column r.v j)
  layer_is j k = get_or-map (layer_of r) (columns r.v) j (W¹ B) _ (omega (arith, length_rank))

  -- its beams lie within the setting, and B is (i11,i12)
  pub within : (x : Name) → ((reached r x).l < across r.n1) × ((reached r x).m < down r.n2)
  unfolding reached
  within x =
      let k = one.known r.n1 r.n2 (set r h).one_panel in
      (mod-lt _ k.across_some, mod-lt _ k.down_some)

  pub base_is : reached r B ≡ beam r.i11 r.i12
  unfolding reached
  base_is =
      ap₂ {C = Beam} beam
      (rw (mul-zero, add-zero) (mod-eq_of_lt h.i11))
      (rw (mul-zero, add-zero) (mod-eq_of_lt h.i12))
