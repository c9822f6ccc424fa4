-- What a report's own numbers say, read from either answer.
use mathlib.Core.Path.{◌≡◌, refl, ap}
use mathlib.Core.List.{[], ◌∷◌}
use Prim.Native.Nat.{ℕ, zero, suc}
use Rattle.std.specs.Prelude.{⊤, Result, Ok, Err}
use Rattle.std.proofs.lemmas.Result.{MatchResult-at_ok, MatchResult-at_err}
use Rattle.ground.specs.First.{first}
use Rattle.refusal.specs.Outcome.{outcome}
use Rattle.settings.specs.declared.Refused.{Refused}
use Rattle.settings.specs.Settings.{sizes_of}
use Rattle.settings.specs.Outcome.{told}
use Rattle.multi.specs.declared.PanelReport.{PanelReport}
use Rattle.multi.specs.declared.Own.{Own}
use Rattle.multi.specs.Panels.{B, B', reached, rule, own_order, InRange}
use Rattle.multi.specs.Own.{own_of}
use Rattle.multi.proofs.InRange.{zero_in_range}

module _ (r : PanelReport) where
  -- of one in range
  pub record Held (o : Own) : Type 0 where
    pub in_range : InRange r
    pub sizes : o.sizes ≡ sizes_of r.n1 r.n2
    pub beams : o.beams ≡ reached r B ∷ reached r B' ∷ []

  -- of one that is refused
  pub record Barred (e : Refused) : Type 0 where
    pub refusal : Err e.refusal ≡ outcome (first (rule r) own_order)
    pub sizes : e.sizes ≡ sizes_of r.n1 r.n2

  abbrev own_by : ℕ → Result Own Refused
  own_by = told (record { sizes = sizes_of r.n1 r.n2; beams = reached r B ∷ reached r B' ∷ [] }) (sizes_of r.n1 r.n2)

  held_by : (k : ℕ) {o : Own} → (k ≡ 0 → InRange r) → own_by k ≡ Ok o → Held o
  held_by zero h p =
      MatchResult-at_ok Held (λ e. ⊤) _ p (record { in_range = h refl; sizes = refl; beams = refl })
  held_by (suc k) h p = MatchResult-at_ok {r = own_by (suc k)} Held (λ e. ⊤) _ p tt

  barred_by : (k : ℕ) {e : Refused} → k ≡ first (rule r) own_order → own_by k ≡ Err e → Barred e
  barred_by zero q p = MatchResult-at_err {r = own_by zero} (λ o. ⊤) Barred _ p tt
  barred_by (suc k) q p =
      MatchResult-at_err (λ o. ⊤) Barred _ p (record { refusal = ap outcome q; sizes = refl })

  pub held : {o : Own} → own_of r ≡ Ok o → Held o
  held = held_by _ (zero_in_range r)

  pub barred : {e : Refused} → own_of r ≡ Err e → Barred e
  barred = barred_by _ refl
