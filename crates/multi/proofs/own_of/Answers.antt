-- A report that is not refused has its numbers in range.
use mathlib.Core.Path.{◌≡◌, refl, sym, ap, ◌∙◌}
use mathlib.Core.Bool.{true, false≢true}
use Prim.Native.Nat.{ℕ, zero, suc}
use Rattle.std.specs.Prelude.{Result, is_ok}
use Rattle.refusal.specs.declared.Refusal.{Refusal}
use Rattle.refusal.specs.Outcome.{outcome}
use Rattle.multi.proofs.InRange.{zero_in_range}
use Rattle.multi.proofs.own_of.Goals as goal

none_where_ok : (k : ℕ) {r : Result Unit Refusal} → r ≡ outcome k → is_ok r ≡ true → k ≡ 0
none_where_ok zero e t = refl
none_where_ok (suc k) e t = absurd (false≢true (sym (ap is_ok e) ∙ t))

pub beams-requires : goal.beams-requires
beams-requires c =
    zero_in_range _ (none_where_ok _ c.refusal.ensures (sym c.map_err.ensures.variant ∙ ap is_ok c.in_ok-map_err.was))
