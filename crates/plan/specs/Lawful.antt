-- What a codebook has to show: what its rules leave, that its plans are sound, and which bits its reports read.
use Rattle.std.specs.Prelude.{◌≡◌, ◌↔◌, true, ℕ, ◌+◌, ◌*◌, ◌<◌, T}
use Rattle.ground.specs.Lists.{among}
use Rattle.ground.specs.First.{numbered, part, None}
use Rattle.plan.specs.Plan.{beams_across, layer_at}
use Rattle.plan.specs.Sound.{Sound}
use Rattle.plan.specs.Masks.{three_bits}
use Rattle.plan.specs.Answer.{Codebook, own}

-- `InRange` is the codebook's own word for a report that its rules allow.
pub record Lawful {R : Type 0} (b : Codebook R) (InRange : R → Type 0) : Type 0 where
  -- no number is 0, and 10, 13 and 11 are in the order
  pub order_numbered : T (numbered b.order)
  pub last_three : T (among 10 b.order) × T (among 13 b.order) × T (among 11 b.order)
  -- a report is in range exactly when none of the codebook's own tests holds
  pub in_range : (r : R) → None (b.rule r) (part own b.order) ↔ InRange r
  pub sound : (r : R) → InRange r → Sound (b.plan r)
  -- every bit that a report reads lies in the mask; and where the mask has a bit for each beam, that of each layer's beam is read
  pub within : (r : R) → InRange r → (k : ℕ) → T (among k (b.bits_read r)) → k < 8 * b.mask_bytes r
  pub beams_read_lem : (r : R) → InRange r → b.beamed r ≡ true → (j : ℕ) → j < (b.plan r).v
      → let x = layer_at (b.plan r) j in T (among (b.width r * x.l + x.m) (b.bits_read r))
  -- and where beams have half their length, so are the three bits of each
  pub neighbours_read : (r : R) → InRange r → b.is_half r ≡ true → (j : ℕ) → j < (b.plan r).v
      → let x = layer_at (b.plan r) j in
      (k : ℕ) → T (among k (three_bits (beams_across (b.plan r)) (b.width r) x.l x.m)) → T (among k (b.bits_read r))
