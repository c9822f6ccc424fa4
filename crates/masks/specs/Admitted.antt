-- The shared refusals among a codebook's own: 3 stands after 1 and 2, 5 after 4, and 10, 13 and 11 stand last.
use Rattle.std.specs.Prelude.{Bool, false, not, ◌||◌, List, map, ℕ, ◌+◌, ◌*◌, eqb, ltb, length, Result, Ok, Err}
use Rattle.ground.specs.Cases.{◌⇒◌∣◌}
use Rattle.offsets.specs.Offsets.{unfit}
use Rattle.turn.specs.declared.Beam.{Beam}
use Rattle.refusal.specs.declared.Refusal.{Refusal}
use Rattle.refusal.specs.Outcome.{refused, outcome}
use Rattle.plan.specs.Masks.{barred, rank_barred}
use Rattle.masks.specs.declared.Needs.{Needs}

-- the bits of beams, in a mask of so many bits for each l
unfoldable pub bits_of : ℕ → List Beam → List ℕ
bits_of width xs = map (λ x. width * x.l + x.m) xs

-- a refusal of this number
abbrev pub is_refused : ℕ → Result Unit Refusal → Bool
is_refused n (Ok _) = false
is_refused n (Err k) = eqb k.number n

-- the first refusal of two outcomes
abbrev pub then : Result Unit Refusal → Result Unit Refusal → Result Unit Refusal
then (Ok _) y = y
then (Err k) y = Err k

-- what is tried before the bits
unfoldable pub before_bits : Needs → ℕ → ℕ → Result Unit Refusal
before_bits x bytes ranks =
    is_refused 1 x.own || is_refused 2 x.own ⇒ x.own
    ∣ not (eqb bytes x.bytes) ⇒ Err (refused 3)
    ∣ is_refused 4 x.own ⇒ x.own
    ∣ rank_barred ranks x.v ⇒ Err (refused 5)
    ∣ x.own

-- the first refusal that applies
unfoldable pub admitted : Needs → List ℕ → ℕ → List ℕ → ℕ → Result Unit Refusal
admitted x mask ranks offsets room =
    then (before_bits x (length mask) ranks) (outcome (
    barred mask (bits_of x.width x.beams.now) ⇒ 10
    ∣ unfit x.ports offsets ⇒ 13
    ∣ ltb room x.entries ⇒ 11
    ∣ 0))
