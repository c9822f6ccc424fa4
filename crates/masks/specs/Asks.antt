-- What a codebook hands over of a report, for the shared refusals to be tried among its own.
use Rattle.std.specs.Prelude.{◌≡◌, Bool, ◌&&◌, List, [], ◌∷◌, ◌++◌, ℕ, ◌*◌, T, ltb, Ok, Err}
use Rattle.ground.specs.Lists.{each}
use Rattle.ground.specs.First.{first}
use Rattle.refusal.specs.Outcome.{refused, outcome}
use Rattle.plan.specs.Answer.{Codebook, own}
use Rattle.masks.specs.declared.Needs.{Needs}
use Rattle.masks.specs.Admitted.{bits_of}

-- a number of the codebook's own that is tried after 5
abbrev pub late : ℕ → Bool
late k = ltb 5 k && own k

-- Of the report r: `rest` is what the codebook tries after 5 and before 10, 13 and 11. The bytes are asked for where neither
-- 1 nor 2 applies, the bits, the ports and the entries where none of its own refusals does.
pub record Asks {R : Type 0} (b : Codebook R) (r : R) (rest : List ℕ) (x : Needs) : Type 0 where
  pub order_is : b.order ≡ 1 ∷ 2 ∷ 3 ∷ 4 ∷ 5 ∷ (rest ++ (10 ∷ 13 ∷ 11 ∷ []))
  pub rest_late : T (each late rest)
  pub own_is : x.own ≡ outcome (first (b.rule r) (1 ∷ 2 ∷ 4 ∷ rest))
  pub bytes_are : (x.own ≡ Err (refused 1) → ⊥) → (x.own ≡ Err (refused 2) → ⊥) → x.bytes ≡ b.mask_bytes r
  pub layers_are : x.v ≡ (b.plan r).v
  pub bits_are : x.own ≡ Ok tt → bits_of x.width x.beams.now ≡ b.bits_read r
  pub ports_are : x.own ≡ Ok tt → x.ports ≡ (b.plan r).ports
  pub entries_are : x.own ≡ Ok tt → x.entries ≡ (b.plan r).v * (b.plan r).ports
