-- What a lent buffer holds of a drawing's layers, with the offsets of their ports.
use Rattle.std.specs.Prelude.{◌≡◌, refl, List, [], ◌∷◌, map, ℕ, ◌%◌, ◌<◌, leb, ℤ, length}
use Rattle.ground.specs.Cases.{◌⇒◌∣◌}
use Rattle.std.proofs.Common.{ap, ap₂, arith}
use Rattle.ground.specs.Lists.{All, all_nil, all_cons}
use Rattle.turn.specs.Phase.{turn}
use Rattle.weight.specs.declared.Weight.{Weight}
use Rattle.weight.specs.Table.{entry, weight, numbers}
use Rattle.plan.specs.declared.Drawing.{Drawing}
use Rattle.plan.specs.Drawing.{layers_in}

-- the layers, by way of a buffer of `own` entries: all of them where there is room, and else nothing
abbrev pub fitting_in : List ℕ → Drawing → ℕ → ℕ → List ℕ
fitting_in offsets s own room = leb (length (layers_in offsets s own)) room ⇒ layers_in offsets s own ∣ []

-- by way of 272 entries: 8 layers of 32 ports, and sixteen more
unfoldable pub fitting : List ℕ → Drawing → ℕ → List ℕ
fitting offsets s room = fitting_in offsets s 272 room

-- the weights of phases, as they are stored, two numbers each; of nothing there are none
unfoldable pub weighed : List ℕ → List ℤ
weighed xs = numbers (map weight xs)

pub weighed_nothing : weighed [] ≡ []
unfolding weighed numbers
weighed_nothing = refl

-- the entries of the table that are looked up: of any number nine bits are read; of phases they are the weights
unfoldable pub looked_up : List ℕ → List ℤ
looked_up xs = numbers (map (λ e. entry (e % 512)) xs)

weight_below : (e : ℕ) → e < turn → entry (e % 512) ≡ weight e
unfolding weight
weight_below e h = ap entry (omega arith)

entries_below : {xs : List ℕ} → All (λ e. e < turn) xs → ◌≡◌ {A = List Weight} (map (λ e. entry (e % 512)) xs) (map weight xs)
entries_below all_nil = refl
entries_below (all_cons {x = x} h hs) = ap₂ {C = List Weight} ◌∷◌ (weight_below x h) (entries_below hs)

pub looked_up_phases : (xs : List ℕ) → All (λ e. e < turn) xs → looked_up xs ≡ weighed xs
unfolding looked_up weighed
looked_up_phases xs below = ap numbers (entries_below below)
