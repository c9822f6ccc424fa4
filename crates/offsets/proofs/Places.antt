-- Offsets as they are read, one after the other: they are phases, and a column has the same entries with them as with the
-- offsets themselves.
use mathlib.Core.Path.{◌≡◌, refl, sym, ap, ◌∙◌}
use mathlib.Core.List.{List, map}
use Prim.Native.Nat.{ℕ, ◌+◌, ◌<◌, ◌≤◌, min}
use native.Mathlib.Nat.{mod-lt}
use native.Mathlib.Numerals.{add-one}
use native.Mathlib.Omega.{arith}
use lib.Dec.{lit<, ltb}
use lib.ListN.{length, take, get_or, set, replicate, length-map, get_or-eq_default, get_or-map}
use lib.Seq.{get_or-take, ext_get_or}
use Rattle.std.proofs.lemmas.List.{length-take, take_min, take-map}
use borrow.Author.Tests.{ltb-true, ltb-false}
use Rattle.ground.specs.Lists.{places, All}
use Rattle.ground.proofs.All.{all_at}
use Rattle.ground.proofs.Booleans.{either}
use Rattle.ground.proofs.Lists.{length_places, places_at, places_next}
use Rattle.turn.specs.Phase.{turn, phase}
use Rattle.offsets.specs.Offsets.{fed, reduced, Low}
use Rattle.offsets.proofs.Fed.{length_fed, fed_phase}

module _ (offsets : List ℕ) where
  -- ---- one after the other

  -- the first i are read
  abbrev pub read_to : ℕ → List ℕ
  read_to i = places 48 0 (take i (map phase offsets))

  pub read_none : replicate 48 0 ≡ read_to 0
  unfolding places
  read_none = refl

  -- of up to 32
  module _ (n : ℕ) (few : n ≡ min (length offsets) 32) where
    long : length (take n offsets) ≡ n
    long = simp length-take (omega arith)

    pub read_next : {xs : List ℕ} (i : ℕ) → xs ≡ read_to i → i < length (take n offsets)
        → set xs i (phase (get_or (take n offsets) i 0)) ≡ read_to (i + 1)
    read_next i e h =
        rw (e, add-one i, get_or-take n offsets i 0 (omega (arith, long)), sym (get_or-map phase offsets i 0))
        (places_next 48 0 (map phase offsets) i (omega (arith, length-map offsets phase, long)) (omega (arith, long)))

    pub read_all : {xs : List ℕ} (i : ℕ) → xs ≡ read_to i → i ≡ length (take n offsets) → xs ≡ reduced offsets
    unfolding reduced
    read_all i e done =
        let ps = map phase offsets in
        let all : i ≡ min 32 (length ps) = omega (arith, long, length-map offsets phase) in
        e ∙ ap (places 48 0) (ap (λ (k : ℕ). take k ps) all ∙ take_min 32 ps)

  -- ---- all of them

  reduced_at : (i : ℕ) → i < 48 → get_or (reduced offsets) i 0 ≡ phase (get_or (take 32 offsets) i 0)
  unfolding reduced
  reduced_at i h =
      places_at 48 0 (take 32 (map phase offsets)) i h
      ∙ ap (λ (xs : List ℕ). get_or xs i 0) (take-map phase 32 offsets)
      ∙ get_or-map phase (take 32 offsets) i 0

  length_reduced : length (reduced offsets) ≡ 48
  unfolding reduced
  length_reduced = length_places 48 0 (take 32 (map phase offsets))

  pub reduced_low : Low (reduced offsets)
  reduced_low = (
    length_reduced,
    λ i. either (ltb i 48) (λ t. rw (reduced_at i (ltb-true i 48 t)) (mod-lt _ (lit< tt)))
        (λ f.
        let past = ltb-false i 48 f in
        rw (get_or-eq_default (reduced offsets) 0 {n = i} (omega (arith, length_reduced))) (lit< tt)),
  )

  sum : (e o x : ℕ) → x ≡ phase o → phase (e + x) ≡ phase (e + o)
  sum e o x h = omega arith

  -- a column of at most 32 ports
  pub fed_reduced : (es : List ℕ) → length es ≤ 32 → All (λ e. e < turn) es → fed (reduced offsets) es ≡ fed offsets es
  fed_reduced es few below =
      let xs = reduced offsets in
      ext_get_or 0 _ _ (length_fed xs es ∙ sym (length_fed offsets es)) (λ i h.
      let here : i < length es = omega (arith, length_fed xs es) in
      let phased = all_at below 0 i here in
      let same = reduced_at i (omega arith) ∙ ap phase (get_or-take 32 offsets i 0 (omega arith)) in
      fed_phase xs es i here phased ∙ sum (get_or es i 0) (get_or offsets i 0) _ same ∙ sym (fed_phase offsets es i here phased))
