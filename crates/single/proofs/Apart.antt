-- How any two layers of a report are told apart: tests computed over all settings, ranks and rows of k.
use mathlib.Core.Path.{◌≡◌, subst}
use mathlib.Core.Bool.{Bool, true, false, cond, beq, ◌&&◌, ◌||◌}
use mathlib.Core.List.{List, [], ◌∷◌}
use mathlib.Core.Logic.{◌≢◌}
use Prim.Native.Nat.{ℕ, ◌<◌}
use native.Mathlib.Omega.{arith}
use lib.Dec.{T, eqb, ltb, eqb→eq, ltb→lt}
use lib.ListN.{length, get_or}
use Rattle.ground.specs.Lists.{every, each}
use Rattle.ground.proofs.Tests.{or_else, every_at}
use Rattle.turn.specs.declared.Beam.{Beam}
use Rattle.turn.specs.Apart.{agreeing, differing, Even}
use Rattle.settings.specs.Settings.{settings, ports}
use Rattle.settings.specs.Ranges.{beam, half_length, k_two, k_three, k_rows, i13_values}
use Rattle.settings.proofs.Known.{at_setting}
use Rattle.report.specs.declared.Report.{Report}
use Rattle.report.specs.Rules.{InRange}
use Rattle.report.specs.Beams.{is_half, moves}
use Rattle.report.proofs.InRange.{v_few, v_fits}
use Rattle.plan.proofs.Told.{two_beams}
use Rattle.single.specs.Columns.{Added, o, ½, f, f+½, Bracket, by_rank, place}
use Rattle.single.proofs.Layers.{bracket}

-- two rows of marks agree as often as they differ
abbrev pub half_agree : List Bool → List Bool → Bool
half_agree ms ns = eqb (agreeing ms ns) (differing ms ns)

-- ---- half-length beams

-- where half a turn is added to the quarters, by layer
abbrev pub marks : List (List Bool)
marks =
    (false ∷ false ∷ false ∷ false ∷ [])
    ∷ (false ∷ true ∷ false ∷ true ∷ [])
    ∷ (false ∷ false ∷ true ∷ true ∷ [])
    ∷ (false ∷ true ∷ true ∷ false ∷ []) ∷ []

abbrev pub marked : ℕ → List Bool
marked j = get_or marks j []

pub marks_even : (j k : ℕ) → j < 4 → k < 4 → j ≢ k → Even 4 (marked j) (marked k)
unfolding agreeing differing every
marks_even j k hj hk ne =
    let pair : ℕ → ℕ → Bool = λ j k. eqb j k || half_agree (marked j) (marked k) in
    let test = every_at 4 (pair j) (every_at 4 (λ j. every 4 (pair j)) tt j hj) k hk in
    let long = every_at 4 (λ j. eqb (length (marked j)) 4) tt in
    record {
      first = eqb→eq _ 4 (long j hj);
      second = eqb→eq _ 4 (long k hk);
      even = eqb→eq _ _ (or_else (eqb j k) (half_agree (marked j) (marked k)) (λ t. ne (eqb→eq j k t)) test);
    }

-- ---- whole beams

-- whether f is added to the second polarisation, and whether half a turn is
abbrev pub takes_f : Added → Bool
takes_f o = false
takes_f ½ = false
takes_f f = true
takes_f f+½ = true

abbrev pub takes_half : Added → Bool
takes_half o = false
takes_half ½ = true
takes_half f = false
takes_half f+½ = true

abbrev pub second : Added → List Bool
second y = false ∷ takes_half y ∷ []

-- so that the second polarisations of two brackets are opposite
abbrev pub opposite : Added → Added → Bool
opposite y y' = beq (takes_f y) (takes_f y') && half_agree (second y) (second y')

-- the beams k and k′ steps of (O1,O2) from B are two, not one
abbrev pub distinct : ℕ → ℕ → Beam → Beam → Bool
distinct n1 n2 k k' = two_beams n1 n2 k.l k.m k'.l k'.m

-- two brackets, with the moves ks of the beams, are told apart by the one or the other
abbrev pub told_by : ℕ → ℕ → List Beam → Bracket → Bracket → Bool
told_by n1 n2 ks x y =
    opposite x.added y.added
    || distinct n1 n2 (get_or ks (place x.beam) (beam 0 0)) (get_or ks (place y.beam) (beam 0 0))

-- the layers j and k of a report
abbrev pair_apart : Report → ℕ → ℕ → Bool
pair_apart r j k = eqb j k || told_by r.n1 r.n2 (moves r) (bracket r.v j) (bracket r.v k)

-- the moves depend on four numbers of the report alone
abbrev asked : ℕ → ℕ → ℕ → ℕ → Report
asked n1 n2 v i13 = record { n1 = n1; n2 = n2; mode = 1; v = v; i11 = 0; i12 = 0; i13 = i13; i2 = 0 }

-- any two layers at a row of k; at a rank of whole beams, up to P; and at a setting
abbrev row_apart : ℕ → ℕ → ℕ → ℕ → Bool
row_apart n1 n2 v i13 = every v (λ j. every v (pair_apart (asked n1 n2 v i13) j))

abbrev rank_apart : ℕ → ℕ → ℕ → Bool
rank_apart n1 n2 v =
    ltb (ports n1 n2) v || (half_length (ports n1 n2) v || every (length (k_rows n1 n2 v)) (row_apart n1 n2 v))

abbrev setting_apart : ℕ → ℕ → Bool
setting_apart n1 n2 = every 9 (rank_apart n1 n2)

settings_apart : T (each (λ s. setting_apart s.0 s.1) settings)
unfolding settings each every by_rank moves half_length k_rows k_two k_three agreeing differing
settings_apart = tt

pub layers_apart : (r : Report) → InRange r → is_half r ≡ false → (j k : ℕ) → j < r.v → k < r.v → j ≢ k
    → T (told_by r.n1 r.n2 (moves r) (bracket r.v j) (bracket r.v k))
unfolding moves half_length k_rows i13_values
layers_apart r h e j k hj hk ne =
    let p = ports r.n1 r.n2 in
    let n = length (k_rows r.n1 r.n2 r.v) in
    let row = row_apart r.n1 r.n2 r.v in
    let setting = at_setting r.n1 r.n2 setting_apart settings_apart h.setting in
    let rank = every_at 9 (rank_apart r.n1 r.n2) setting r.v (omega (arith, v_few r h)) in
    let fits = or_else (ltb p r.v) _ (λ t. omega (arith, ltb→lt p r.v t, v_fits r h)) rank in
    let rows = or_else (half_length p r.v) (every n row) (λ t. subst T e t) fits in
    let pairs = every_at n row rows r.i13 (subst (λ (b : Bool). r.i13 < cond b 4 n) e h.i13) in
    let pair = every_at r.v (pair_apart r j) (every_at r.v (λ j. every r.v (pair_apart r j)) pairs j hj) k hk in
    or_else (eqb j k) _ (λ t. ne (eqb→eq j k t)) pair
