-- The settings, the modes and the ranks as lists: what is in them, and that nothing is in them twice.
use mathlib.Core.Path.{◌≡◌, sym, ap₂, subst}
use mathlib.Core.Logic.{inl, inr}
use mathlib.Core.Bool.{Bool, true, cond, ◌&&◌}
use Prim.Native.Nat.{ℕ, ◌+◌, ◌<◌}
use native.Mathlib.Omega.{arith}
use lib.Dec.{T, eqb, eqb_refl, eqb→eq, ltb}
use borrow.Author.Tests.{ltb-true, ltb-false}
use Rattle.ground.specs.Lists.{some, Member, member_first, member_further, NoRepeats}
use Rattle.ground.proofs.Booleans.{is_true, cond_both, either}
use Rattle.ground.proofs.Tests.{or_cases, two_eq, and_both}
use Rattle.ground.proofs.Lists.{some_at, member_some, unlike, unlike_once}
use Rattle.ground.proofs.Members.{number_member, member_number, numbers_once}
use Rattle.settings.specs.Settings.{settings, is_setting}
use Rattle.settings.specs.Ranges.{is_mode, is_rank, modes, ranks_of}
use Rattle.settings.proofs.Ranked.{Rank, rank_of, of_rank}

-- ---- settings

abbrev same : ℕ × ℕ → ℕ × ℕ → Bool
same s t = eqb s.0 t.0 && eqb s.1 t.1

same_self : (s : ℕ × ℕ) → T (same s s)
same_self s = and_both (eqb s.0 s.0) (eqb s.1 s.1) (eqb_refl s.0) (eqb_refl s.1)

module _ (n1 n2 : ℕ) where
  pub setting_member : is_setting n1 n2 ≡ true → Member (n1, n2) settings
  unfolding is_setting
  setting_member e =
      member_some (same (n1, n2))
      (λ s t. let q = two_eq n1 s.0 n2 s.1 t in ap₂ {C = ℕ × ℕ} (λ a b. (a, b)) q.0 q.1) settings
      (subst T (sym e) tt)

  pub member_setting : Member (n1, n2) settings → is_setting n1 n2 ≡ true
  unfolding is_setting
  member_setting m = is_true _ (some_at (same (n1, n2)) m (same_self (n1, n2)))

pub settings_once : NoRepeats settings
unfolding settings some unlike
settings_once = unlike_once same same_self settings tt

-- ---- modes

module _ (mode : ℕ) where
  pub mode_member : is_mode mode ≡ true → Member mode modes
  unfolding modes
  mode_member e = elim (or_cases (eqb mode 1) (eqb mode 2) (subst T (sym e) tt)) [
    | inl t ↦ member_first (eqb→eq mode 1 t)
    | inr t ↦ member_further (member_first (eqb→eq mode 2 t))
  ]

  pub member_mode : Member mode modes → is_mode mode ≡ true
  unfolding modes
  member_mode (member_first e) = rw e
  member_mode (member_further (member_first e)) = rw e
  member_mode (member_further (member_further x6)) = elim x6 [ ]

pub modes_once : NoRepeats modes
unfolding modes some unlike
modes_once = unlike_once eqb eqb_refl modes tt

-- ---- ranks

module _ (p v : ℕ) where
  pub rank_member : is_rank p v ≡ true → Member v (ranks_of p)
  unfolding ranks_of
  rank_member e =
      let r = rank_of p v e in
      number_member 1 (cond (ltb p 8) p 8) r.v_some
      (cond_both (λ n. v < 1 + n) (ltb p 8) (omega (arith, r.v_fits)) (omega (arith, r.v_few)))

  pub member_rank : Member v (ranks_of p) → is_rank p v ≡ true
  unfolding ranks_of
  member_rank m =
      let h = member_number 1 (cond (ltb p 8) p 8) m in
      of_rank p v
      (either {A = Rank p v} (ltb p 8)
      (λ e.
      let few = ltb-true p 8 e in
      let last : v < 1 + p = rw e at h.1 in
      record { v_some = h.0; v_few = omega arith; v_fits = omega arith })
      (λ e.
      let many = ltb-false p 8 e in
      let last : v < 1 + 8 = rw e at h.1 in
      record { v_some = h.0; v_few = omega arith; v_fits = omega arith }))

pub ranks_once : (p : ℕ) → NoRepeats (ranks_of p)
unfolding ranks_of
ranks_once p = numbers_once 1 (cond (ltb p 8) p 8)
