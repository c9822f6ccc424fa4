-- What `admit` gives is the refusal of any codebook that hands over what it asks for.
use mathlib.Core.Path.{◌≡◌, refl, sym, ap, ap₂, ◌∙◌, subst}
use mathlib.Core.Logic.{◌≢◌}
use mathlib.Core.Bool.{Bool, true, false, cond, not, ◌&&◌}
use mathlib.Core.List.{List, [], ◌∷◌, ◌++◌}
use Prim.Native.Nat.{ℕ, zero, suc, ◌<◌}
use native.Mathlib.Omega.{arith}
use lib.Dec.{T, eqb, ltb, leb, ltb→lt}
use lib.ListN.{length}
use borrow.Author.Tests.{eqb-true, eqb-false, lt-ltb, ne_eqb}
use Rattle.std.specs.Prelude.{Result}
use Rattle.ground.specs.Cases.{◌⇒◌∣◌}
use Rattle.ground.specs.Lists.{each}
use Rattle.ground.specs.First.{first, numbered}
use Rattle.ground.proofs.Booleans.{cond_both}
use Rattle.ground.proofs.Tests.{and_left, and_right, two_le}
use Rattle.ground.proofs.First.{first_none, first_stop, none_first}
use Rattle.refusal.specs.declared.Refusal.{Refusal}
use Rattle.refusal.specs.Outcome.{outcome}
use Rattle.plan.specs.Masks.{rank_barred}
use Rattle.plan.specs.Answer.{Codebook, own, asked, early, test, refusal}
use Rattle.masks.specs.declared.Needs.{Needs}
use Rattle.masks.specs.Admitted.{is_refused, then, admitted}
use Rattle.masks.specs.Asks.{late, Asks}
use Rattle.masks.proofs.Given.{is_refused_at, Passed, gives_one, gives_two, gives_three, gives_four, passed}

-- ---- numbers that come late: all are above 5

late_after : (k : ℕ) (ks : List ℕ) → T (each late (k ∷ ks)) → 5 < k
unfolding each
late_after k ks t = ltb→lt 5 k (and_left (ltb 5 k) (own k) (and_left (late k) (each late ks) t))

late_numbered : (ks : List ℕ) → T (each late ks) → T (numbered ks)
unfolding numbered each
late_numbered [] t = tt
late_numbered (k ∷ ks) t =
    let h = late_after k ks t in
    rw (lt-ltb 0 k (omega arith)) (late_numbered ks (and_right (late k) (each late ks) t))

-- none of the numbers 1 to 5 is the first of them
first_late : (test : ℕ → Bool) (ks : List ℕ) → T (each late ks) → (k : ℕ) → T (leb 1 k && leb k 5) → first test ks ≢ k
unfolding first each
first_late test [] t k h = λ e. let l = two_le 1 k k 5 h in omega arith
first_late test (j ∷ ks) t k h =
    cond_both (λ n. n ≢ k) (test j) (λ e. let l = two_le 1 k k 5 h in let g = late_after j ks t in omega arith)
    (first_late test ks (and_right (late j) (each late ks) t) k h)

-- a refusal is not passed
stops : (k : ℕ) (y : Result Unit Refusal) → k ≢ 0 → then (outcome k) y ≡ outcome k
stops zero y h = absurd (h refl)
stops (suc k) y h = refl

-- ---- a codebook

module _ {R : Type 0} (b : Codebook R) (r : R) (mask : List ℕ) (ranks : ℕ) (offsets : List ℕ) (room : ℕ) where
  abbrev tested : ℕ → Bool
  tested = test b (asked r mask ranks offsets room)

  -- a late number has the codebook's own test
  late_own : (k : ℕ) → T (late k) → tested k ≡ b.rule r k
  unfolding test early
  late_own k t =
      let other : (n : ℕ) → (T (own n) → ⊥) → eqb k n ≡ false =
      λ n shared. ne_eqb k n (λ e. shared (subst (λ (j : ℕ). T (own j)) e (and_right (ltb 5 k) (own k) t))) in
      rw (other 10 (λ z. z), other 13 (λ z. z), other 11 (λ z. z), other 3 (λ z. z), other 5 (λ z. z))

  first_own : (ks : List ℕ) → T (each late ks) → first tested ks ≡ first (b.rule r) ks
  unfolding first each
  first_own [] t = refl
  first_own (k ∷ ks) t =
      ap₂ (λ (a : Bool) (n : ℕ). cond a k n) (late_own k (and_left (late k) (each late ks) t))
      (first_own ks (and_right (late k) (each late ks) t))

  module _ (rest : List ℕ) (x : Needs) (a : Asks b r rest x) where
    abbrev others : ℕ
    others = first (b.rule r) rest

    abbrev admits : ℕ → Type 0
    admits k = admitted x mask ranks offsets room ≡ outcome k

    -- the first of the rest is none of 1 to 5
    beyond : (k : ℕ) → T (leb 1 (suc k) && leb (suc k) 5) → x.own ≡ outcome others → is_refused (suc k) x.own ≡ false
    beyond k t e = rw (e, is_refused_at k others) (ne_eqb others (suc k) (first_late (b.rule r) rest a.rest_late (suc k) t))

    -- none of 1 to 5 applies
    past_five : (none : Bool) → eqb others 0 ≡ none → x.own ≡ outcome others → Passed x mask
        → rank_barred ranks x.v ≡ false → admits (first tested (rest ++ (10 ∷ 13 ∷ 11 ∷ [])))
    unfolding first test
    past_five true z e p ranked =
        let zero = eqb-true others 0 z in
        let own = e ∙ ap outcome zero in
        passed x mask ranks offsets room p
        ∙ rw (ranked, own, a.bits_are own, a.ports_are own, a.entries_are own)
        (ap outcome (sym (none_first tested rest (10 ∷ 13 ∷ 11 ∷ [])
        (first_none tested rest (late_numbered rest a.rest_late) (first_own rest a.rest_late ∙ zero)))))
    past_five false z e p ranked =
        let some = eqb-false others 0 z in
        let same = sym (first_own rest a.rest_late) in
        passed x mask ranks offsets room p
        ∙ rw (ranked, e, stops others _ some)
        (ap outcome (same ∙ sym (first_stop tested rest (10 ∷ 13 ∷ 11 ∷ []) (λ q. some (same ∙ q)))))

    -- neither 1 nor 2 applies
    own_first : (four : Bool) → x.own ≡ outcome (four ⇒ 4 ∣ others)
        → (is_refused 1 x.own ≡ false) × (is_refused 2 x.own ≡ false)
    own_first true e = (rw e, rw e)
    own_first false e = (beyond 0 tt e, beyond 1 tt e)

    bytes : is_refused 1 x.own ≡ false → is_refused 2 x.own ≡ false → x.bytes ≡ b.mask_bytes r
    bytes n1 n2 = a.bytes_are (λ e. let h = rw e at n1 in cc) (λ e. let h = rw e at n2 in cc)

    -- nor 3 or 4
    none_of_four : eqb (length mask) (b.mask_bytes r) ≡ true → x.own ≡ outcome others → Passed x mask
    none_of_four h e =
        let (n1, n2) = own_first false e in
        record {
          not_one = n1;
          not_two = n2;
          long = eqb-true (length mask) _ h ∙ sym (bytes n1 n2);
          not_four = beyond 3 tt e;
        }

    past_two : (fits four closed : Bool) → eqb (length mask) (b.mask_bytes r) ≡ fits
        → x.own ≡ outcome (four ⇒ 4 ∣ others) → rank_barred ranks x.v ≡ closed
        → admits (not fits ⇒ 3 ∣ four ⇒ 4 ∣ closed ⇒ 5 ∣ first tested (rest ++ (10 ∷ 13 ∷ 11 ∷ [])))
    past_two false four closed h e k =
        let (n1, n2) = own_first four e in
        gives_three x mask ranks offsets room n1 n2 (λ q. eqb-false (length mask) _ h (q ∙ bytes n1 n2))
    past_two true true closed h e k =
        let (n1, n2) = own_first true e in
        gives_four x mask ranks offsets room (eqb-true (length mask) _ h ∙ sym (bytes n1 n2)) e
    past_two true false true h e k = passed x mask ranks offsets room (none_of_four h e) ∙ rw k
    past_two true false false h e k = past_five _ refl e (none_of_four h e) k

    -- the shared refusals among the codebook's own are all its refusals, in its order
    pub admitted_refusal : admitted x mask ranks offsets room ≡ outcome (refusal b (asked r mask ranks offsets room))
    unfolding refusal first test early
    admitted_refusal =
        go (b.rule r 1) (b.rule r 2) a.own_is ∙ ap outcome (sym (ap (first tested) a.order_is))
      where
        go : (one two : Bool) → x.own ≡ outcome (one ⇒ 1 ∣ two ⇒ 2 ∣ b.rule r 4 ⇒ 4 ∣ others)
            → admits (one ⇒ 1 ∣ two ⇒ 2 ∣ first tested (3 ∷ 4 ∷ 5 ∷ (rest ++ (10 ∷ 13 ∷ 11 ∷ []))))
        go true two e = gives_one x mask ranks offsets room e
        go false true e = gives_two x mask ranks offsets room e
        go false false e = past_two _ (b.rule r 4) _ refl e (ap (rank_barred ranks) a.layers_are)
