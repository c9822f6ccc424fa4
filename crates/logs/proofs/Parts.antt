-- A part of a log: a step needs forty bytes at most, so what is read from a part that has so many, or all that are left, is
-- the step of the log.
use mathlib.Core.Path.{◌≡◌, refl, sym, ap, ◌∙◌}
use mathlib.Core.Logic.{◌⊎◌, inl, inr}
use mathlib.Core.List.{List, [], ◌∷◌}
use Prim.Native.Nat.{ℕ, zero, suc, ◌+◌, ◌-◌, ◌*◌, ◌%◌, ◌^◌, ◌<◌, ◌≤◌}
use native.Mathlib.Omega.{arith}
use lib.Dec.{ltb}
use lib.ListN.{length, take, drop, length-take, length-drop}
use lib.Seq.{take_all, drop-drop}
use Rattle.std.proofs.lemmas.List.{drop-take}
use borrow.Author.Tests.{ltb-true, ltb-false}
use Rattle.ground.proofs.Booleans.{either}
use Rattle.groups.specs.Number.{Found, value, fault, is_padded, is_large, scan, number_at}
use Rattle.groups.proofs.Bytes.{not_fifth, scan_bounds}
use Rattle.logs.specs.declared.LogStep.{LogStep}
use Rattle.logs.specs.Log.{after, takes, step_at}
use Rattle.logs.specs.Relied.{moved_by}
use Rattle.logs.proofs.Taking.{step_end, step_begins, takes_by}

-- ---- bytes after the last that is looked at

-- a number is told by five bytes
scan_front : (j : ℕ) (bs : List ℕ) (i s at : ℕ) → i ≤ 4 → 5 ≤ i + j → scan i s at (take j bs) ≡ scan i s at bs
unfolding scan
scan_front zero bs i s at few enough = absurd (omega arith)
scan_front (suc j) [] i s at few enough = refl
scan_front (suc j) (b ∷ bs) i s at few enough =
    either (is_large i b) (λ l. rw l) (λ l.
    either (ltb b 128) (λ h. rw (l, h)) (λ h.
    let not_four = not_fifth i b l (ltb-false b 128 h) in
    rw (l, h, scan_front j bs (i + 1) (s + b % 128 * 128 ^ i) (at + 1) (fewer i few not_four) (omega arith))))
  where
    fewer : (i : ℕ) → i ≤ 4 → (i ≡ 4 → ⊥) → i + 1 ≤ 4
    fewer i few not_four = omega arith

drop_take : (m n : ℕ) (xs : List ℕ) → m ≤ n → drop m (take n xs) ≡ take (n - m) (drop m xs)
drop_take m n xs h = let all : m + (n - m) ≡ n = omega arith in rw all at (drop-take m (n - m) xs)

module _ (log : List ℕ) (n : ℕ) where
  number_front : (at : ℕ) → at + 5 ≤ n → number_at (take n log) at ≡ number_at log at
  number_front at h =
      ap (scan 0 0 at) (drop_take at n log (omega arith)) ∙ scan_front (n - at) (drop at log) 0 0 at (omega arith)
      (omega arith)

  takes_front : (from left : ℕ) (got : List ℕ) (at : ℕ) → at + 5 * left ≤ n
      → takes (take n log) from left got at ≡ takes log from left got at
  unfolding takes after
  takes_front from =
      takes_by log from
      (λ (left : ℕ) (got : List ℕ) (at : ℕ) (s : LogStep). at + 5 * left ≤ n → takes (take n log) from left got at ≡ s)
      (λ got at h. refl)
      (λ left got at k next s found rest h.
      let b = (scan_bounds (drop at log) 0 0 at found).five (omega arith) in
      ap (after (takes (take n log) from left) from got) (number_front at (omega arith) ∙ found) ∙ rest (omega arith))
      (λ left got at k p found h. ap (after (takes (take n log) from left) from got)
      (number_front at (omega arith) ∙ found))

  step_front : (at : ℕ) → at + 40 ≤ n → step_at (take n log) at ≡ step_at log at
  step_front at h =
      either (ltb at (length log))
      (λ t.
      let inside = ltb-true at (length log) t in
      let part : at < length (take n log) = rw (length-take n log) (omega arith) in
      step_begins (take n log) at part ∙ takes_front at 8 [] at (omega arith) ∙ sym (step_begins log at inside))
      (λ t.
      let past = ltb-false at (length log) t in
      let part : length (take n log) ≤ at = rw (length-take n log) (omega arith) in
      step_end (take n log) at part ∙ sym (step_end log at past))

-- ---- bytes before the first

abbrev later : ℕ → Found → Found
later d (value n next) = value n (d + next)
later d (fault k p) = fault k (d + p)

scan_later : (d : ℕ) (bs : List ℕ) (i s at : ℕ) → scan i s (d + at) bs ≡ later d (scan i s at bs)
unfolding scan
scan_later d [] i s at = refl
scan_later d (b ∷ bs) i s at =
    let next : d + at + 1 ≡ d + (at + 1) = omega arith in
    either (is_padded i b) (λ p. rw p) (λ p.
    either (is_large i b) (λ l. rw (p, l)) (λ l.
    either (ltb b 128) (λ h. rw (p, l, h, next)) (λ h.
    rw (p, l, h, next) (scan_later d bs (i + 1) (s + b % 128 * 128 ^ i) (at + 1)))))

module _ (log : List ℕ) (d : ℕ) where
  number_later : (at : ℕ) {f : Found} → number_at (drop d log) at ≡ f → number_at log (d + at) ≡ later d f
  number_later at e =
      ap (scan 0 0 (d + at)) (sym (drop-drop at d log)) ∙ scan_later d (drop at (drop d log)) 0 0 at ∙ ap (later d) e

  takes_later : (from left : ℕ) (got : List ℕ) (at : ℕ)
      → takes log (d + from) left got (d + at) ≡ moved_by d (takes (drop d log) from left got at)
  unfolding takes after
  takes_later from =
      takes_by (drop d log) from
      (λ (left : ℕ) (got : List ℕ) (at : ℕ) (s : LogStep). takes log (d + from) left got (d + at) ≡ moved_by d s)
      (λ got at. refl)
      (λ left got at n next s found rest.
      ap (after (takes log (d + from) left) (d + from) got) (number_later at found) ∙ rest)
      (λ left got at k p found. ap (after (takes log (d + from) left) (d + from) got) (number_later at found))

  pub step_later : (at : ℕ) → step_at log (d + at) ≡ moved_by d (step_at (drop d log) at)
  step_later at =
      either (ltb at (length (drop d log)))
      (λ t.
      let part = ltb-true at (length (drop d log)) t in
      let inside : d + at < length log = omega (arith, length-drop d log) in
      step_begins log (d + at) inside ∙ takes_later at 8 [] at ∙ ap (moved_by d) (sym (step_begins (drop d log) at part)))
      (λ t.
      let part = ltb-false at (length (drop d log)) t in
      let past : length log ≤ d + at = omega (arith, length-drop d log) in
      step_end log (d + at) past ∙ ap (moved_by d) (sym (step_end (drop d log) at part)))

-- What is read at a place of a part of a log, n bytes from the place `base` on, is what is read at the place of the log, if
-- forty bytes of the part are left there or the part has all that the log has left.
pub part_reads : (log : List ℕ) (base n at : ℕ) → (at + 40 ≤ n) ⊎ (length log ≤ base + n)
    → step_at log (base + at) ≡ moved_by base (step_at (take n (drop base log)) at)
part_reads log base n at (inl h) = step_later log base at ∙ ap (moved_by base) (sym (step_front (drop base log) n at h))
part_reads log base n at (inr h) =
    let all : take n (drop base log) ≡ drop base log = take_all n (drop base log) (omega (arith, length-drop base log)) in
    rw all (step_later log base at)
