-- One report in a lent buffer: what a call that writes it gives and leaves, in each of its cases.
use Rattle.std.proofs.Common.{◌≡◌, sym, ap, ◌∙◌, true, false, ℕ, ◌+◌, ◌≤◌, List, length, Result, Ok, Err}
use borrow.Author.Tests.{leb-true}
use Rattle.ground.specs.Lent.{laid, Adds}
use Rattle.ground.proofs.Adds.{adds_laid}
use Rattle.ground.proofs.Booleans.{either}
use Rattle.report.specs.declared.Report.{Report}
use Rattle.coding.specs.declared.NoRoom.{NoRoom}
use Rattle.coding.specs.Coding.{coded, has_room, no_room, WritesReport}

module _ (r : Report) (from : ℕ) (lent : List ℕ) where
  pub not_placed : has_room r from (length lent) ≡ false → WritesReport r from lent (Err (no_room from)) lent
  not_placed e = record { gives = rw e; leaves = rw e }

  pub placed : {next : ℕ} {left : List ℕ} → has_room r from (length lent) ≡ true → Adds (coded r) from lent next left
      → WritesReport r from lent (Ok next) left
  placed e a = record { gives = rw e (ap Ok a.long); leaves = rw e (adds_laid a) }

-- ---- by what is given

-- what a call that found room has done
pub record Placed (r : Report) (from : ℕ) (lent : List ℕ) (next : ℕ) (left : List ℕ) : Type 0 where
  pub has : has_room r from (length lent) ≡ true
  pub room : from + length (coded r) ≤ length lent
  pub place : next ≡ from + length (coded r)
  pub stands : left ≡ laid (coded r) from lent

-- and one that found none
pub record NotPlaced (r : Report) (from : ℕ) (lent left : List ℕ) : Type 0 where
  pub has : has_room r from (length lent) ≡ false
  pub stays : left ≡ lent

module _ {r : Report} {from : ℕ} {lent left : List ℕ} where
  pub is_placed : {next : ℕ} → WritesReport r from lent (Ok next) left → Placed r from lent next left
  unfolding has_room
  is_placed {next} w =
      either (has_room r from (length lent))
      (λ t. record { has = t; room = leb-true _ _ t; place = same (rw t at w.gives); stands = rw t at w.leaves })
      (λ t. absurd (not_both (rw t at w.gives)))
    where
      same : {m n : ℕ} → ◌≡◌ {A = Result ℕ NoRoom} (Ok m) (Ok n) → m ≡ n
      same e = cc

      not_both : {n : ℕ} {e : NoRoom} → ◌≡◌ {A = Result ℕ NoRoom} (Ok n) (Err e) → ⊥
      not_both e = cc

  pub is_not_placed : {e : NoRoom} → WritesReport r from lent (Err e) left → NotPlaced r from lent left
  is_not_placed {e} w =
      either (has_room r from (length lent))
      (λ t. absurd (not_both (rw t at w.gives)))
      (λ t. record { has = t; stays = rw t at w.leaves })
    where
      not_both : {n : ℕ} {e : NoRoom} → ◌≡◌ {A = Result ℕ NoRoom} (Err e) (Ok n) → ⊥
      not_both e = cc

-- ---- one outcome

pub one_placing : {r : Report} {from : ℕ} {lent left left' : List ℕ} {given given' : Result ℕ NoRoom}
    → WritesReport r from lent given left → WritesReport r from lent given' left' → (given ≡ given') × (left ≡ left')
one_placing p q = (p.gives ∙ sym q.gives, p.leaves ∙ sym q.leaves)
