-- Each public function of the crate has one outcome on every input: any two that its contract admits are equal, the answer
-- and, where there is one, the reader that is left or every byte of the buffer.
use mathlib.Core.Path.{◌≡◌, sym, ap, ◌∙◌}
use mathlib.Core.Bool.{true≢false}
use mathlib.Core.List.{List}
use Prim.Native.Nat.{ℕ, ◌<◌}
use native.Mathlib.Omega.{arith}
use lib.Dec.{ltb}
use denote.Ref.{Bor}
use borrow.Author.Tests.{ltb-true, ltb-false}
use Rattle.ground.specs.Unique.{Unique, UniqueLeft}
use Rattle.ground.proofs.Booleans.{either}
use Rattle.coding.proofs.Placed.{one_placing}
use Rattle.logs.specs.declared.Answer.{Answer}
use Rattle.logs.specs.declared.Contents.{Contents}
use Rattle.logs.specs.declared.LogStep.{LogStep}
use Rattle.logs.specs.declared.Reader.{Reader}
use Rattle.logs.specs.declared.Taken.{Taken}
use Rattle.logs.specs.Answer.{step_of, Starts, Steps, Holds}
use Rattle.logs.proofs.Answers.{one_answer, one_next, kind_report}
use Rattle.logs.proofs.Several.{all_one}
use Rattle.logs.proofs.taken_at.Reads as taken_at
use Rattle.logs.proofs.reports_in.Reads as reports-in
use Rattle.logs.proofs.LogStepFromTaken.from.Reads as from
use Rattle.logs.proofs.step_at.Reads as step-at
use Rattle.coding.proofs.write.Reads as write
use Rattle.logs.proofs.write_all.Reads as write-all
use Rattle.logs.proofs.Reader.new.Reads as reader-new
use Rattle.logs.proofs.Reader.next.Reads as reader-next

one_taken : {t u : Taken} → step_of t.answer t.next ≡ step_of u.answer u.next → t ≡ u
one_taken {t} {u} e = λ i. record {
  answer = one_answer t.next u.next t.answer u.answer e i;
  next = one_next t.next u.next t.answer u.answer e i;
}

pub taken_at_unique : Unique taken_at.Learnt
taken_at_unique k a r r' e e' p q = one_taken (p ∙ sym q)

pub from_unique : Unique from.Learnt
from_unique k a r r' e e' p q = p ∙ sym q

pub step_at_unique : Unique step-at.Learnt
step_at_unique k a r r' e e' p q = p ∙ sym q

-- a report that one counts is none that comes last for the other
not_fewer : {log : List ℕ} {c d : Contents} → Holds log c → Holds log d → c.reports < d.reports → ⊥
not_fewer {log} {c} {d} p q h =
    true≢false
    (sym
    (kind_report c.last.answer c.last.next (ap (λ (s : LogStep). s.kind) p.then ∙ q.before c.reports h))
    ∙ p.over)

one_holds : {log : List ℕ} {c d : Contents} → Holds log c → Holds log d → c ≡ d
one_holds {log} {c} {d} p q =
    either (ltb c.reports d.reports) (λ t. absurd (not_fewer p q (ltb-true _ _ t))) (λ t.
    either (ltb d.reports c.reports) (λ u. absurd (not_fewer q p (ltb-true _ _ u))) (λ u.
    let same : c.reports ≡ d.reports = omega
    (arith, ltb-false c.reports d.reports t, ltb-false d.reports c.reports u) in
    let last = one_taken (p.then ∙ rw same (sym q.then)) in
    λ i. record { reports = same i; last = last i }))

pub reports_in_unique : Unique reports-in.Learnt
reports_in_unique k a r r' e e' = one_holds

pub write_unique : UniqueLeft write.Learnt (λ k e. e.1.0.now)
write_unique k a r r' e e' = one_placing

pub write_all_unique : UniqueLeft write-all.Learnt (λ k e. e.1.0.now)
write_all_unique k a r r' e e' = all_one

-- ---- a reader: what follows is said of the one record that is the whole contract of the function

pub new_unique : {log : Bor (List ℕ)} {r r' : Reader} → Starts log r → Starts log r' → r ≡ r'
new_unique p q = λ i. record { log = (p.holds ∙ sym q.holds) i; at = (p.front ∙ sym q.front) i }

pub next_unique : {was is is' : Reader} {a a' : Answer} → Steps was a is → Steps was a' is' → (a ≡ a') × (is ≡ is')
next_unique {is = is} {is' = is'} {a = a} {a' = a'} p q =
    let same = p.gives ∙ sym q.gives in
    let place = one_next is.at is'.at a a' same in
    (one_answer is.at is'.at a a' same, λ i. record { log = (p.stays ∙ sym q.stays) i; at = place i })

-- and so of the contracts themselves

pub reader_new_unique : Unique reader-new.Learnt
reader_new_unique k a r r' e e' = new_unique

pub reader_next_unique : UniqueLeft reader-next.Learnt (λ k e. e.0.now)
reader_next_unique k a r r' e e' = next_unique
