-- No setting has larger numbers, and at each smaller pair the table is compared with the list.
use mathlib.Core.Bool.{beq}
use Rattle.std.proofs.Common.{◌≡◌, Bool, false, eqb, ℕ, ◌/◌, ◌%◌, ◌^◌, ◌<◌, get_or, arith}
use Rattle.std.proofs.lemmas.Bool.Decides.{nat_tests}
use Rattle.ground.specs.Lists.{some, every}
use Rattle.ground.proofs.Booleans.{same_truth, is_false}
use Rattle.ground.proofs.Tests.{every_at}
use Rattle.settings.specs.declared.TheConstants.{SETTINGS}
use Rattle.settings.specs.Settings.{settings, is_setting}
use Rattle.settings.proofs.Known.{known}
use Rattle.settings.proofs.is_setting.Goals as goal

-- the code's table, by N2, says of (N1,N2) what the list of settings says
right : ℕ → ℕ → Bool
right n2 n1 = beq (eqb (get_or SETTINGS n2 0 / 2 ^ n1 % 2) 1) (is_setting n1 n2)

table_right : (n1 n2 : ℕ) → n1 < 17 → n2 < 5 → eqb (get_or SETTINGS n2 0 / 2 ^ n1 % 2) 1 ≡ is_setting n1 n2
unfolding right is_setting some settings every
table_right n1 n2 h k =
    same_truth _ _ (every_at 17 (right n2) (every_at 5 (λ n2. every 17 (right n2)) tt n2 k) n1 h)

pub returns-then-n2-le4 : goal.returns-then-n2-le4
returns-then-n2-le4 c = table_right _ _ (omega arith) (omega arith)

pub returns-else-n2-le4 : goal.returns-else-n2-le4
returns-else-n2-le4 c =
    let no : false ≡ is_setting c.args.n1 c.args.n2 = is_false _ (λ e. omega (arith, (known _ _ e).n1_few, (known _ _ e).n2_few)) in
    grind (arith, nat_tests, no)
