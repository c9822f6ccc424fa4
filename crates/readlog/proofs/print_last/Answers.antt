-- A fault's place lies within the part or at its end.
use Rattle.std.proofs.Common.{arith}
use Rattle.logs.proofs.Counted.{taken_fault}
use Rattle.readlog.proofs.print_last.Goals as goal

pub overflow_add-before : goal.overflow_add-before
overflow_add-before g c =
    let within = taken_fault _ _ c.taken_at.result c.taken_at.ensures _ c.in-Faulty.is in
    record { fits = omega (arith, within, c.requires) }
