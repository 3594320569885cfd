-- The two locals, as one record, are the unit after n records.
use Rattle.std.proofs.Common.{◌≡◌}
use Rattle.rules.specs.declared.Unit.{Unit}
use Rattle.run.specs.Run.{ran_to}
use Rattle.run.proofs.Turns.{unit_at}
use Rattle.run.proofs.run_to.Given as goal

abbrev pub invariant-loop-n : goal.invariant-loop-n
invariant-loop-n l =
    (l.out ≡ ran_to l.fn.trace l.n l.fn.out)
    × (◌≡◌ {A = Unit} (record { table = l.table; registers = l.r }) (unit_at l.fn.trace l.n))
