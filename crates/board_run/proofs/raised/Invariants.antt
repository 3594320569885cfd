-- The descriptors of unit i, with the flags in the first of them.
use Rattle.std.proofs.Common.{◌≡◌}
use Rattle.rules.specs.Step.{with_flags}
use Rattle.unit_step.proofs.Prefix.{up_to}
use Rattle.board_run.specs.Plan.{table_of}
use Rattle.board_run.proofs.raised.Given as goal

abbrev pub invariant-loop-d : goal.invariant-loop-d
invariant-loop-d l = l.d-items ≡ up_to (with_flags l.fn.mask) l.d-index (table_of l.fn.tables l.fn.i)
