-- The table with the flags set in its first entries.
use Rattle.std.proofs.Common.{◌≡◌}
use Rattle.rules.specs.Step.{with_flags}
use Rattle.unit_step.proofs.Prefix.{up_to}
use Rattle.unit_step.proofs.table.with_flags_in_all.Given as goal

abbrev pub invariant-loop-d : goal.invariant-loop-d
invariant-loop-d l = l.d-items ≡ up_to (with_flags l.fn.mask) l.d-index l.fn.t
