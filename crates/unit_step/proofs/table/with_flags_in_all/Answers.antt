-- One turn more of the loop.
use Rattle.std.proofs.Common.{arith, add-one}
use Rattle.rules.specs.PowerOn.{blank}
use Rattle.rules.specs.Step.{with_flags}
use Rattle.unit_step.proofs.Prefix.{up_to_suc}
use Rattle.unit_step.proofs.table.with_flags_in_all.Goals as goal

pub loop-d-preserved : goal.loop-d-preserved
loop-d-preserved c =
    simp (c.with_flags.ensures, c.loop-d.invariant, add-one)
    (up_to_suc (with_flags c.args.mask) c.loop-d.d-index c.args.t blank (omega arith))
