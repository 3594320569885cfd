-- The first n records are refused.
use Rattle.std.proofs.Common.{◌≡◌}
use Rattle.board_run.specs.BoardRun.{refused_to}
use Rattle.board_run.proofs.refuse_to.Given as goal

abbrev pub invariant-loop-n : goal.invariant-loop-n
invariant-loop-n l = l.out ≡ refused_to l.n l.fn.out
