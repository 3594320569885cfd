-- What was found in the first units and what the others have are the whole.
use Rattle.std.proofs.Common.{◌≡◌, ◌||◌, ◌-◌}
use Rattle.board_run.specs.Plan.{asks_from, any_asks}
use Rattle.board_run.proofs.asks.Given as goal

abbrev pub invariant-loop-r : goal.invariant-loop-r
invariant-loop-r l = (l.trap || asks_from l.fn.registers l.r-index (l.count - l.r-index)) ≡ any_asks l.fn.registers l.count
