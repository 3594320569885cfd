-- The registers behind those that are left have been looked at, and the mask has a bit for each.
use Rattle.std.proofs.Common.{◌≡◌, ◌-◌, ◌<◌, ◌≤◌, ◌^◌, List, ◌++◌, length}
use Rattle.rules.specs.declared.Registers.{Registers}
use Rattle.board_run.specs.Plan.{DrivingFrom}
use Rattle.board_run.proofs.driving.Given as goal

abbrev pub invariant-loop-r : goal.invariant-loop-r
invariant-loop-r l =
    ((behind : List Registers) × (l.r-iterator.iter.rest.now ++ behind ≡ l.fn.registers))
    × (length l.r-iterator.iter.rest.now ≤ l.fn.count) × (l.mask < 2 ^ (16 - length l.r-iterator.iter.rest.now))
    × DrivingFrom l.fn.registers (length l.r-iterator.iter.rest.now) (l.fn.count - length l.r-iterator.iter.rest.now) l.fn.c l.mask l.drives l.clash
