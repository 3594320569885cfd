-- The arrays hold the board after n records, and within a turn the first i units are stepped.
use Rattle.std.proofs.Common.{◌≡◌, ◌/◌, ◌^◌, length}
use Rattle.board_run.specs.BoardRun.{board_ran_to}
use Rattle.board_run.specs.Plan.{units_of}
use Rattle.board_run.proofs.Boards.{board_of}
use Rattle.board_run.proofs.Stepping.{Stepping}
use Rattle.board_run.proofs.Turns.{board_at}
use Rattle.board_run.proofs.run_to.Given as goal

abbrev pub invariant-loop-n : goal.invariant-loop-n
invariant-loop-n l =
    (length l.registers ≡ 16) × (length l.tables ≡ 1024)
    × (l.out ≡ board_ran_to l.fn.records l.fn.count l.n l.fn.out)
    × (board_of l.registers l.tables l.fn.count ≡ board_at l.fn.records l.fn.count l.n)

abbrev pub invariant-loop-i : goal.invariant-loop-i
invariant-loop-i l =
    (length l.registers ≡ 16) × (length l.tables ≡ 1024)
    × Stepping (units_of l.initial.registers l.initial.tables l.fn.count) l.fn.count l.selects l.c l.registers l.tables l.joint l.i
    (l.selects / 2 ^ l.i) (l.mask / 2 ^ l.i)
