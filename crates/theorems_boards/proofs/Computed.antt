-- The definitions that stay shut, under two names, for tests that antt computes: those that the claims' conditions are made of, and all.
-- Assumes nothing.
use Prim.Native.Nat.{ℕ}
use Rattle.theorems_runs.proofs.Computed.{computed as single}
use Rattle.rules.specs.Refusals.{damaged, out_of_range}
use Rattle.board_rules.specs.Board.{seated, seen_by, some_of, two_of}
use Rattle.board_rules.specs.Computed.{board_computed}
use Rattle.theorems_boards.specs.Alone.{heard}
use Rattle.theorems_boards.specs.Numbers.{lowest_from}
use Rattle.theorems_boards.specs.Said.{first}

-- conditions on registers and cycle: what a board answers stays shut
unfoldable pub conditions : ℕ
unfolding damaged out_of_range seated seen_by some_of two_of lowest_from first
conditions = 0

unfoldable pub computed : ℕ
unfolding single conditions board_computed heard
computed = 0
