-- The rows of boards hold of the rules: a test over each table, which antt computes.
-- Assumes nothing.
use lib.Dec.{T}
use Rattle.board_rules.specs.BoardRows.{all_hold, driven_rows, clash_rows, command_rows, own_rows, count_rows, joined_rows, acknowledge_rows}
use Rattle.board_rules.specs.Computed.{board_computed}

pub driven_rows_hold : T (all_hold driven_rows)
unfolding board_computed
driven_rows_hold = tt

pub clash_rows_hold : T (all_hold clash_rows)
unfolding board_computed
clash_rows_hold = tt

pub command_rows_hold : T (all_hold command_rows)
unfolding board_computed
command_rows_hold = tt

pub own_rows_hold : T (all_hold own_rows)
unfolding board_computed
own_rows_hold = tt

pub count_rows_hold : T (all_hold count_rows)
unfolding board_computed
count_rows_hold = tt

pub joined_rows_hold : T (all_hold joined_rows)
unfolding board_computed
joined_rows_hold = tt

pub acknowledge_rows_hold : T (all_hold acknowledge_rows)
unfolding board_computed
acknowledge_rows_hold = tt
