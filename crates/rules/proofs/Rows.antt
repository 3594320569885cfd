-- The proved rows, P1 to P11 and those of tickets 2, 8 and 11, hold of the rules: one test over the one table, which antt computes.
-- Assumes nothing.
use lib.Dec.{T}
use Rattle.rules.specs.Computed.{computed}
use Rattle.rules.specs.Rows.{rows}
use Rattle.rules.specs.Seen.{all_hold}

pub rows_hold : T (all_hold rows)
unfolding computed
rows_hold = tt
