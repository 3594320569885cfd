-- Document 01's own lists hold of the rules: the flags by their bits, flags and codes by what they do, the bounds by their two sides, memory
-- cycles by what they leave. Tests that antt computes.
-- Assumes nothing.
use lib.Dec.{T}
use Rattle.rules.specs.Computed.{computed}
use Rattle.rules.specs.Seen.{all_hold}
use Rattle.rules.specs.FlagRows.{in_order, bit_by_bit, flag_rows}
use Rattle.rules.specs.CycleRows.{cycle_rows, letters}
use Rattle.rules.specs.MemoryRows.{memory_rows}
use Rattle.rules.specs.CodeRows.{code_rows}

pub flags_in_order : T in_order
flags_in_order = tt

pub flags_bit_by_bit : T bit_by_bit
flags_bit_by_bit = tt

pub flag_rows_hold : T (all_hold flag_rows)
unfolding computed
flag_rows_hold = tt

pub cycle_rows_hold : T (all_hold cycle_rows)
unfolding computed
cycle_rows_hold = tt

pub letters_hold : T letters
letters_hold = tt

pub memory_rows_hold : T (all_hold memory_rows)
unfolding computed
memory_rows_hold = tt

pub code_rows_hold : T (all_hold code_rows)
unfolding computed
code_rows_hold = tt
