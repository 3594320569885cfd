-- The rows of a packed answer hold: one test over the one table, which antt computes.
-- Assumes nothing.
use mathlib.Core.Path.{refl}
use Rattle.unit_packed.specs.Packed.{flags_of, packed}
use Rattle.unit_packed.specs.Places.{PackedRowsHold}

pub packed_rows_hold : PackedRowsHold
unfolding flags_of packed
packed_rows_hold = refl
