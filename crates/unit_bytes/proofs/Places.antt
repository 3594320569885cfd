-- The rows of a unit's bytes and of its notes hold both ways: two tests over the one table, which antt computes.
-- Assumes nothing.
use mathlib.Core.Path.{refl}
use lib.Dec.{T}
use Rattle.unit_bytes.specs.Computed.{bytes_computed}
use Rattle.unit_bytes.specs.Places.{laid_out, NoteRowsHold}

pub byte_rows_hold_lem : T laid_out
unfolding bytes_computed
byte_rows_hold_lem = tt

pub note_rows_hold : NoteRowsHold
unfolding bytes_computed
note_rows_hold = (refl, refl)
