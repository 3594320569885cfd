-- The rows over the header's edges hold of the definitions: one test over the one table, which antt computes.
-- Assumes nothing.
use lib.Dec.{T}
use Rattle.unit_stores.specs.Word.{word_at}
use Rattle.trace_header.specs.Header.{marked, refusal_in}
use Rattle.trace_header.specs.Rows.{header_rows, header_rows_hold}

pub header_rows_hold_lem : T (header_rows_hold header_rows)
unfolding word_at marked refusal_in
header_rows_hold_lem = tt
