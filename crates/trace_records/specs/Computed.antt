-- Every definition of a trace that stays shut, under one name: `unfolding trace_computed` opens them all, for a row that is computed.
use Rattle.std.specs.Prelude.{ℕ}
use Rattle.trace_header.specs.Header.{marked, refusal_in}
use Rattle.unit_stores.specs.Word.{word_at}
use Rattle.trace_records.specs.Trace.{given_in, record_refusal_in, part_in, part_start_in, cycle_of, cycles_to}

unfoldable pub trace_computed : ℕ
unfolding word_at marked refusal_in given_in record_refusal_in part_in part_start_in cycle_of cycles_to
trace_computed = 0
