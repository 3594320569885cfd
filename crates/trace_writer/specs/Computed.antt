-- Every definition of the writer that stays shut, under one name: `unfolding writer_computed` opens them all, for a row that is computed.
use Rattle.std.specs.Prelude.{ℕ}
use Rattle.rules.specs.Recording.{bus_status}
use Rattle.rules.specs.Refusals.{out_of_range}
use Rattle.trace_writer.specs.Writing.{record_bytes, record_number, start_number, buffer_after, count_after, buffer_started}

unfoldable pub writer_computed : ℕ
unfolding out_of_range bus_status record_bytes record_number start_number buffer_after count_after buffer_started
writer_computed = 0
