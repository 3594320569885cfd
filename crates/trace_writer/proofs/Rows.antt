-- The rows of the writer hold of the definitions: one test over each table, which antt computes. Assumes nothing.
use mathlib.Core.List.{List, map}
use mathlib.Core.Path.{◌≡◌, refl}
use Prim.Native.Nat.{ℕ}
use lib.ListN.{length}
use Rattle.rules.specs.declared.Cycle.{Cycle}
use Rattle.trace_header.specs.Header.{format1}
use Rattle.trace_writer.specs.Computed.{writer_computed}
use Rattle.trace_writer.specs.Rows.{head_rows, written_rows, NumberRow, number_row, number_rows}
use Rattle.trace_writer.specs.Rows.{StartRow, start_row, start_rows, CallRow, call_row, call_rows}
use Rattle.trace_writer.specs.Writing.{head_bytes, record_bytes, record_number, start_number, buffer_started, buffer_after, count_after}

pub head_rows_hold : map (λ (r : ℕ × List ℕ). head_bytes format1 r.0) head_rows ≡ map (λ (r : ℕ × List ℕ). r.1) head_rows
head_rows_hold = refl

pub written_rows_hold : map (λ (r : Cycle × List ℕ). record_bytes r.0) written_rows ≡ map (λ (r : Cycle × List ℕ). r.1) written_rows
unfolding writer_computed
written_rows_hold = refl

-- the number, as the definitions have it
abbrev pub number_found : NumberRow → NumberRow
number_found r = number_row r.bytes r.count r.cycle (record_number r.bytes r.count r.cycle)

pub number_rows_hold : map number_found number_rows ≡ number_rows
unfolding writer_computed
number_rows_hold = refl

-- a call, as the definitions have it
abbrev pub start_found : List ℕ → StartRow
start_found l = start_row l (start_number (length l)) (buffer_started l)

pub start_rows_hold : map (λ (r : StartRow). start_found r.before) start_rows ≡ start_rows
unfolding writer_computed
start_rows_hold = refl

abbrev pub call_found : List ℕ → (count : ℕ) → Cycle → CallRow
call_found l count c = call_row l count c (record_number (length l) count c) (count_after (length l) count c) (buffer_after l count c)

pub call_rows_hold : map (λ (r : CallRow). call_found r.before r.count r.cycle) call_rows ≡ call_rows
unfolding writer_computed
call_rows_hold = refl
