-- The rows of the records hold of the definitions: one test over each table, which antt computes. Assumes nothing.
use mathlib.Core.List.{List, map}
use mathlib.Core.Path.{◌≡◌, refl}
use Prim.Native.Nat.{ℕ}
use Rattle.rules.specs.declared.Cycle.{Cycle}
use Rattle.trace_records.specs.Computed.{trace_computed}
use Rattle.trace_records.specs.Rows.{given_rows, RecordRow, record_row, record_rows, decoded_rows}
use Rattle.trace_records.specs.Trace.{given_of, record_refusal_of, part_of, part_start, cycle_of}

pub given_rows_hold : map (λ (r : List ℕ × ℕ). given_of r.0) given_rows ≡ map (λ (r : List ℕ × ℕ). r.1) given_rows
unfolding trace_computed
given_rows_hold = refl

-- record n of a trace, as the definitions have it
abbrev pub record_found : List ℕ → ℕ → RecordRow
record_found t n = record_row t n (record_refusal_of t n) (part_start t n) (part_of t n)

pub record_rows_hold : map (λ (r : RecordRow). record_found r.trace r.n) record_rows ≡ record_rows
unfolding trace_computed
record_rows_hold = refl

pub decoded_rows_hold : map (λ (r : List ℕ × Cycle). cycle_of r.0) decoded_rows ≡ map (λ (r : List ℕ × Cycle). r.1) decoded_rows
unfolding trace_computed
decoded_rows_hold = refl
