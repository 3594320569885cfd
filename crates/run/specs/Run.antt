-- The run of a trace from power-on: a packed answer for each of its records, in a lent buffer.
use Rattle.std.specs.Prelude.{Bool, true, false, not, List, ◌≡◌, ℕ, ◌*◌, eqb, ltb, length}
use Rattle.std.proofs.lemmas.List.Edits.{sets}
use Rattle.trace_header.specs.Header.{format1, refusal_of}
use Rattle.unit_packed.specs.Packed.{width, packed_all}
use Rattle.rules.specs.PowerOn.{power_on}
use Rattle.rules.specs.Runs.{answers}
use Rattle.trace_records.specs.Trace.{given_of, cycles_to, cycles_of}
use Rattle.unit_stores.specs.Put.{NO_ROOM}

-- the bytes of the answers of the longest trace
abbrev pub answers_room : ℕ
answers_room = width * format1.most

-- the buffer after the first n records of a trace
unfoldable pub ran_to : List ℕ → (n : ℕ) → List ℕ → List ℕ
ran_to t n buffer = sets buffer 0 (packed_all (answers power_on (cycles_to t n)))

-- "A refused trace" has its number and "no record"; 0 says that all answers stand in the buffer
abbrev pub number_by : (refused narrow : Bool) → (number : ℕ) → ℕ
number_by true narrow number = number
number_by false true number = NO_ROOM
number_by false false number = 0

-- the buffer after a run: as it was, where there is a number
abbrev pub buffer_by : (refused narrow : Bool) → (t buffer : List ℕ) → List ℕ
buffer_by true narrow t buffer = buffer
buffer_by false true t buffer = buffer
buffer_by false false t buffer = sets buffer 0 (packed_all (answers power_on (cycles_of t)))

abbrev pub trace_refused : List ℕ → Bool
trace_refused t = not (eqb (refusal_of t) 0)

abbrev pub narrow : (t buffer : List ℕ) → Bool
narrow t buffer = ltb (length buffer) (width * given_of t)

-- what a run promises of its number and of the whole buffer
pub record Ran (t before after : List ℕ) (number : ℕ) : Type 0 where
  pub says : number ≡ number_by (trace_refused t) (narrow t before) (refusal_of t)
  pub leaves : after ≡ buffer_by (trace_refused t) (narrow t before) t before
