-- Ticket 1: what holds of a whole recording, "where each call after the start is given the buffer and the count as the writer last left them".
-- Each claim is proved under `proofs/`, over every list of cycles, refused ones among them.
use Rattle.std.specs.Prelude.{Bool, true, false, cond, ◌≡◌, ℕ, ◌-◌, ◌/◌, ◌≤◌, eqb, ltb, length, take, drop}
use mathlib.Core.List.{List, [], ◌∷◌, ◌++◌, map, flat_map}
use Rattle.std.specs.Borrow.{Bor}
use Rattle.rules.specs.PowerOn.{power_on}
use Rattle.rules.specs.Refusals.{out_of_range}
use Rattle.rules.specs.Runs.{answers, units}
use Rattle.rules.specs.declared.Cycle.{Cycle}
use Rattle.text.specs.Fields.{head_text}
use Rattle.text.specs.Text.{answer_lines, printed}
use Rattle.theorems_kept.specs.Kept.{Bytes}
use Rattle.theorems_runs.specs.LowByte.{bare_cycle, AlikeUnits}
use Rattle.theorems_runs.specs.Sequences.{Both}
use Rattle.trace_header.specs.Header.{head_size, format1, record_start, refusal_of}
use Rattle.trace_reader.specs.Reading.{reader_after, given_to}
use Rattle.trace_records.specs.Trace.{given_of, record_refusal_of, cycles_of}
use Rattle.trace_writer.specs.Writing.{head_bytes, record_bytes, record_number, start_number, buffer_after, count_after, buffer_started}

-- ---- a recording

-- "the buffer and the count as the writer last left them"
pub record Recording : Type 0 where
  pub buffer : List ℕ
  pub count : ℕ

-- after the start, in a buffer
abbrev pub started : List ℕ → Recording
started l = record { buffer = buffer_started l; count = 0 }

-- the number of the next call, and what it leaves
abbrev pub number_for : Recording → Cycle → ℕ
number_for w c = record_number (length w.buffer) w.count c

abbrev pub next_of : Recording → Cycle → Recording
next_of w c = record { buffer = buffer_after w.buffer w.count c; count = count_after (length w.buffer) w.count c }

-- "from cycles one after another"
unfoldable pub after : Recording → List Cycle → Recording
after w [] = w
after w (c ∷ cs) = after (next_of w c) cs

-- the accepted cycles: those that no number refused
abbrev pub accepted_by : (taken : Bool) → Cycle → List Cycle → List Cycle
accepted_by true c rest = c ∷ rest
accepted_by false c rest = rest

unfoldable pub accepted : Recording → List Cycle → List Cycle
accepted w [] = []
accepted w (c ∷ cs) = accepted_by (eqb (number_for w c) 0) c (accepted (next_of w c) cs)

-- "The trace is the first 7 + 4 x count bytes of the buffer"
abbrev pub trace_in : Recording → List ℕ
trace_in w = take (record_start format1 w.count) w.buffer

-- what is recorded of cycles in a buffer
abbrev pub recording_of : List ℕ → List Cycle → Recording
recording_of l cs = after (started l) cs

abbrev pub taken_of : List ℕ → List Cycle → List Cycle
taken_of l cs = accepted (started l) cs

-- the start was not refused
abbrev pub Startable : List ℕ → Type 0
Startable l = start_number (length l) ≡ 0

-- ---- there

-- CLAIM: "a trace that the reader gives back cycle for cycle". After every list of cycles, and so after every call on the way, no number refuses the
-- trace; it has as many records as cycles were accepted; and its cycles are the accepted ones, one for one and in order, with all their fields but
-- the low byte of ticket 8: "The writer from Ticket 1 drops it, and its round trip says so."
abbrev pub RoundTrip : Type 0
RoundTrip =
    (l : List ℕ) (cs : List Cycle) → Startable l
    → (refusal_of (trace_in (recording_of l cs)) ≡ 0)
    × (given_of (trace_in (recording_of l cs)) ≡ length (taken_of l cs))
    × ((recording_of l cs).count ≡ length (taken_of l cs))
    × (cycles_of (trace_in (recording_of l cs)) ≡ map bare_cycle (taken_of l cs))

-- CLAIM: the same of a reader: asked as many times as cycles were accepted it gives these, and at the number where it stands then it says 9.
abbrev pub ReaderGivesBack : Type 0
ReaderGivesBack =
    (l : List ℕ) (cs : List Cycle) (t : Bor (List ℕ)) → Startable l → t.now ≡ trace_in (recording_of l cs)
    → (given_to t (length (taken_of l cs)) ≡ map bare_cycle (taken_of l cs)) × (record_refusal_of t.now (reader_after t (length (taken_of l cs))).next ≡ 9)

-- CLAIM: two conditions of the round trip are needed. With the low byte it is false, and so it is where the start was refused.
abbrev pub LowDropped : Type 0
LowDropped = ((l : List ℕ) (cs : List Cycle) → Startable l → cycles_of (trace_in (recording_of l cs)) ≡ taken_of l cs) → ⊥

abbrev pub StartNeeded : Type 0
StartNeeded = ((l : List ℕ) (cs : List Cycle) → refusal_of (trace_in (recording_of l cs)) ≡ 0) → ⊥

-- CLAIM: where the start was refused nothing is ever stored: buffer and count stay, whatever cycles come.
abbrev pub NoStart : Type 0
NoStart = (l : List ℕ) (cs : List Cycle) → (Startable l → ⊥) → recording_of l cs ≡ record { buffer = l; count = 0 }

-- the bytes of a trace: the header, and the cycles' records, one behind another
abbrev pub trace_of : List Cycle → List ℕ
trace_of cs = head_bytes format1 (length cs) ++ flat_map record_bytes cs

-- CLAIM: the whole buffer is known: the trace of the accepted cycles, and behind it what stood there. "The same cycles always give the same bytes,
-- and bytes past the trace's end stay."
abbrev pub BufferExactly : Type 0
BufferExactly =
    (l : List ℕ) (cs : List Cycle) → Startable l
    → (trace_in (recording_of l cs) ≡ trace_of (taken_of l cs))
    × ((recording_of l cs).buffer ≡ trace_of (taken_of l cs) ++ drop (record_start format1 (length (taken_of l cs))) l)

-- how many records a buffer of so many bytes has room for
abbrev pub room_in : (bytes : ℕ) → ℕ
room_in bytes = (bytes - head_size) / format1.record_size

abbrev pub least_of : ℕ → ℕ → ℕ
least_of a b = cond (ltb a b) a b

-- the cycles within their numbers
abbrev pub kept_by : (outside : Bool) → Cycle → List Cycle → List Cycle
kept_by true c rest = rest
kept_by false c rest = c ∷ rest

unfoldable pub within : List Cycle → List Cycle
within [] = []
within (c ∷ cs) = kept_by (out_of_range c) c (within cs)

-- CLAIM: which cycles are accepted. Those within their numbers, the first of them, up to 16,000 and as many as the buffer has room for: so it hangs on
-- the length of the buffer alone, and a buffer with room for all within their numbers takes all of them.
abbrev pub AcceptedExactly : Type 0
AcceptedExactly =
    (l : List ℕ) (cs : List Cycle) → taken_of l cs ≡ take (least_of format1.most (room_in (length l))) (within cs)

-- CLAIM: "The same cycles always give the same bytes", whatever stood in the buffers: one length accepts the same cycles, and the same accepted
-- cycles are the same trace, in buffers of any lengths.
abbrev pub SameBytes : Type 0
SameBytes =
    (l m : List ℕ) (cs ds : List Cycle)
    → (length l ≡ length m → taken_of l cs ≡ taken_of m cs)
    × (Startable l → Startable m → taken_of l cs ≡ taken_of m ds → trace_in (recording_of l cs) ≡ trace_in (recording_of m ds))

-- CLAIM: "A cycle out of its numbers is not stored", and "after each of the three the buffer and the count are as they were": for any buffer and any
-- count, a cycle out of its numbers gets 1, and where a cycle gets any number but 0, nothing has changed.
abbrev pub RecordingRefusalLeaves : Type 0
RecordingRefusalLeaves =
    (w : Recording) (c : Cycle)
    → (out_of_range c ≡ true → number_for w c ≡ 1) × ((number_for w c ≡ 0 → ⊥) → next_of w c ≡ w)

-- ---- and back

-- CLAIM: a trace that no number refuses, read and recorded again in any buffer that is as long or longer, gives its bytes again, and no cycle of it
-- is refused.
abbrev pub RecordedAgain : Type 0
RecordedAgain =
    (t l : List ℕ) → refusal_of t ≡ 0 → Bytes t → length t ≤ length l
    → (trace_in (recording_of l (cycles_of t)) ≡ t) × (taken_of l (cycles_of t) ≡ cycles_of t)

-- ---- and run

-- CLAIM: `mmurun` of a recorded trace is the run of the accepted cycles, low bytes and all: its text is their count and the lines of their answers from
-- power-on, and the units on the way are theirs but for the low byte that they keep.
abbrev pub RecordedRun : Type 0
RecordedRun =
    (l : List ℕ) (cs : List Cycle) → Startable l
    → (printed (trace_in (recording_of l cs)) ≡ head_text (length (taken_of l cs)) ++ answer_lines 0 (answers power_on (taken_of l cs)))
    × (answers power_on (cycles_of (trace_in (recording_of l cs))) ≡ answers power_on (taken_of l cs))
    × Both AlikeUnits (units power_on (cycles_of (trace_in (recording_of l cs)))) (units power_on (taken_of l cs))
