-- Document 01, "The trace": a reader of a trace, and what it gives.
use Rattle.std.specs.Prelude.{Bool, true, false, cond, List, [], ◌∷◌, ◌++◌, ◌≡◌, ℕ, zero, suc, ◌+◌, eqb, Result, Ok, Err}
use Rattle.std.specs.Borrow.{Bor}
use Rattle.rules.specs.Numbers.{number_of_outcome}
use Rattle.rules.specs.declared.Cycle.{Cycle}
use Rattle.rules.specs.declared.refusal.Refusal.{Refusal}
use Rattle.trace_records.specs.Trace.{record_refusal_of, part_of, cycle_of}
use Rattle.trace_reader.specs.declared.Found.{Found}
use Rattle.trace_reader.specs.declared.Reader.{Reader}

-- "A reader keeps the lent trace and the number of its next record together; that number starts at 0"
abbrev pub start_of : (trace : Bor (List ℕ)) → Reader
start_of t = record { trace = t; next = 0 }

-- document 01's number for each case of an answer: 0 for a record, and the number that says no, 5 to 9
abbrev pub step_number : Result Cycle Refusal → ℕ
step_number step = number_of_outcome step

-- and its values: the record's cycle, and none where there is "no record"
abbrev pub step_values : Result Cycle Refusal → List Cycle
step_values (Ok c) = c ∷ []
step_values (Err refusal) = []

-- the values for record n of a trace
abbrev pub given_by : (given : Bool) → Cycle → List Cycle
given_by true c = c ∷ []
given_by false c = []

unfoldable pub given_at : List ℕ → (n : ℕ) → List Cycle
given_at t n = given_by (eqb (record_refusal_of t n) 0) (cycle_of (part_of t n))

-- an answer for record n has the number that refuses the record, and the values for it. No second answer has both (`Answers`, proofs/).
abbrev pub Answers : List ℕ → (n : ℕ) → Result Cycle Refusal → Type 0
Answers t n s = (step_number s ≡ record_refusal_of t n) × (step_values s ≡ given_at t n)

-- "each record given adds 1"; "no record; a reader's number stays"
unfoldable pub after_of : List ℕ → (n : ℕ) → ℕ
after_of t n = cond (eqb (record_refusal_of t n) 0) (n + 1) n

-- what is found at number n of a trace: the answer, and the number after it
abbrev pub Finds : List ℕ → (n : ℕ) → Found → Type 0
Finds t n f = Answers t n f.step × (f.next ≡ after_of t n)

-- the reader after it was asked for its next record: the same lent trace, whole, and the number after it
abbrev pub moved_of : Reader → Reader
moved_of r = record { trace = r.trace; next = after_of r.trace.now r.next }

-- a reader that was asked so many times from its start
unfoldable pub reader_after : (trace : Bor (List ℕ)) → (asked : ℕ) → Reader
reader_after t zero = start_of t
reader_after t (suc k) = moved_of (reader_after t k)

-- the cycles that it gave, one after another
unfoldable pub given_to : (trace : Bor (List ℕ)) → (asked : ℕ) → List Cycle
given_to t zero = []
given_to t (suc k) = given_to t k ++ given_at (reader_after t k).trace.now (reader_after t k).next
