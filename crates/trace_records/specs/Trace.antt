-- Document 01, "The trace": the records of a trace and their cycles; and the number 9 of "Numbers that say no".
use Rattle.std.specs.Prelude.{Bool, true, false, not, cond, List, [], ◌∷◌, ◌++◌, ◌≡◌, ℕ, zero, suc, ◌+◌, ◌%◌, eqb, leb, get_or, take, drop}
use Rattle.std.specs.Borrow.{Bor}
use Rattle.trace_header.specs.Header.{Format, format1, record_start, count_of, refusal_in}
use Rattle.rules.specs.Flags.{has}
use Rattle.rules.specs.Masks.{READ, NORMAL}
use Rattle.rules.specs.declared.Cycle.{Cycle}
use Rattle.trace_records.specs.Layout.{status_at, segment_at, offset_at, data_at, STATUSES, DMA, SELECT, NUMBERS, RESET}

-- ---- the records of a trace of a version

-- how many it gives: its count, and "no record" where it is refused
unfoldable pub given_in : Format → List ℕ → ℕ
given_in f t = cond (eqb (refusal_in f t) 0) (count_of t) 0

-- "9: record number at or past the count", after the trace's own number
abbrev pub record_refusal_by : (refused past : Bool) → (number : ℕ) → ℕ
record_refusal_by true past number = number
record_refusal_by false true number = 9
record_refusal_by false false number = 0

-- the number that refuses record n
unfoldable pub record_refusal_in : Format → List ℕ → (n : ℕ) → ℕ
record_refusal_in f t n = record_refusal_by (not (eqb (refusal_in f t) 0)) (leb (count_of t) n) (refusal_in f t)

-- "Record n is the four bytes that start at 7 + 4n"
abbrev pub record_in : Format → List ℕ → (n : ℕ) → List ℕ
record_in f t n = take f.record_size (drop (record_start f n) t)

-- "shown to the caller as that part of the trace", and "no record" is the empty part
abbrev pub part_by : (given : Bool) → List ℕ → List ℕ
part_by true part = part
part_by false part = []

unfoldable pub part_in : Format → List ℕ → (n : ℕ) → List ℕ
part_in f t n = part_by (eqb (record_refusal_in f t n) 0) (record_in f t n)

-- the number of the byte that it starts at; the empty part stands at the start
abbrev pub start_by : (given : Bool) → (start : ℕ) → ℕ
start_by true start = start
start_by false start = 0

unfoldable pub part_start_in : Format → List ℕ → (n : ℕ) → ℕ
part_start_in f t n = start_by (eqb (record_refusal_in f t n) 0) (record_start f n)

-- ---- the same of "version 1"

abbrev pub given_of : List ℕ → ℕ
given_of t = given_in format1 t

abbrev pub record_refusal_of : List ℕ → (n : ℕ) → ℕ
record_refusal_of t n = record_refusal_in format1 t n

abbrev pub record_at : List ℕ → (n : ℕ) → List ℕ
record_at t n = record_in format1 t n

abbrev pub part_of : List ℕ → (n : ℕ) → List ℕ
part_of t n = part_in format1 t n

abbrev pub part_start : List ℕ → (n : ℕ) → ℕ
part_start t n = part_start_in format1 t n

-- "as that part of the trace": its bytes, and that they are the lent trace's own, from that place on
abbrev pub Shows : (trace : Bor (List ℕ)) → (n : ℕ) → (part : Bor (List ℕ)) → Type 0
Shows t n p = (p.now ≡ part_of t.now n) × (p.ref_ptr ≡ (t.ref_ptr.0, part_start t.now n + t.ref_ptr.1))

-- ---- what a record says

-- "Byte 0: bits 0 to 5 as BCSR, bit 6 DMA, bit 7 select. Byte 1: segment, bit 7 reset line. Byte 2: address-phase byte.
-- Byte 3: data, any value." BCSR has the status in bits 0 to 3, "bit 4 set for read, bit 5 set for normal mode"; ticket 8, of the low byte:
-- "Version 1 traces give 0."
unfoldable pub cycle_of : (part : List ℕ) → Cycle
cycle_of p = record {
  status = get_or p status_at 0 % STATUSES;
  read = has (get_or p status_at 0) READ;
  normal = has (get_or p status_at 0) NORMAL;
  dma = has (get_or p status_at 0) DMA;
  select = has (get_or p status_at 0) SELECT;
  segment = get_or p segment_at 0 % NUMBERS;
  reset = has (get_or p segment_at 0) RESET;
  offset = get_or p offset_at 0;
  low = 0;
  byte = get_or p data_at 0;
}

-- the cycles of the first n records
unfoldable pub cycles_to : List ℕ → (n : ℕ) → List Cycle
cycles_to t zero = []
cycles_to t (suc n) = cycles_to t n ++ (cycle_of (record_at t n) ∷ [])

-- the cycles of all records that a trace gives
abbrev pub cycles_of : List ℕ → List Cycle
cycles_of t = cycles_to t (given_of t)
