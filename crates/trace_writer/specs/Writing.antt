-- Ticket 1: a writer of traces. From cycles one after another it fills a lent buffer with a trace; here is what each of its calls gives and
-- leaves, for any buffer and any count.
use Rattle.std.specs.Prelude.{Bool, true, false, cond, List, [], ◌∷◌, ◌++◌, ◌≡◌, ℕ, ◌+◌, eqb, ltb, length, Result, Ok, Err}
use Rattle.std.proofs.lemmas.List.Edits.{sets}
use Rattle.rules.specs.Flags.{with, flag_if}
use Rattle.rules.specs.Numbers.{refusal_number}
use Rattle.rules.specs.Recording.{bus_status}
use Rattle.rules.specs.Refusals.{out_of_range}
use Rattle.rules.specs.declared.Cycle.{Cycle}
use Rattle.rules.specs.declared.refusal.Refusal.{Refusal}
use Rattle.trace_header.specs.Header.{mark, Format, format1, record_start}
use Rattle.trace_records.specs.Layout.{DMA, SELECT, RESET}
use Rattle.unit_stores.specs.Word.{high_of, low_of}

-- ---- the bytes

-- the header of a trace of n records: "the three bytes "MBT", then version 1 and the record count, 16 bits each, high byte first"
abbrev pub head_bytes : Format → (n : ℕ) → List ℕ
head_bytes f n = mark ++ (high_of f.version ∷ low_of f.version ∷ high_of n ∷ low_of n ∷ [])

-- "Byte 0: bits 0 to 5 as BCSR, bit 6 DMA, bit 7 select. Byte 1: segment, bit 7 reset line. Byte 2: address-phase byte. Byte 3: data";
-- "A reset cycle keeps all its other fields."; ticket 8: "The writer from Ticket 1 drops [the low byte]"
unfoldable pub record_bytes : Cycle → List ℕ
record_bytes c =
    with (with (bus_status c) (flag_if c.dma DMA)) (flag_if c.select SELECT)
    ∷ with c.segment (flag_if c.reset RESET)
    ∷ c.offset
    ∷ c.byte
    ∷ []

-- ---- what refuses

-- "Refusals: 1 as before; then 7, exactly when the count with this cycle would pass 16,000; then 10, exactly when the buffer is shorter than
-- 7 + 4 x that count"; 0 where none is met
abbrev pub number_by : (outside many short : Bool) → ℕ
number_by true many short = 1
number_by false true short = 7
number_by false false true = 10
number_by false false false = 0

-- the number for a record of a version, at a count, in a buffer of so many bytes
abbrev pub number_in : Format → (outside : Bool) → (bytes count : ℕ) → ℕ
number_in f outside bytes count = number_by outside (ltb f.most (count + 1)) (ltb bytes (record_start f (count + 1)))

unfoldable pub record_number : (bytes count : ℕ) → Cycle → ℕ
record_number bytes count c = number_in format1 (out_of_range c) bytes count

-- "(0 at the start)": there is no cycle, so 1 and 7 are not met
unfoldable pub start_number : (bytes : ℕ) → ℕ
start_number bytes = number_by false false (ltb bytes (record_start format1 0))

-- ---- what is given and left

-- "with the header written at the start and brought up to date after every cycle": the buffer with the header of `count` records
abbrev pub headed : Format → List ℕ → (count : ℕ) → List ℕ
headed f buffer count = sets buffer 0 (head_bytes f count)

-- and with the bytes of one record more
abbrev pub extended : Format → List ℕ → (count : ℕ) → (bytes : List ℕ) → List ℕ
extended f buffer count bytes = headed f (sets buffer (record_start f count) bytes) (count + 1)

-- "after each of the three the buffer and the count are as they were": the buffer and the count after a cycle, where no number says no, and
-- where one does
unfoldable pub buffer_after : List ℕ → (count : ℕ) → Cycle → List ℕ
buffer_after buffer count c =
    cond (eqb (record_number (length buffer) count c) 0) (extended format1 buffer count (record_bytes c)) buffer

unfoldable pub count_after : (bytes count : ℕ) → Cycle → ℕ
count_after bytes count c = cond (eqb (record_number bytes count c) 0) (count + 1) count

-- the buffer after the start; the count is 0, beside 10 too
unfoldable pub buffer_started : List ℕ → List ℕ
buffer_started buffer = cond (eqb (start_number (length buffer)) 0) (headed format1 buffer 0) buffer

-- what a call gives: the number that says no, or 0, and the count of the records in the buffer after it
pub record Recorded : Type 0 where
  pub number : ℕ
  pub count : ℕ

-- the same of a call's answer: the count after it, or what refuses it, where the count that it was given is the one after it
abbrev pub recorded_by : (count : ℕ) → Result ℕ Refusal → Recorded
recorded_by count (Ok more) = record { number = 0; count = more }
recorded_by count (Err refusal) = record { number = refusal_number refusal; count = count }

-- what the two calls promise of what they give, and of the whole buffer
pub record Starts (before after : List ℕ) (given : Recorded) : Type 0 where
  pub says : given.number ≡ start_number (length before)
  pub counts : given.count ≡ 0
  pub leaves : after ≡ buffer_started before

pub record Records (c : Cycle) (count : ℕ) (before after : List ℕ) (given : Recorded) : Type 0 where
  pub says : given.number ≡ record_number (length before) count c
  pub counts : given.count ≡ count_after (length before) count c
  pub leaves : after ≡ buffer_after before count c
