-- Ticket 1: rows of the writer, in plain numbers: the bytes of a header and of a cycle's record, the number that says no, and what a whole call
-- gives and leaves. `Rows` (proofs/) shows that all of them hold of the definitions.
use Rattle.std.specs.Prelude.{Bool, true, false, List, [], ◌∷◌, ◌++◌, ℕ, replicate}
use Rattle.rules.specs.Seen.{cycle_with}
use Rattle.rules.specs.declared.Cycle.{Cycle}

-- ---- the bytes

-- a count, and the header of a trace of so many records; 15,999 is 62 x 256 + 127
abbrev pub head_rows : List (ℕ × List ℕ)
head_rows =
    (0, 77 ∷ 66 ∷ 84 ∷ 0 ∷ 1 ∷ 0 ∷ 0 ∷ [])
    ∷ (1, 77 ∷ 66 ∷ 84 ∷ 0 ∷ 1 ∷ 0 ∷ 1 ∷ [])
    ∷ (255, 77 ∷ 66 ∷ 84 ∷ 0 ∷ 1 ∷ 0 ∷ 255 ∷ [])
    ∷ (256, 77 ∷ 66 ∷ 84 ∷ 0 ∷ 1 ∷ 1 ∷ 0 ∷ [])
    ∷ (15999, 77 ∷ 66 ∷ 84 ∷ 0 ∷ 1 ∷ 62 ∷ 127 ∷ [])
    ∷ (16000, 77 ∷ 66 ∷ 84 ∷ 0 ∷ 1 ∷ 62 ∷ 128 ∷ [])
    ∷ []

-- a cycle, and the bytes of its record. The low byte is 99 in each, and is dropped
abbrev pub written_row : (status : ℕ) → (read normal dma select : Bool) → (segment : ℕ) → (reset : Bool) → (offset byte : ℕ)
    → (bytes : List ℕ) → Cycle × List ℕ
written_row status read normal dma select segment reset offset byte bytes =
    (cycle_with status read normal dma select segment offset 99 byte reset, bytes)

abbrev pub written_rows : List (Cycle × List ℕ)
written_rows =
    -- nothing set
    written_row 0 false false false false 0 false 0 0 (0 ∷ 0 ∷ 0 ∷ 0 ∷ [])
    -- each field alone: the bits of the status, read, normal mode, DMA, select
    ∷ written_row 1 false false false false 0 false 0 0 (1 ∷ 0 ∷ 0 ∷ 0 ∷ [])
    ∷ written_row 2 false false false false 0 false 0 0 (2 ∷ 0 ∷ 0 ∷ 0 ∷ [])
    ∷ written_row 4 false false false false 0 false 0 0 (4 ∷ 0 ∷ 0 ∷ 0 ∷ [])
    ∷ written_row 8 false false false false 0 false 0 0 (8 ∷ 0 ∷ 0 ∷ 0 ∷ [])
    ∷ written_row 0 true false false false 0 false 0 0 (16 ∷ 0 ∷ 0 ∷ 0 ∷ [])
    ∷ written_row 0 false true false false 0 false 0 0 (32 ∷ 0 ∷ 0 ∷ 0 ∷ [])
    ∷ written_row 0 false false true false 0 false 0 0 (64 ∷ 0 ∷ 0 ∷ 0 ∷ [])
    ∷ written_row 0 false false false true 0 false 0 0 (128 ∷ 0 ∷ 0 ∷ 0 ∷ [])
    -- the segment, the reset line, the byte of the address phase, the data
    ∷ written_row 0 false false false false 1 false 0 0 (0 ∷ 1 ∷ 0 ∷ 0 ∷ [])
    ∷ written_row 0 false false false false 64 false 0 0 (0 ∷ 64 ∷ 0 ∷ 0 ∷ [])
    ∷ written_row 0 false false false false 127 false 0 0 (0 ∷ 127 ∷ 0 ∷ 0 ∷ [])
    ∷ written_row 0 false false false false 0 true 0 0 (0 ∷ 128 ∷ 0 ∷ 0 ∷ [])
    ∷ written_row 0 false false false false 0 false 255 0 (0 ∷ 0 ∷ 255 ∷ 0 ∷ [])
    ∷ written_row 0 false false false false 0 false 0 255 (0 ∷ 0 ∷ 0 ∷ 255 ∷ [])
    -- a value of its own in each field
    ∷ written_row 13 false true false false 65 false 147 7 (45 ∷ 65 ∷ 147 ∷ 7 ∷ [])
    -- "A reset cycle keeps all its other fields."
    ∷ written_row 10 true false true true 5 true 21 35 (218 ∷ 133 ∷ 21 ∷ 35 ∷ [])
    ∷ written_row 15 true true true true 127 true 255 255 (255 ∷ 255 ∷ 255 ∷ 255 ∷ [])
    ∷ []

-- ---- the number that says no

-- a system read with a status and a segment, with the reset line off or on
abbrev pub read_at : (status segment : ℕ) → (reset : Bool) → Cycle
read_at status segment reset = cycle_with status true false false false segment 21 99 35 reset

-- the bytes of a buffer, a count, a cycle, and the number
pub record NumberRow : Type 0 where
  pub bytes : ℕ
  pub count : ℕ
  pub cycle : Cycle
  pub number : ℕ

abbrev pub number_row : (bytes count : ℕ) → Cycle → (number : ℕ) → NumberRow
number_row bytes count c number = record { bytes = bytes; count = count; cycle = c; number = number }

-- of a cycle within its numbers
abbrev pub room_row : (bytes count number : ℕ) → NumberRow
room_row bytes count number = number_row bytes count (read_at 8 5 false) number

-- of a cycle, where one record more is allowed and has room
abbrev pub cycle_row : Cycle → (number : ℕ) → NumberRow
cycle_row c number = number_row 11 0 c number

-- the greatest count that a caller can hand over
abbrev pub LAST : ℕ
LAST = 18446744073709551615

abbrev pub number_rows : List NumberRow
number_rows =
    -- "1: status above 15 or segment above 127", and in a reset cycle too
    cycle_row (read_at 15 127 false) 0
    ∷ cycle_row (read_at 16 127 false) 1
    ∷ cycle_row (read_at 15 128 false) 1
    ∷ cycle_row (read_at 255 0 false) 1
    ∷ cycle_row (read_at 0 255 false) 1
    ∷ cycle_row (read_at 15 127 true) 0
    ∷ cycle_row (read_at 16 127 true) 1
    ∷ cycle_row (read_at 15 128 true) 1
    -- "7, exactly when the count with this cycle would pass 16,000": whatever room there is, and where one more is past all counts
    ∷ room_row 64007 15998 0
    ∷ room_row 64007 15999 0
    ∷ room_row 64007 16000 7
    ∷ room_row 64011 16000 7
    ∷ room_row 64015 16001 7
    ∷ room_row 262147 65535 7
    ∷ room_row LAST LAST 7
    -- "10, exactly when the buffer is shorter than 7 + 4 x that count"
    ∷ room_row 0 0 10
    ∷ room_row 6 0 10
    ∷ room_row 7 0 10
    ∷ room_row 10 0 10
    ∷ room_row 11 0 0
    ∷ room_row 12 0 0
    ∷ room_row 11 1 10
    ∷ room_row 14 1 10
    ∷ room_row 15 1 0
    ∷ room_row 64003 15999 10
    ∷ room_row 64006 15999 10
    ∷ room_row 64008 15999 0
    ∷ room_row LAST 0 0
    -- "1 [..]; then 7, [..]; then 10": cycles that meet two of them, and all three
    ∷ number_row 64011 16000 (read_at 16 5 false) 1
    ∷ number_row 10 0 (read_at 8 128 false) 1
    ∷ number_row 10 0 (read_at 16 5 true) 1
    ∷ room_row 64010 16000 7
    ∷ room_row 7 16001 7
    ∷ room_row 0 LAST 7
    ∷ number_row 0 16000 (read_at 16 128 false) 1
    ∷ number_row 6 LAST (read_at 16 128 true) 1
    ∷ []

-- ---- a whole call

-- the start: a buffer, the number, and the buffer after it
pub record StartRow : Type 0 where
  pub before : List ℕ
  pub number : ℕ
  pub after : List ℕ

abbrev pub start_row : (before : List ℕ) → (number : ℕ) → (after : List ℕ) → StartRow
start_row before number after = record { before = before; number = number; after = after }

-- a trace of so many records, fewer than 256, and what stands behind its header
abbrev pub with_head : (count : ℕ) → (rest : List ℕ) → List ℕ
with_head count rest = 77 ∷ 66 ∷ 84 ∷ 0 ∷ 1 ∷ 0 ∷ count ∷ rest

abbrev pub start_rows : List StartRow
start_rows =
    -- "10, exactly when the buffer is shorter than 7 + 4 x that count (0 at the start)": the buffer is "as [it was]"
    start_row [] 10 []
    ∷ start_row (1 ∷ 2 ∷ 3 ∷ 4 ∷ 5 ∷ 6 ∷ []) 10 (1 ∷ 2 ∷ 3 ∷ 4 ∷ 5 ∷ 6 ∷ [])
    ∷ start_row (1 ∷ 2 ∷ 3 ∷ 4 ∷ 5 ∷ 6 ∷ 7 ∷ []) 0 (with_head 0 [])
    -- "bytes past the trace's end stay"
    ∷ start_row (1 ∷ 2 ∷ 3 ∷ 4 ∷ 5 ∷ 6 ∷ 7 ∷ 8 ∷ []) 0 (with_head 0 (8 ∷ []))
    ∷ start_row (with_head 2 (1 ∷ 2 ∷ 3 ∷ 4 ∷ 5 ∷ 6 ∷ 7 ∷ 8 ∷ [])) 0 (with_head 0 (1 ∷ 2 ∷ 3 ∷ 4 ∷ 5 ∷ 6 ∷ 7 ∷ 8 ∷ []))
    ∷ []

-- a cycle: a buffer and a count, the number, the count after it, and the buffer after it
pub record CallRow : Type 0 where
  pub before : List ℕ
  pub count : ℕ
  pub cycle : Cycle
  pub number : ℕ
  pub counted : ℕ
  pub after : List ℕ

abbrev pub call_row : (before : List ℕ) → (count : ℕ) → Cycle → (number counted : ℕ) → (after : List ℕ) → CallRow
call_row before count c number counted after =
    record { before = before; count = count; cycle = c; number = number; counted = counted; after = after }

-- where a number says no, "the buffer and the count are as they were"
abbrev pub left_row : (buffer : List ℕ) → (count : ℕ) → Cycle → (number : ℕ) → CallRow
left_row buffer count c number = call_row buffer count c number count buffer

-- a cycle with a value of its own in each byte of its record, which is (24, 5, 21, 35)
abbrev pub one : Cycle
one = read_at 8 5 false

abbrev pub call_rows : List CallRow
call_rows =
    -- the first record, behind it nothing and one byte more; and a reset cycle
    call_row (with_head 0 (9 ∷ 9 ∷ 9 ∷ 9 ∷ [])) 0 one 0 1 (with_head 1 (24 ∷ 5 ∷ 21 ∷ 35 ∷ []))
    ∷ call_row (with_head 0 (9 ∷ 9 ∷ 9 ∷ 9 ∷ 8 ∷ [])) 0 one 0 1 (with_head 1 (24 ∷ 5 ∷ 21 ∷ 35 ∷ 8 ∷ []))
    ∷ call_row (with_head 0 (9 ∷ 9 ∷ 9 ∷ 9 ∷ [])) 0 (read_at 8 5 true) 0 1 (with_head 1 (24 ∷ 133 ∷ 21 ∷ 35 ∷ []))
    -- the second record, the first before it and others' bytes behind it
    ∷ call_row (with_head 1 (1 ∷ 2 ∷ 3 ∷ 4 ∷ 9 ∷ 9 ∷ 9 ∷ 9 ∷ 5 ∷ 6 ∷ 7 ∷ 8 ∷ 9 ∷ [])) 1 one 0 2
    (with_head 2 (1 ∷ 2 ∷ 3 ∷ 4 ∷ 24 ∷ 5 ∷ 21 ∷ 35 ∷ 5 ∷ 6 ∷ 7 ∷ 8 ∷ 9 ∷ []))
    -- a header with another mark, another version and another count is written whole
    ∷ call_row (1 ∷ 2 ∷ 3 ∷ 4 ∷ 5 ∷ 6 ∷ 7 ∷ 9 ∷ 9 ∷ 9 ∷ 9 ∷ []) 0 one 0 1 (with_head 1 (24 ∷ 5 ∷ 21 ∷ 35 ∷ []))
    -- the count that is given, and not the header's: a smaller one, and a greater one
    ∷ call_row (with_head 2 (1 ∷ 2 ∷ 3 ∷ 4 ∷ 5 ∷ 6 ∷ 7 ∷ 8 ∷ [])) 0 one 0 1 (with_head 1 (24 ∷ 5 ∷ 21 ∷ 35 ∷ 5 ∷ 6 ∷ 7 ∷ 8 ∷ []))
    ∷ call_row (with_head 0 (1 ∷ 2 ∷ 3 ∷ 4 ∷ 5 ∷ 6 ∷ 7 ∷ 8 ∷ [])) 1 one 0 2 (with_head 2 (1 ∷ 2 ∷ 3 ∷ 4 ∷ 24 ∷ 5 ∷ 21 ∷ 35 ∷ []))
    -- the count's high byte
    ∷ call_row (replicate 1031 9) 255 one 0 256 (77 ∷ 66 ∷ 84 ∷ 0 ∷ 1 ∷ 1 ∷ 0 ∷ (replicate 1020 9 ++ (24 ∷ 5 ∷ 21 ∷ 35 ∷ [])))
    -- 1, 7 and 10: the header is not written either
    ∷ left_row (1 ∷ 2 ∷ 3 ∷ 4 ∷ 5 ∷ 6 ∷ 7 ∷ 8 ∷ 9 ∷ 10 ∷ 11 ∷ []) 0 (read_at 16 5 false) 1
    ∷ left_row (1 ∷ 2 ∷ 3 ∷ 4 ∷ 5 ∷ 6 ∷ 7 ∷ 8 ∷ 9 ∷ 10 ∷ 11 ∷ []) 0 (read_at 8 128 true) 1
    ∷ left_row (1 ∷ 2 ∷ 3 ∷ 4 ∷ 5 ∷ 6 ∷ 7 ∷ 8 ∷ 9 ∷ 10 ∷ 11 ∷ []) 16000 one 7
    ∷ left_row (1 ∷ 2 ∷ 3 ∷ 4 ∷ 5 ∷ 6 ∷ 7 ∷ 8 ∷ 9 ∷ 10 ∷ 11 ∷ []) LAST one 7
    ∷ left_row (1 ∷ 2 ∷ 3 ∷ 4 ∷ 5 ∷ 6 ∷ 7 ∷ 8 ∷ 9 ∷ 10 ∷ []) 0 one 10
    ∷ left_row (with_head 1 (1 ∷ 2 ∷ 3 ∷ 4 ∷ 5 ∷ 6 ∷ 7 ∷ [])) 1 one 10
    ∷ left_row [] 0 one 10
    ∷ []
