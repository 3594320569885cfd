-- Document 01, "The trace": rows of the records, in plain numbers: how many a trace gives, where record n stands or what refuses it, and what
-- cycle its bytes are. `Rows` (proofs/) shows that all of them hold of the definitions.
use Rattle.std.specs.Prelude.{Bool, true, false, List, [], ◌∷◌, ℕ}
use Rattle.rules.specs.Seen.{cycle_with}
use Rattle.rules.specs.declared.Cycle.{Cycle}

-- a trace of two records, with a version
abbrev pub two_records : (version : ℕ) → List ℕ
two_records version = 77 ∷ 66 ∷ 84 ∷ 0 ∷ version ∷ 0 ∷ 2 ∷ 1 ∷ 2 ∷ 3 ∷ 4 ∷ 5 ∷ 6 ∷ 7 ∷ 8 ∷ []

-- a trace, and how many records it gives
abbrev pub given_rows : List (List ℕ × ℕ)
given_rows = (two_records 1, 2) ∷ (two_records 2, 0) ∷ []

-- record n of a trace: the number that refuses it, the byte that its part starts at, and the part's bytes
pub record RecordRow : Type 0 where
  pub trace : List ℕ
  pub n : ℕ
  pub number : ℕ
  pub start : ℕ
  pub part : List ℕ

abbrev pub record_row : (trace : List ℕ) → (n number start : ℕ) → (part : List ℕ) → RecordRow
record_row trace n number start part = record { trace = trace; n = n; number = number; start = start; part = part }

abbrev pub record_rows : List RecordRow
record_rows =
    record_row (two_records 1) 0 0 7 (1 ∷ 2 ∷ 3 ∷ 4 ∷ [])
    ∷ record_row (two_records 1) 1 0 11 (5 ∷ 6 ∷ 7 ∷ 8 ∷ [])
    -- "record number at or past the count"
    ∷ record_row (two_records 1) 2 9 0 []
    ∷ record_row (two_records 1) 3 9 0 []
    -- "the earliest in the order [..] 5, 6, 7, 8, 9 wins"
    ∷ record_row (two_records 2) 0 6 0 []
    ∷ record_row (two_records 2) 2 6 0 []
    ∷ []

-- a part of a trace, and its cycle; ticket 8: "Version 1 traces give 0."
abbrev pub decoded_row : (part : List ℕ) → (status : ℕ) → (read normal dma select : Bool)
    → (segment : ℕ) → (reset : Bool) → (offset byte : ℕ) → List ℕ × Cycle
decoded_row part status read normal dma select segment reset offset byte =
    (part, cycle_with status read normal dma select segment offset 0 byte reset)

abbrev pub decoded_rows : List (List ℕ × Cycle)
decoded_rows =
    -- nothing set
    decoded_row (0 ∷ 0 ∷ 0 ∷ 0 ∷ []) 0 false false false false 0 false 0 0
    -- byte 0, bit by bit: status, read, normal mode, DMA, select
    ∷ decoded_row (1 ∷ 0 ∷ 0 ∷ 0 ∷ []) 1 false false false false 0 false 0 0
    ∷ decoded_row (2 ∷ 0 ∷ 0 ∷ 0 ∷ []) 2 false false false false 0 false 0 0
    ∷ decoded_row (4 ∷ 0 ∷ 0 ∷ 0 ∷ []) 4 false false false false 0 false 0 0
    ∷ decoded_row (8 ∷ 0 ∷ 0 ∷ 0 ∷ []) 8 false false false false 0 false 0 0
    ∷ decoded_row (16 ∷ 0 ∷ 0 ∷ 0 ∷ []) 0 true false false false 0 false 0 0
    ∷ decoded_row (32 ∷ 0 ∷ 0 ∷ 0 ∷ []) 0 false true false false 0 false 0 0
    ∷ decoded_row (64 ∷ 0 ∷ 0 ∷ 0 ∷ []) 0 false false true false 0 false 0 0
    ∷ decoded_row (128 ∷ 0 ∷ 0 ∷ 0 ∷ []) 0 false false false true 0 false 0 0
    -- byte 1: the segment, and the reset line
    ∷ decoded_row (0 ∷ 1 ∷ 0 ∷ 0 ∷ []) 0 false false false false 1 false 0 0
    ∷ decoded_row (0 ∷ 64 ∷ 0 ∷ 0 ∷ []) 0 false false false false 64 false 0 0
    ∷ decoded_row (0 ∷ 127 ∷ 0 ∷ 0 ∷ []) 0 false false false false 127 false 0 0
    ∷ decoded_row (0 ∷ 128 ∷ 0 ∷ 0 ∷ []) 0 false false false false 0 true 0 0
    -- byte 2: the byte of the address phase; byte 3: "data, any value"
    ∷ decoded_row (0 ∷ 0 ∷ 255 ∷ 0 ∷ []) 0 false false false false 0 false 255 0
    ∷ decoded_row (0 ∷ 0 ∷ 0 ∷ 255 ∷ []) 0 false false false false 0 false 0 255
    -- a value of its own in each field
    ∷ decoded_row (218 ∷ 133 ∷ 21 ∷ 35 ∷ []) 10 true false true true 5 true 21 35
    ∷ decoded_row (45 ∷ 65 ∷ 147 ∷ 7 ∷ []) 13 false true false false 65 false 147 7
    -- missing bytes count as 0, and bytes past the fourth are not read
    ∷ decoded_row ([]) 0 false false false false 0 false 0 0
    ∷ decoded_row (24 ∷ 3 ∷ []) 8 true false false false 3 false 0 0
    ∷ decoded_row (0 ∷ 0 ∷ 0 ∷ 0 ∷ 255 ∷ []) 0 false false false false 0 false 0 0
    ∷ []
