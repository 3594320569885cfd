-- Document 01, "The trace": the header of a trace, a list of bytes, where a byte past its end counts as 0;
-- and the numbers 5 to 8 of "Numbers that say no".
use Rattle.std.specs.Prelude.{Bool, true, false, not, ◌&&◌, List, [], ◌∷◌, ℕ, ◌+◌, ◌*◌, eqb, ltb, length, get_or}
use Rattle.unit_stores.specs.Word.{word_at}

-- ---- the layout

-- "A trace opens with the three bytes "MBT""
abbrev pub mark : List ℕ
mark = 77 ∷ 66 ∷ 84 ∷ []

-- "then version 1 and the record count, 16 bits each": where they stand, and the bytes of the header
abbrev pub version_at : ℕ
version_at = 3

abbrev pub count_at : ℕ
count_at = 5

abbrev pub head_size : ℕ
head_size = 7

-- what a version fixes: its number, the most records that a trace may have, and the bytes of a record
pub record Format : Type 0 where
  pub version : ℕ
  pub most : ℕ
  pub record_size : ℕ

abbrev pub format1 : Format
format1 = record { version = 1; most = 16000; record_size = 4 }

-- the byte that record n starts at, "7 + 4n", where a trace of n records ends, "7 + 4 x count"
abbrev pub record_start : Format → (n : ℕ) → ℕ
record_start f n = head_size + f.record_size * n

-- the bytes of the longest trace
abbrev pub longest : Format → ℕ
longest f = record_start f f.most

-- ---- what a trace says

unfoldable pub marked : List ℕ → Bool
marked t = (eqb (get_or t 0 0) (get_or mark 0 0) && eqb (get_or t 1 0) (get_or mark 1 0)) && eqb (get_or t 2 0) (get_or mark 2 0)

-- "16 bits each, high byte first"
abbrev pub version_of : List ℕ → ℕ
version_of t = word_at t version_at

abbrev pub count_of : List ℕ → ℕ
count_of t = word_at t count_at

-- ---- what refuses it

-- "5: trace shorter than 7 bytes, or mark not "MBT"", "6: trace version not 1", "7: record count above 16,000",
-- "8: trace length not 7 + 4 x count"; "the earliest in the order [..] 5, 6, 7, 8, 9 wins"; 0 where none is met
abbrev pub refusal_by : (short unmarked other many uneven : Bool) → ℕ
refusal_by true unmarked other many uneven = 5
refusal_by false true other many uneven = 5
refusal_by false false true many uneven = 6
refusal_by false false false true uneven = 7
refusal_by false false false false true = 8
refusal_by false false false false false = 0

-- the number that refuses a trace of a version
unfoldable pub refusal_in : Format → List ℕ → ℕ
refusal_in f t =
    refusal_by (ltb (length t) head_size) (not (marked t)) (not (eqb (version_of t) f.version)) (ltb f.most (count_of t))
    (not (eqb (length t) (record_start f (count_of t))))

-- "version 1"
abbrev pub refusal_of : List ℕ → ℕ
refusal_of t = refusal_in format1 t
