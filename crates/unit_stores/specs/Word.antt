-- A number of 16 bits as two bytes, "high byte first", and one found so in a list of bytes.
use Rattle.std.specs.Prelude.{List, ℕ, ◌+◌, ◌*◌, ◌/◌, ◌%◌, get_or}

-- how many values a byte has, and how many two bytes have
abbrev pub byte_values : ℕ
byte_values = 256

abbrev pub word_values : ℕ
word_values = byte_values * byte_values

-- the number that two bytes are, and the two bytes of a number
abbrev pub word : (high low : ℕ) → ℕ
word high low = high * byte_values + low

abbrev pub high_of : ℕ → ℕ
high_of n = n / byte_values

abbrev pub low_of : ℕ → ℕ
low_of n = n % byte_values

-- the number that stands at an index of a list of bytes; a byte past the end counts as 0
unfoldable pub word_at : List ℕ → (at : ℕ) → ℕ
word_at l at = word (get_or l at 0) (get_or l (at + 1) 0)
