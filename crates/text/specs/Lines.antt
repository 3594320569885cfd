-- The line of an answer, and the lines of many, read from packed answers (`packed`), and the most bytes of a line.
use Rattle.std.specs.Prelude.{List, [], ◌∷◌, ◌++◌, ℕ, zero, suc, ◌+◌, get_or, take, drop}
use Rattle.unit_packed.specs.Packed.{letter_at, number_at, high_at, low_at, flags_at, data_byte_at, distance_at, width, ADDRESS, SUP, TRAP, DRIVES}
use Rattle.rules.specs.Flags.{has}
use Rattle.text.specs.Digits.{decimal_room}
use Rattle.text.specs.Fields.{space, mark_room, opening_room, opening, address_room, address_text, signals_room, signals, ending_room, ending}

-- the most bytes of the first line, or of a refused trace's only line, and of the line of a record
abbrev pub head_room : ℕ
head_room = mark_room + decimal_room + 1

abbrev pub line_room : ℕ
line_room = opening_room + address_room + 1 + signals_room + ending_room

-- the line of one
unfoldable pub line_of : ℕ → (packed : List ℕ) → List ℕ
line_of n p =
    opening n (get_or p letter_at 0) (get_or p number_at 0)
    ++ (address_text (has (get_or p flags_at 0) ADDRESS) (get_or p high_at 0) (get_or p low_at 0)
    ++ (space ∷ signals (has (get_or p flags_at 0) SUP) (has (get_or p flags_at 0) TRAP) (has (get_or p flags_at 0) DRIVES) (get_or p data_byte_at 0)
    ++ ending (get_or p distance_at 0)))

-- k lines, numbered from n
unfoldable pub lines_of : (n k : ℕ) → List ℕ → List ℕ
lines_of n zero p = []
lines_of n (suc k) p = line_of n (take width p) ++ lines_of (n + 1) k (drop width p)
