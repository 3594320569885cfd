-- An answer in seven bytes, and answers one after another.
use Rattle.std.specs.Prelude.{List, [], ◌∷◌, ◌++◌, ℕ}
use Rattle.rules.specs.Flags.{with, flag_if}
use Rattle.rules.specs.Kinds.{letter_of, number_of}
use Rattle.rules.specs.declared.Answer.{Answer}
use Rattle.unit_stores.specs.Word.{high_of, low_of}

-- ---- the layout: what stands where, and the bytes of a packed answer

abbrev pub letter_at : ℕ
letter_at = 0

abbrev pub number_at : ℕ
number_at = 1

abbrev pub high_at : ℕ
high_at = 2

abbrev pub low_at : ℕ
low_at = 3

abbrev pub flags_at : ℕ
flags_at = 4

abbrev pub data_byte_at : ℕ
data_byte_at = 5

abbrev pub distance_at : ℕ
distance_at = 6

abbrev pub width : ℕ
width = 7

-- the flags' masks: the address is driven, SUP, the trap line, the data byte is driven
abbrev pub ADDRESS : ℕ
ADDRESS = 1

abbrev pub SUP : ℕ
SUP = 2

abbrev pub TRAP : ℕ
TRAP = 4

abbrev pub DRIVES : ℕ
DRIVES = 8

-- ---- the bytes

-- what an answer says yes or no to
unfoldable pub flags_of : Answer → ℕ
flags_of a =
    with (with (with
    (flag_if a.address.driven ADDRESS)
    (flag_if a.sup SUP))
    (flag_if a.trap TRAP))
    (flag_if a.drives DRIVES)

-- the kind's letter, the number of a refusal, the address lines (high byte first), the flags, the data byte, the distance
unfoldable pub packed : Answer → List ℕ
packed a =
    letter_of a.kind ∷ number_of a.kind ∷ high_of a.address.block ∷ low_of a.address.block ∷ flags_of a ∷ a.byte ∷ a.distance ∷ []

-- answers one after another
unfoldable pub packed_all : List Answer → List ℕ
packed_all [] = []
packed_all (a ∷ rest) = packed a ++ packed_all rest
