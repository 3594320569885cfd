-- A board's answer in eight bytes, and answers one after another.
use Rattle.std.specs.Prelude.{List, [], ◌∷◌, ◌++◌, ℕ, ◌+◌, Some, None}
use Rattle.unit_packed.specs.Packed.{width, packed}
use Rattle.board_rules.specs.declared.BoardAnswer.{BoardAnswer}
use Rattle.board_rules.specs.Board.{Named}

-- the unit that is named stands behind a unit's answer
abbrev pub named_at : ℕ
named_at = width

abbrev pub board_width : ℕ
board_width = named_at + 1

-- the byte that says that none is named
abbrev pub NOBODY : ℕ
NOBODY = 255

abbrev pub named_byte : Named → ℕ
named_byte None = NOBODY
named_byte (Some i) = i

unfoldable pub board_packed : BoardAnswer → List ℕ
board_packed a = packed a.answer ++ (named_byte a.named ∷ [])

-- answers one after another
unfoldable pub board_packed_all : List BoardAnswer → List ℕ
board_packed_all [] = []
board_packed_all (a ∷ rest) = board_packed a ++ board_packed_all rest
