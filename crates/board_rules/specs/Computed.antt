-- Every rule of boards that stays shut, under one name, with those of the single unit: `unfolding board_computed` opens them all, for a test that
-- the checker computes. A rule that is added stands in this list.
use Rattle.std.specs.Prelude.{ℕ}
use Rattle.rules.specs.Computed.{computed}
use Rattle.board_rules.specs.Board.{seated, seen_by, some_of, two_of, own_from, verdict, driver, driver_from, joined_byte, kind_of, joined}
use Rattle.board_rules.specs.Board.{seats_answer, seats_after, board_answer, board_after, board_answers, board_final}

-- what the seats of a board answer, and the units after it
unfoldable pub answering : ℕ
unfolding seated seen_by some_of two_of own_from verdict driver driver_from joined_byte kind_of joined seats_answer seats_after
answering = 0

unfoldable pub board_computed : ℕ
unfolding computed answering board_answer board_after board_answers board_final
board_computed = 0
