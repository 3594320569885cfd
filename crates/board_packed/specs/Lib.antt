-- A packed answer of a board.
pub mod BoardPacked
