-- Ticket 3 as definitions, to be read beside it; rows for it; and for tests that the checker computes.
pub mod Board
pub mod BoardRows
pub mod Computed
