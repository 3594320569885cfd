-- Document 01 as definitions. To read them beside it, take the files in this order: it is the order of its sentences.
-- "What the unit is given, what it keeps"
pub mod PowerOn
pub mod Masks
pub mod Flags
pub mod Registers
-- "Numbers that say no", and what is answered
pub mod Refusals
pub mod Numbers
pub mod Replies
-- "Which cycle is what"; then "Fetch", "Translation", "Checks", "SUP", "Recording"
pub mod Status
pub mod Bus
pub mod Memory
pub mod Translation
pub mod Checks
pub mod Recording
-- "Commands"
pub mod Codes
pub mod Entry
pub mod Commands
-- one cycle as a whole: what is decided, and the unit after it; and cycles one after another
pub mod Step
pub mod Runs
-- what rows are made of; "Proved rows"; rows for the lists of flags, bounds, status codes and command codes, and for memory cycles
pub mod Seen
pub mod Rows
pub mod FlagRows
pub mod CycleRows
pub mod MemoryRows
pub mod CodeRows
-- the kinds of "The trace"
pub mod Kinds
-- for tests that the checker computes
pub mod Computed
