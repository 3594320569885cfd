-- laws of the units in flat arrays, of the classes of cycles, and of turns
pub mod Flat
pub mod Classes
pub mod Plans
pub mod Back
pub mod Selects
pub mod Stepping
pub mod Boards
pub mod Turns
pub mod Ends
pub mod Known
