-- laws of the two loops over the units' bytes, of the units that bytes hold, of the ends of a cycle, and of its contract
pub mod Turns
pub mod Held
pub mod Ends
