-- what one turn of a loop does, the ends of a cycle, and that no second answer fits
pub mod Turns
pub mod Ends
pub mod Once
