pub mod Taken
pub mod Rows
