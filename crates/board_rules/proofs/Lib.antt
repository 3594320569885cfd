-- the rows; and laws of loops over seats
pub mod Rows
pub mod Ahead
