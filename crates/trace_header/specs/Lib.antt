pub mod Header
pub mod Rows
