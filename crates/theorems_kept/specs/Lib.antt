pub mod Kept
pub mod Boards
