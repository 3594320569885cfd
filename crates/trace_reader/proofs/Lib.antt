pub mod Answers
pub mod Gives
pub mod Once
