pub mod PutBack
pub mod FoundAgain
pub mod Kept
pub mod Boards
