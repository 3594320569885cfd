pub mod Tied
pub mod Walked
pub mod Free
pub mod Computed
pub mod Agree
pub mod Known
