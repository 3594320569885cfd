pub mod Packed
pub mod Places
