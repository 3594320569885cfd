pub mod Tables
pub mod Places
pub mod Made
pub mod Found
pub mod Stored
pub mod InPlace
