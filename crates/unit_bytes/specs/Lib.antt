pub mod Computed
pub mod Cycled
pub mod InPlace
pub mod Places
pub mod Snapshot
