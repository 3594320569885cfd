-- What is kept of the answers while they are joined.
pub mod Joint
