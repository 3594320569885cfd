-- a board whose units are kept in bytes
pub mod Boarded
