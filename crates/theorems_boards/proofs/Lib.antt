-- laws that the proofs share
pub mod Lists
pub mod Elements
pub mod Forms
pub mod Live
pub mod Computed
-- the claims
pub mod Numbers
pub mod Units
pub mod Unseen
pub mod One
pub mod Said
pub mod Exactly
pub mod Settings
pub mod Tighter
pub mod Order
-- claims put to use, and readings refuted
pub mod Uses
pub mod TighterNeeded
