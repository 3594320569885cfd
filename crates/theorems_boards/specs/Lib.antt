-- What is claimed of boards. Each claim is a type, and proofs/ has a proof of it.
pub mod Seats
-- which number, and what a refusal leaves; each unit alone; what is looked at by nothing; what an answer says
pub mod Numbers
pub mod Alone
pub mod Unseen
pub mod Said
-- MR settings that never meet 12; two boards, one tightened, or with its units in another order
pub mod Settings
pub mod BoardTighter
pub mod Order
