pub mod Made
pub mod Told
pub mod Recording
pub mod RoundTrip
pub mod Accepted
pub mod Again
pub mod Needed
