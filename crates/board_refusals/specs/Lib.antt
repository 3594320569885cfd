-- What is known of the units while they are judged.
pub mod Judged
