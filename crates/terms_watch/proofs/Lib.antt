pub mod Terms
pub mod Openings
