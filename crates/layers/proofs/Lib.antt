pub mod FirstParts
pub mod Openings
