pub mod Sentences
pub mod Clocks
pub mod Turns
pub mod Laws
