pub mod Same
pub mod Seats
pub mod Made
