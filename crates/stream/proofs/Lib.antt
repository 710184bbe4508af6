pub mod Same
pub mod Checks
pub mod Sends
