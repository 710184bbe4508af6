pub mod Digits
pub mod Members
