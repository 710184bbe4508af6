pub mod Traces
pub mod Counts
pub mod Choosing
pub mod Followed
pub mod Printed
pub mod Only
pub mod Readers
