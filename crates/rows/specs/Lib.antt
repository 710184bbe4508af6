pub mod Rows
pub mod Traces
