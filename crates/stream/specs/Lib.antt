pub mod Refusals
pub mod Bytes
pub mod Signals
pub mod Words
pub mod Sending
pub mod Traces
