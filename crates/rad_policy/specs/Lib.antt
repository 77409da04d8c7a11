pub mod Policy
pub mod Seen
