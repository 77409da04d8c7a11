pub mod Sessions
pub mod Logs
pub mod Shown
