pub mod Spans
pub mod Words
pub mod Reading
pub mod Faults
pub mod Texts
pub mod Paths
pub mod Written
pub mod Places
