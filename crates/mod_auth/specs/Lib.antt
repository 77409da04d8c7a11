pub mod Attributes
pub mod Differences
pub mod Known
pub mod Password
pub mod Pap
pub mod Chap
pub mod LetsIn
pub mod Lawful
