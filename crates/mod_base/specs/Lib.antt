pub mod Methods
pub mod Situation
pub mod Reaching
pub mod Meaning
pub mod Lawful
