pub mod Sieve
pub mod Filter
pub mod Module
pub mod Lawful
pub mod Laws
