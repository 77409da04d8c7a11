pub mod Sifting
pub mod Ruling
pub mod Adding
