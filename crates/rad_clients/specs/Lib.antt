pub mod Networks
pub mod Written
