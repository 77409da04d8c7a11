pub mod Attribute
pub mod Names
pub mod Codes
