pub mod Attributes
pub mod Values
pub mod Edits
pub mod Done
