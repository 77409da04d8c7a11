pub mod Attributes
pub mod Policies
pub mod Access
pub mod Decided
pub mod Responses
pub mod Passwords
pub mod Rejects
