pub mod BareWorld
pub mod Site
pub mod Request
pub mod Accepts
pub mod Built
pub mod Meaning
