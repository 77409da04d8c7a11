pub mod Positions
pub mod Trying
pub mod EditLaws
