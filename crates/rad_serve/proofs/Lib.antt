pub mod Turns
pub mod Kept
pub mod Telling
pub mod Tolds
pub mod Leavings
pub mod Passes
pub mod Installs
pub mod Tallies
