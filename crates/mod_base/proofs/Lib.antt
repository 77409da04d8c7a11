pub mod Reached
pub mod Frames
