pub mod Names
pub mod Seats
pub mod Views
pub mod Kept
pub mod Told
pub mod Turned
pub mod Seated
pub mod Sides
