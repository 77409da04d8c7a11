pub mod Lists
pub mod Sitting
pub mod Turning
pub mod Having
pub mod Ending
pub mod Naming
pub mod Seating
pub mod Sharing
