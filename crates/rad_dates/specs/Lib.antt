pub mod Calendar
pub mod Dates
pub mod Padded
pub mod Stamp
