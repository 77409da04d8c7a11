pub mod Printings
pub mod Headlines
pub mod Statuses
pub mod Folders
