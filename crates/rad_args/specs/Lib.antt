pub mod Words
pub mod Found
pub mod Numbers
pub mod Pushed
