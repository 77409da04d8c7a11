pub mod Given
mod Names
mod Listings
