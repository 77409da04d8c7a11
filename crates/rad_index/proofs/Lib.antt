pub mod PlacesLemmas
pub mod Searches
pub mod Finds
