pub mod Prefixes
pub mod OneMore
pub mod WrittenPlaces
pub mod WrittenNames
