pub mod Attributes
pub mod Parting
pub mod Realms
pub mod Held
pub mod Named
pub mod OfRealm
pub mod Lawful
