pub mod Keyed
pub mod Partings
pub mod UsersNamed
