pub use Rattle.rad_words.specs.Attribute
pub use Rattle.rad_words.specs.Names
pub mod ActionList
pub mod DefaultActions
