pub mod Walks
pub mod DateLaws
pub mod Shown
