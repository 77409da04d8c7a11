pub mod Listed
pub mod Log
pub mod Laws
pub mod Pieces
pub mod Keyed
pub mod Kept
pub mod Parts
