pub mod Words
pub mod ReadBack
pub mod LogLines
pub mod Logging
pub mod Keying
pub mod LineByLine
pub mod Order
pub mod Merging
pub mod Parting
mod Sizes
mod Standing
