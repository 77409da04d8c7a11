pub mod Telling
pub mod Files
pub mod Wire
pub mod Shelf
pub mod Sink
pub mod Crew
pub mod Moments
pub mod Printing
