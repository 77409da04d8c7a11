pub mod FirstKnown
pub mod Differences
pub mod Digests
pub mod LetIn
