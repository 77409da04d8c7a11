pub mod Comparison
pub mod Kinds
pub mod Pairs
pub mod PairLists
pub mod Edit
pub mod Scope
