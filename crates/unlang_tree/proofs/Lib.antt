mod InstanceLemmas
mod ArmLemmas
mod CallLemmas
mod Walks
mod GroupLevels
mod WrittenCalls
mod BlockWords
mod WrittenArms
mod WrittenBlocks
mod Strays
mod Binds
pub mod CallsWithin
pub mod EachWider
pub mod CallsMet
