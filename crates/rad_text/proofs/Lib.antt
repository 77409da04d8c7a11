pub mod DigitLemmas
pub mod Decimals
pub mod LineEnds
pub mod NumeralLaws
pub mod AddressLaws
pub mod Turns
pub mod FirstFaults
