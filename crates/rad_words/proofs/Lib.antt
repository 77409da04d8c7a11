pub mod Inverse
pub mod CodesNamed
