pub mod Packet
pub mod Front
pub mod Hmac
pub mod Signatures
pub mod Authentic
pub mod Octets
pub mod Hiding
