pub mod Accesses
pub mod Decoded
