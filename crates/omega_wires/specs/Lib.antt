pub mod Wires
pub mod Laws
pub mod Members
