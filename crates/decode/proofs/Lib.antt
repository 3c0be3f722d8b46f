mod Masks
pub mod Opcodes
pub mod Operands
