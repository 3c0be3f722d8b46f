pub mod Lemmas
pub mod Cutting
pub mod OperandSpans
