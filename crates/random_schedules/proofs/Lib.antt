pub mod Turns
pub mod Lowering
pub mod Drawing
pub mod Fair
pub mod Lemmas
