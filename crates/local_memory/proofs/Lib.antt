pub mod Padded
pub mod Lemmas
