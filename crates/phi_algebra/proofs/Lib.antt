pub mod Masks
pub mod Special
pub mod Composing
pub mod Composed
pub mod Lemmas
