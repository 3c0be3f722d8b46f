pub mod Leading
pub mod Refusing
pub mod Rounds
pub mod Lemmas
