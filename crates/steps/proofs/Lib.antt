pub mod Going
pub mod StepKinds
pub mod Lemmas
