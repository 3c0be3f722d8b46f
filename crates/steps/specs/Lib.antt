pub mod Answers
pub mod Answered
pub mod Groups
pub mod Kinds
pub mod StepObserver
