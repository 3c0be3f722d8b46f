pub mod Spans
pub mod Wants
pub mod WrongOperands
pub mod Views
pub mod Advice
pub mod FirstWords
pub mod OperandAdvice
