pub mod Refinements
pub mod Comparisons
