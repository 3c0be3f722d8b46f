pub mod Splitting
pub mod Cutting
pub mod Numerals
pub mod Counting
pub mod LineByLine
pub mod ReadBack
