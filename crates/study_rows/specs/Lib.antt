pub mod Sizes
pub mod Columns
pub mod Texts
pub mod Scales
pub mod Canvas
pub mod Plots
