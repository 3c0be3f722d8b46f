pub mod Elements
pub mod Layouts
pub mod Pages
pub mod WholePictures
pub mod Summaries
pub mod Drawings
