pub mod Cuts
pub mod Ascii
pub mod Fields
pub mod Kept
pub mod Mapped
pub mod Sorting
pub mod Nearest
pub mod Named
