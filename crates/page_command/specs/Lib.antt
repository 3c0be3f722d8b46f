pub mod Views
pub mod Windows
pub mod Changes
pub mod Steps
pub mod Openings
pub mod Pages
pub mod Laws
