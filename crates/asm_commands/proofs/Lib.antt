pub mod Courses
pub mod SymbolMaps
