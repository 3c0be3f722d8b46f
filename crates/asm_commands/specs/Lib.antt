pub mod Assembling
pub mod Checking
pub mod CodeLines
pub mod Disassembling
pub mod Courses
pub mod CourseViews
pub mod SymbolMaps
