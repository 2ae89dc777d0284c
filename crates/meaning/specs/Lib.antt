pub mod Syntax
pub mod Windows
pub mod Values
pub mod Answers
pub mod Runs
pub mod Meaning
pub mod Locality
pub mod Shape
