pub mod Fields
pub mod Readings
pub mod Lawful
pub mod Numbers
pub mod Names
pub mod Plain
pub mod Kinds
