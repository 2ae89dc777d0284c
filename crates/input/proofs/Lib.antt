pub mod Windows
pub mod Writes
mod Tables
