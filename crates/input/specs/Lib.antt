pub mod Bytes
pub mod Errata
pub mod Numbers
pub mod Benches
pub mod Windows
