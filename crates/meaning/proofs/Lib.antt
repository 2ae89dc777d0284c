pub mod Readers
pub mod Locality
pub mod Placing
pub mod Shape
