pub mod Parts
pub mod Shows
pub mod Sizes
pub mod Loaded
