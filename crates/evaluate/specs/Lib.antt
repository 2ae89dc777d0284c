pub mod Pending
pub mod Reached
