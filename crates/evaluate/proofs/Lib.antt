pub mod Pushing
pub mod Numbers
pub mod Worth
