pub mod Agrees
pub mod Views
pub mod Latest
