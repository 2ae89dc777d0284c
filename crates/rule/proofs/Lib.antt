pub mod Several
pub mod Adding
