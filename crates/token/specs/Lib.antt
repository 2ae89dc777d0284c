pub mod Classes
pub mod Tokens
pub mod Ahead
pub mod Laid
