pub mod Shown
pub mod Reach
pub mod Limits
pub mod Cutting
pub mod Refusing
pub mod Loading
pub mod Held
