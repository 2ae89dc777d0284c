pub mod Form
pub mod Emission
pub mod Reading
pub mod Keeping
