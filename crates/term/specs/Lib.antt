pub mod Form
pub mod Tables
pub mod Reading
