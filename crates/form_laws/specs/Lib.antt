pub mod Grammar
pub mod Law
