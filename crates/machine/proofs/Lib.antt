pub mod Still
pub mod Machine
