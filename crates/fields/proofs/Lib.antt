pub mod Bytewise
mod PlainReads
mod Tables
pub mod OnInputs
