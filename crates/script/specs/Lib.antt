pub mod Pieces
pub mod Lines
pub mod Numbers
pub mod Hex
pub mod Ends
pub mod Commands
pub mod Blocks
