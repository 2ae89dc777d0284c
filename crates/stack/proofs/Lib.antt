pub mod Held
mod Pairs
