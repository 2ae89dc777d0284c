pub mod Replaying
mod Laws
