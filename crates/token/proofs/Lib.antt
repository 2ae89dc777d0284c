pub mod Laws
pub mod Classes
pub mod Turns
pub mod Sofar
pub mod Stand
