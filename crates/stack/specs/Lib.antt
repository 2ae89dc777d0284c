pub mod Refusals
pub mod Stacks
pub mod Runs
