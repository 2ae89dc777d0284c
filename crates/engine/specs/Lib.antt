pub mod Blanks
pub mod Configs
pub mod Places
pub mod Steps
pub mod Replies
pub mod Parses
