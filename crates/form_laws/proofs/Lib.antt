mod Right
mod Tokens
mod Expressions
mod Terms
mod Texts
