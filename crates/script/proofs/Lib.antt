mod Cutting
mod Counting
mod Pairs
mod Blocks
mod Words
