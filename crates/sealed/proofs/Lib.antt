pub mod Grammars
