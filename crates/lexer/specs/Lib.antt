pub mod Words
pub mod Tokens
pub mod Lexemes
