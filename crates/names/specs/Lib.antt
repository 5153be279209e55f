pub mod Names
pub mod Words
pub mod Keys
pub mod Owned
