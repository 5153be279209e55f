pub mod Contents
pub mod Lawful
pub mod Modules
pub mod Reading
