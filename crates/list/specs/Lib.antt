pub mod Lists
pub mod Modules
pub mod Reading
