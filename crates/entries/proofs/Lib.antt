pub mod Unique
pub mod Seeing
pub mod Fronts
pub mod Reading
pub mod Errors
