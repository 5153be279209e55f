pub mod Lawful
pub mod Taking
pub mod Reading
pub mod Fitting
pub mod Writing
