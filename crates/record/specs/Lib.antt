pub mod Denials
pub mod Cells
pub mod Modules
pub mod Meanings
pub mod Plain
pub mod Runs
pub mod Memory
