pub mod Joining
pub mod Pairs
