pub mod Paths
pub mod Goals
pub mod Holding
pub mod FileHosts
pub mod MappedHosts
pub mod Lawful
pub mod Held
