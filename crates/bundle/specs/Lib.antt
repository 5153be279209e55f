pub mod Format
pub mod Bundles
pub mod Kinds
