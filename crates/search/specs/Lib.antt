pub mod Graph
pub mod Search
pub mod Laws
pub mod Stacks
pub mod Running
