pub mod OneKey
pub mod OneCell
