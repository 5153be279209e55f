pub mod Distinct
pub mod Keys
pub mod Words
