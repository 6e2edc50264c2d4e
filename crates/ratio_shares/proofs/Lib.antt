pub mod Largest
pub mod Claims
