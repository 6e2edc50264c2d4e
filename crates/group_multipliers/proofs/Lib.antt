pub mod Largest
pub mod Pulls
