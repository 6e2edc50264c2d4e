pub mod Uniform
pub mod Shared
pub mod Claims
pub mod Laws
