pub mod Growth
pub mod Building
pub mod Laws
pub mod Joining
