pub mod Graph
pub mod Neighbours
pub mod Rows
