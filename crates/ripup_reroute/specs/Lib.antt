pub mod Turns
pub mod Rerouting
pub mod Working
pub mod Bounds
pub mod Samples
pub mod Ways
