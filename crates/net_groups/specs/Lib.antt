pub mod Gathering
pub mod Incidence
pub mod Running
pub mod Samples
