pub mod Files
pub mod Slots
pub mod Seen
pub mod Counts
pub mod Plan
pub mod FileTable
pub mod Memory
pub mod RealDesk
