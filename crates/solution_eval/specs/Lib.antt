pub mod Counted
pub mod Flood
pub mod Steps
pub mod Verdict
pub mod Violations
