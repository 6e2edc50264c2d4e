pub mod Rounded
pub mod Counts
pub mod Items
pub mod LongDivision
pub mod Kept
pub mod LeastEven
