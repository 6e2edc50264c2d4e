pub mod Steep
pub mod NetWeights
pub mod Answer
pub mod Growing
pub mod MarkedLists
pub mod NetGrowths
pub mod Spreads
