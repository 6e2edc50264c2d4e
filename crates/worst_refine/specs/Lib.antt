pub mod Lowered
pub mod Fitting
pub mod Steps
pub mod TraderRoom
pub mod Traded
pub mod Spent
pub mod Members
pub mod NetUses
