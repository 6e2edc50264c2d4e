pub mod Sorting
pub mod Marking
pub mod RoleLaws
pub mod ForBoard
pub mod Uses
pub mod ReadsBack
pub mod Size
