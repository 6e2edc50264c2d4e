pub mod Kinds
pub mod Faults
pub mod BoardText
pub mod Canonical
pub mod Roles
pub mod Reader
pub mod Lists
