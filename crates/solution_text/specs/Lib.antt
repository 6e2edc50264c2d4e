pub mod Kinds
pub mod Text
pub mod Reading
pub mod Steps
pub mod Roles
pub mod Reader
pub mod Sayable
