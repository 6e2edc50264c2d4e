pub mod Means
pub mod Guesses
