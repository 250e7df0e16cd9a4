pub mod Frees
pub mod Turns
