pub mod Passes
pub mod Stepping
