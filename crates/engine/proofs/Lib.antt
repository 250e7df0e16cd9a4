pub mod Starts
pub mod Outcome
pub mod Calling
pub mod Unique
