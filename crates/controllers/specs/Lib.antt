pub mod Levels
pub mod Waiting
pub mod Works
