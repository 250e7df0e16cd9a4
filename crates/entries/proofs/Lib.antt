pub mod Laws
pub mod Unique
pub mod Lifts
pub mod Rows
pub mod Walls
