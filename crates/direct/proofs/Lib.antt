pub mod Hears
pub mod Laws
pub mod Rows
pub mod Unique
pub mod Walls
