pub mod Judges
pub mod Departs
pub mod Tails
pub mod Files
