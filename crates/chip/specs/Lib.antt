pub mod Chosen
pub mod Seen
pub mod Turned
