pub mod Wrong
pub mod Examples
pub mod Chip
pub mod Captures
