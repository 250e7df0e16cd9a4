pub mod Turning
pub mod Freeing
