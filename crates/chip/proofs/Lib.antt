pub mod Choosing
pub mod Seeing
pub mod Turning
