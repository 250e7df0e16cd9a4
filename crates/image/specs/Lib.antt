pub mod Image
pub mod Parts
pub mod Fits
pub mod Held
