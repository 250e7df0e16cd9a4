pub mod Worlds
pub mod Does
pub mod Parts
pub mod Lent
