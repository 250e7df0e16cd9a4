pub mod Cells
pub mod Writes
