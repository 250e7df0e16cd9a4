pub mod BitLaws
pub mod RegisterBytes
pub mod Ranges
