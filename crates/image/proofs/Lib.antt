pub mod Laws
pub mod Rows
pub mod Round
pub mod FitLaws
