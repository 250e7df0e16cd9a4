pub mod Laws
pub mod DoesLaws
pub mod Loops
pub mod Whole
