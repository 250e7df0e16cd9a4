pub mod Cases
pub mod Known
pub mod Follow
pub mod Judging
