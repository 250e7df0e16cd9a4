pub mod Descriptor
pub mod Gathering
