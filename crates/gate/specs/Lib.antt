pub mod Differing
pub mod Meaning
