pub mod Usable
pub mod Tested
