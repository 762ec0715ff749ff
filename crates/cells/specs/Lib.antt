-- What the code's enum and structs mean in document 01's rules.
pub mod Meaning
