-- Laws that the proofs of the code share.
pub mod WordByWord
pub mod Showing
pub mod Halves
