-- Laws that the proofs of the code share.
pub mod Counts
pub mod Signs
pub mod Adding
pub mod Copying
pub mod OneByOne
pub mod Chunks
pub mod WordByWord
