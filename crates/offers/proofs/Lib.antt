-- Laws that the proofs of this crate's functions cite.
pub mod Pairing
pub mod Walks
pub mod InOrder
pub mod Begun
