-- Laws that the proofs of the crates above share.
pub mod Chains
