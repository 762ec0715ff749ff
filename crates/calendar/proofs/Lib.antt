-- Laws that the proofs of the code cite.
pub mod Months
pub mod Years
pub mod Refused
