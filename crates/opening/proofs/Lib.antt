-- Laws that the proofs of the code share, and what a book that passes its test gives to the code after it.
pub mod Filling
pub mod LentParts
pub mod UsableBooks
