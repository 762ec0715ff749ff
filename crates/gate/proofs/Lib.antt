-- Laws of lent words as pairs, and of the merge, from the tenths of two runs to a step of it.
pub mod Totals
pub mod Blanks
pub mod Runs
pub mod Steps
pub mod Admitted
