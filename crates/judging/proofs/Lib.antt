-- Laws of the words that the numbers are drawn from, of the numbers' order, and of a call's answer.
pub mod Lent
pub mod Near
pub mod Stages
pub mod Answering
