-- What is printed of an answer.
pub mod Text
pub mod Worked
