-- Laws of what a reader draws and answers.
pub mod LookUpNumber
pub mod Read
