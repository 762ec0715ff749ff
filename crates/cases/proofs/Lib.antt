mod Computes
pub mod Cases
pub mod WorkedRun
