-- What the code's enum of refusals means in document 01's numbers.
pub mod Refusal
