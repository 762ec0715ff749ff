-- What refusals 1 to 4 leave to a call.
pub mod Admitted
