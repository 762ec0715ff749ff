-- Laws that the proofs of the code share: words of bytes, then the mark and the calls, then strays.
-- Each proof of a function stands in the folder of its name.
pub mod TwosComplement
pub mod WordLists
pub mod Mark
pub mod UnknownCalls
pub mod StrayBytes
pub mod Refused
