-- Claimed has the theorems of specs/Claims, Cases those of specs/Cases; the others are what they rest on.
pub mod Everywhere
pub mod Begun
pub mod Lengths
pub mod RoundTrips
pub mod OneCount
pub mod Claimed
pub mod Cases
