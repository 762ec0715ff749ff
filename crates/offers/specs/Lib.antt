-- Definitions that the contracts of this crate's functions cite, and of them UsesFive those of its callers too.
pub mod Typed
pub mod PairTests
