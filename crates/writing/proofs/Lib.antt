-- Laws of what a writer draws.
pub mod OfferParts
pub mod SentKind
