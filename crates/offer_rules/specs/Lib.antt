-- The rules of an offer by document 01, with document 02's, below the book's. Read in this order.
pub mod Numbers
pub mod Time
pub mod Kinds
pub mod Offer
pub mod Gate
