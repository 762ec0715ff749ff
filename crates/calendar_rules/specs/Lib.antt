-- Dates and periods by document 02. They know the numbers and the time of an offer's rules, and nothing of the book. Read in this order.
pub mod Calendar
pub mod Answers
pub mod Claims
pub mod Cases
