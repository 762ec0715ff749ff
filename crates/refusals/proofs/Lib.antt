-- A law of an outage that draws no number.
pub mod OutagePassed
