-- Laws of the definitions in specs/.
pub mod Drawn
pub mod Ranges
pub mod Periods
pub mod Pairs
pub mod Blanks
pub mod KindRows
