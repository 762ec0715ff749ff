-- The rules of the book by document 01, with document 02's where they are quoted, in that paper's order but for the list machine, which stands beside the book,
-- after the rules that both follow. Units and time, the offer and the gate stand below, in offer_rules.
pub mod Record
pub mod Words
pub mod Force
pub mod Refusals
pub mod Book
pub mod ListMachine
pub mod ByKind
pub mod ByNumber
pub mod Claims
pub mod ContractedRun
