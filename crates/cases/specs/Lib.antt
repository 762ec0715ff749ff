-- Document 01, "Cases, (p) proved", and cases of document 02: records written from their fields, the table of cases, and the worked run.
pub mod Records
pub mod Cases
pub mod WorkedRun
