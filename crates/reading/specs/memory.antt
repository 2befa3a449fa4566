pub mod Faults
pub mod FormulaReads
pub mod Openings
pub mod PartReads
pub mod TheoryLines
