pub mod Leaves
pub mod Openings
pub mod PartReads
pub mod Connectives
pub mod Quantifiers
pub mod Levels
pub mod TheoryLines
