pub mod Faults
pub mod Declarations
pub mod Rows
pub mod ProblemLines
