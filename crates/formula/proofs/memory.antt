pub mod Instances
pub mod Replaced
pub mod Instantiated
pub mod Simplified
pub mod Simplification
pub mod Deciding
pub mod Decided
pub mod Rewriting
