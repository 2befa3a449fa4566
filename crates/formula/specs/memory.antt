pub mod Instances
pub mod Simplified
pub mod Deciding
pub mod Rewriting
