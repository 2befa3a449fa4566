pub mod Regions
pub mod Targets
pub mod Decisions
pub mod Moves
