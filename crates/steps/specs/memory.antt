pub mod Held
pub mod Steps
pub mod Fault
pub mod Memory
pub mod Decisions
