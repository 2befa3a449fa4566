pub mod Turns
pub mod GroundReads
