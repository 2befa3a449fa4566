pub mod Flags
pub mod Values
pub mod Admitted
