pub mod Flags
pub mod Values
pub mod Indexed
pub mod Evaluated
pub mod Admitted
