pub mod Printing
pub mod Concluding
