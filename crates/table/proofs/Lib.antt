pub mod Tables
pub mod Packing
