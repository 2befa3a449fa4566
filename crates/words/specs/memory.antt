pub mod Tags
pub mod Kinds
pub mod Words
pub mod Stored
pub mod Paths
pub mod Storing
