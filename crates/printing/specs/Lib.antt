pub mod memory
