pub mod NameTable
pub mod Facts
pub mod Bindings
pub mod Signature
pub mod Lists
pub mod Entries
pub mod TermReads
