pub mod NameLists
pub mod Compared
