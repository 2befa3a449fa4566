pub mod Cursor
pub mod ClauseText
