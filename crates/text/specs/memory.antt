pub mod Classes
pub mod Found
pub mod Going
pub mod Numbers
pub mod Sizes
pub mod Told
pub mod Listed
