pub mod Bytes
pub mod Places
pub mod NumberPlaces
pub mod Found
pub mod FoundBytes
pub mod Going
pub mod Sizes
pub mod Told
