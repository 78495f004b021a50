pub mod Places
pub mod Shortening
pub mod Laws
pub mod AnyLength
pub mod Reading
