pub mod Loose
pub mod Parts
pub mod Tally
pub mod Laws
