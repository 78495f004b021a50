pub mod Blocks
pub mod Comparing
pub mod Entries
pub mod Runs
pub mod Laws
