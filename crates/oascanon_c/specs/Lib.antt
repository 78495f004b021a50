pub mod Outcomes
pub mod Rooms
pub mod Filling
pub mod Buffers
pub mod Reports
pub mod WideOutcomes
pub mod Preparing
pub mod Laws
