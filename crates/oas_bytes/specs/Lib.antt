pub mod Script
pub mod Readers
pub mod Writing
pub mod Devices
pub mod Noted
pub mod Outlets
pub mod Laws
