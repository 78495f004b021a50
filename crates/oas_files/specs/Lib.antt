pub mod Opening
pub mod Creating
pub mod Taking
