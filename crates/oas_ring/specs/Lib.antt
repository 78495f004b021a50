pub mod Points
pub mod Rings
pub mod Readings
pub mod Race
pub mod SoleLeast
pub mod View
pub mod Rectangles
pub mod Laws
