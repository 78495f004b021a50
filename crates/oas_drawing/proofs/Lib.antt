pub mod Latest
pub mod Steps
pub mod Grids
pub mod AllKinds
pub mod Copies
pub mod Rectangles
