pub mod Fronts
pub mod Peeked
pub mod Named
pub mod Lists
pub mod Polygons
pub mod Paths
pub mod Figures
pub mod Kinds
