-- What follows from the definitions. Nothing here has to be trusted.
pub mod PlaceLaws
