-- What follows from the definitions. Nothing here has to be trusted.
pub mod PointsLaws
pub mod RingsLaws
pub mod ReadingsLaws
pub mod RectanglesLaws
