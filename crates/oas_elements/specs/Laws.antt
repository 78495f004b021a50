-- What follows from the definitions. Nothing here has to be trusted.
pub mod BagLaws
pub mod ContentsLaws
pub mod ElementLaws
pub mod LayoutLaws
pub mod SameLaws
