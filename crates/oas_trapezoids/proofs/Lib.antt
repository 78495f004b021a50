mod KindLemmas
pub mod Grids
pub mod StepLemmas
pub mod BoxLemmas
pub mod LawLemmas
pub mod ModalLemmas
pub mod DrawLemmas
pub mod ReadLemmas
pub mod ShapeLemmas
pub mod ReasonLemmas
