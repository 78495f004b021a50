pub mod ReadingLemmas
pub mod PointListLemmas
pub mod StepLemmas
pub mod SumLemmas
pub mod VertexLemmas
pub mod RangeLemmas
pub mod OffsetLemmas
pub mod RepetitionLemmas
