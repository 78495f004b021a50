pub mod KeptLemmas
pub mod PlaceLemmas
pub mod DrawLemmas
pub mod WaitLemmas
pub mod SortLemmas
pub mod WeighLemmas
