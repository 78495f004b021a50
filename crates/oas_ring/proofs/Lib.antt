pub mod ReadingLemmas
pub mod RaceLemmas
pub mod SoleLemmas
