pub mod BlockLemmas
pub mod EntryLemmas
pub mod LastLemmas
pub mod OrderLemmas
