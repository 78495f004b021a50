pub mod DiffLemmas
pub mod MarkLemmas
pub mod MessageLemmas
pub mod RunLemmas
