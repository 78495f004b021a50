pub mod SourceLemmas
pub mod TameLemmas
pub mod TameFields
pub mod TameRecords
pub mod LongLemmas
