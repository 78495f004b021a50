pub mod EntryLemmas
pub mod EntryLengths
pub mod FieldLemmas
pub mod MicronLemmas
