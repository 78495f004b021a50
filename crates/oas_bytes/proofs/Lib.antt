pub mod ScriptLemmas
pub mod ReaderLemmas
pub mod WritingLemmas
pub mod OutletLemmas
