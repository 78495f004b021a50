pub mod PhraseLemmas
pub mod RunLemmas
pub mod AnswerLemmas
pub mod SamenessLemmas
pub mod EndLemmas
pub mod CheckLemmas
pub mod JudgedLemmas
