pub mod AddLemmas
pub mod JoinLemmas
pub mod LooseLemmas
pub mod PartLemmas
pub mod StoreLemmas
